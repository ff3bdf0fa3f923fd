-- The reading is one to one: an answer follows from its number and its totals, so no two answers have the same reading. And each answer has the number that its name stands for.
use mathlib.Core.Path.{◌≡◌, refl, sym, ◌∙◌, ap}
use mathlib.Core.Bool.{cond}
use mathlib.Core.List.{[], ◌∷◌, map}
use lib.Dec.{eqb}
use Rattle.std.specs.Prelude.{Result, Ok, Err}
use Rattle.third_order.specs.declared.ThirdTotals.{ThirdTotals}
use Rattle.third_order.specs.ThirdCall.{ThirdOutcome}
use Rattle.third_moments.specs.declared.ThirdRefusal.{ThirdRefusal}
use Rattle.third_moments.specs.declared.ThirdRefusal.TheVariants.{WrongLength, OutsideLimits, TooFarForThirdMoments}
use Rattle.third_moments.specs.ThirdAnswers.{reading}

abbrev answer_of : ThirdOutcome → Result ThirdTotals ThirdRefusal
answer_of r = cond (eqb r.number 2) (Err WrongLength) (cond (eqb r.number 1) (Err OutsideLimits) (cond (eqb r.number 35) (Err TooFarForThirdMoments) (Ok r.totals)))

answer_back : (a : Result ThirdTotals ThirdRefusal) → answer_of (reading a) ≡ a
answer_back (Ok t) = refl
answer_back (Err WrongLength) = refl
answer_back (Err OutsideLimits) = refl
answer_back (Err TooFarForThirdMoments) = refl

pub reading_one_to_one : (a b : Result ThirdTotals ThirdRefusal) → reading a ≡ reading b → a ≡ b
reading_one_to_one a b e = sym (answer_back a) ∙ ap answer_of e ∙ answer_back b

-- ---- the numbers by the names of the answers

record Numbered : Type 0 where
  accepted : (t : ThirdTotals) → (reading (Ok t)).number ≡ 0
  refused : map (λ r. (reading (Err r)).number) (OutsideLimits ∷ WrongLength ∷ TooFarForThirdMoments ∷ []) ≡ 1 ∷ 2 ∷ 35 ∷ []

numbered : Numbered
numbered = record { accepted = λ t. refl; refused = refl }
