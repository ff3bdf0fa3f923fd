-- The reading is one to one: an answer follows from its number and its figures, so no two answers have the same reading. And each answer has the number that its name
-- stands for.
use mathlib.Core.Path.{◌≡◌, refl, sym, ◌∙◌, ap}
use mathlib.Core.Bool.{cond}
use mathlib.Core.List.{[], ◌∷◌, map}
use lib.Dec.{eqb}
use Rattle.std.specs.Prelude.{Result, Ok, Err}
use Rattle.outline_answers.specs.declared.OutlineRefusal.{OutlineRefusal}
use Rattle.outline_answers.specs.declared.OutlineRefusal.TheVariants.{WrongLength, OutsideLimits}
use Rattle.two_walks.specs.declared.Figures.{Figures}
use Rattle.two_walks.specs.Comparison.{FiguresOutcome}
use Rattle.comparison.specs.Answer.{reading}

abbrev answer_of : FiguresOutcome → Result Figures OutlineRefusal
answer_of r = cond (eqb r.number 2) (Err WrongLength) (cond (eqb r.number 1) (Err OutsideLimits) (Ok r.figures))

answer_back : (a : Result Figures OutlineRefusal) → answer_of (reading a) ≡ a
answer_back (Ok f) = refl
answer_back (Err WrongLength) = refl
answer_back (Err OutsideLimits) = refl

pub reading_one_to_one : (a b : Result Figures OutlineRefusal) → reading a ≡ reading b → a ≡ b
reading_one_to_one a b e = sym (answer_back a) ∙ ap answer_of e ∙ answer_back b

-- ---- the numbers by the names of the answers

record Numbered : Type 0 where
  compared : (f : Figures) → (reading (Ok f)).number ≡ 0
  refused : map (λ r. (reading (Err r)).number) (OutsideLimits ∷ WrongLength ∷ []) ≡ 1 ∷ 2 ∷ []

numbered : Numbered
numbered = record { compared = λ f. refl; refused = refl }
