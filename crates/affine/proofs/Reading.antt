-- Two answers of the map call that read the same are the same, since the reading gives the answer back: no other reply keeps the promise.
use mathlib.Core.Path.{◌≡◌, refl, sym, ◌∙◌, ap}
use mathlib.Core.Bool.{cond}
use lib.Dec.{eqb}
use Rattle.std.specs.Prelude.{Result, Ok, Err}
use Rattle.outline.specs.declared.Totals.{Totals}
use Rattle.outline.specs.ListCall.{Outcome}
use Rattle.affine.specs.declared.MapRefusal.{MapRefusal}
use Rattle.affine.specs.declared.MapRefusal.TheVariants.{MapOutsideLimits, TotalsOutsideBounds, ResultOutsideLimits}
use Rattle.affine.specs.Answer.{reading}

answer : Outcome → Result Totals MapRefusal
answer o = cond (eqb o.number 0) (Ok o.totals) (cond (eqb o.number 3) (Err MapOutsideLimits) (cond (eqb o.number 4) (Err TotalsOutsideBounds) (Err ResultOutsideLimits)))

answer_of_reading : (p : Result Totals MapRefusal) → answer (reading p) ≡ p
unfolding answer
answer_of_reading (Ok t) = refl
answer_of_reading (Err MapOutsideLimits) = refl
answer_of_reading (Err TotalsOutsideBounds) = refl
answer_of_reading (Err ResultOutsideLimits) = refl

pub reading_one_to_one : (p q : Result Totals MapRefusal) → reading p ≡ reading q → p ≡ q
reading_one_to_one p q e = sym (answer_of_reading p) ∙ ap answer e ∙ answer_of_reading q
