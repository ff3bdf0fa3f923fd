-- The number and the totals of an answer are the outcome that the answer reads as.
use Prim.Native.Nat.{ℕ}
use mathlib.Core.Path.{◌≡◌, refl}
use Rattle.std.specs.Prelude.{Result, Ok, Err}
use Rattle.refusals.specs.Numbers.{number_of}
use Rattle.outline.specs.declared.Totals.{Totals}
use Rattle.outline.specs.ListCall.{Outcome}
use Rattle.outline_answers.specs.declared.OutlineRefusal.{OutlineRefusal}
use Rattle.outline_answers.specs.ListAnswer.{totals_of, list_number, reading as list_reading}
use Rattle.affine.specs.declared.MapRefusal.{MapRefusal}
use Rattle.affine.specs.Answer.{map_number, reading as map_reading}

abbrev told : {R : Type 0} → (R → ℕ) → Result Totals R → Outcome
told number a = record { number = number_of number a; totals = totals_of a }

pub list_told : (a : Result Totals OutlineRefusal) → told list_number a ≡ list_reading a
list_told (Ok t) = refl
list_told (Err r) = refl

pub map_told : (a : Result Totals MapRefusal) → told map_number a ≡ map_reading a
map_told (Ok t) = refl
map_told (Err r) = refl
