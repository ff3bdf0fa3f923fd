-- The readings of the answers on masks are one to one: an answer can be told from its number and its values.
use mathlib.Core.Path.{◌≡◌, refl, sym, ◌∙◌, ap}
use mathlib.Core.Bool.{cond}
use mathlib.Core.List.{List}
use Prim.Native.Nat.{ℕ}
use lib.Dec.{eqb}
use Rattle.std.specs.Prelude.{Result, Ok, Err}
use Rattle.outline.specs.declared.Totals.{Totals}
use Rattle.outline.specs.ListCall.{Outcome}
use Rattle.cells.specs.declared.Run.{Run}
use Rattle.mask_cells.specs.MaskCalls.{MaskRunsOutcome}
use Rattle.masks.specs.declared.WrongLength.{WrongLength}
use Rattle.masks.specs.declared.MaskRunsRefusal.{MaskRunsRefusal}
use Rattle.masks.specs.declared.MaskRunsRefusal.TheVariants as Runs
use Rattle.masks.specs.MaskAnswers.{totals_reading, runs_reading}

abbrev totals_answer_from : Outcome → Result Totals WrongLength
totals_answer_from o = cond (eqb o.number 0) (Ok o.totals) (Err (record {}))

totals-told : (a : Result Totals WrongLength) → totals_answer_from (totals_reading a) ≡ a
totals-told (Ok t) = refl
totals-told (Err r) = refl

pub totals_one_to_one : (a b : Result Totals WrongLength) → totals_reading a ≡ totals_reading b → a ≡ b
totals_one_to_one a b e = sym (totals-told a) ∙ ap totals_answer_from e ∙ totals-told b

abbrev runs_answer_from : MaskRunsOutcome → Result ℕ MaskRunsRefusal
runs_answer_from o = cond (eqb o.number 0) (Ok o.count) (Err (cond (eqb o.number 31) Runs.WrongLength Runs.TooManyRuns))

runs-told : (a : Result ℕ MaskRunsRefusal) (after : List Run) → runs_answer_from (runs_reading a after) ≡ a
runs-told (Ok n) after = refl
runs-told (Err Runs.WrongLength) after = refl
runs-told (Err Runs.TooManyRuns) after = refl

-- The list too: it is a part of the outcome.
pub runs_one_to_one : (a b : Result ℕ MaskRunsRefusal) (after other : List Run) → runs_reading a after ≡ runs_reading b other → (a ≡ b) × (after ≡ other)
runs_one_to_one a b after other e = (sym (runs-told a after) ∙ ap runs_answer_from e ∙ runs-told b other, sym (list-told a after) ∙ ap (λ (o : MaskRunsOutcome). o.list) e ∙ list-told b other)
  where
    list-told : (c : Result ℕ MaskRunsRefusal) (rs : List Run) → (runs_reading c rs).list ≡ rs
    list-told (Ok n) rs = refl
    list-told (Err r) rs = refl
