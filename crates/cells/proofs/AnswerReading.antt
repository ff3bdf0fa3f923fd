-- The reading of an answer in document 01's terms is one to one: the answer can be told from its number, index and totals.
use mathlib.Core.Path.{◌≡◌, refl, sym, ◌∙◌, ap}
use mathlib.Core.Bool.{cond}
use Rattle.std.specs.Prelude.{Result, Ok, Err}
use lib.Dec.{eqb}
use Rattle.outline.specs.declared.Totals.{Totals}
use Rattle.cells.specs.declared.RegionRefusal.{RegionRefusal}
use Rattle.cells.specs.declared.RegionRefusal.TheVariants.{BadRun, OutOfOrder, TooManyRuns}
use Rattle.cells.specs.RegionCall.{RegionOutcome, reading}

abbrev refusal_from : RegionOutcome → RegionRefusal
refusal_from o = cond (eqb o.number 6) (BadRun o.index) (cond (eqb o.number 7) (OutOfOrder o.index) TooManyRuns)

abbrev answer_from : RegionOutcome → Result Totals RegionRefusal
answer_from o = cond (eqb o.number 0) (Ok o.totals) (Err (refusal_from o))

told : (a : Result Totals RegionRefusal) → answer_from (reading a) ≡ a
told (Ok t) = refl
told (Err (BadRun i)) = refl
told (Err (OutOfOrder i)) = refl
told (Err TooManyRuns) = refl

pub reading_one_to_one : (a b : Result Totals RegionRefusal) → reading a ≡ reading b → a ≡ b
reading_one_to_one a b e = sym (told a) ∙ ap answer_from e ∙ told b
