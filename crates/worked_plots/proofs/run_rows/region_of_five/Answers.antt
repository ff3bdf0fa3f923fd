-- `worked_plots::run_rows::region_of_five` meets its contract: the array's first five runs are those copied.
use mathlib.Core.Path.{◌≡◌, ap, ◌∙◌}
use Rattle.std.proofs.Common.{List, take, ◌++◌, length, arith}
use Rattle.std.proofs.lemmas.List.{take-append-le, take_all}
use Rattle.cells.specs.declared.Run.{Run}
use Rattle.cells.specs.RegionCall.{region_call}
use Rattle.worked_plots.proofs.run_rows.region_of_five.Goals as goal

front : (new five rest : List Run) → length new ≡ 5 → new ≡ five → region_call (take 5 (new ++ rest)) ≡ region_call five
front new five rest long same = ap region_call (take-append-le 5 new rest (omega arith) ∙ take_all 5 new (omega arith) ∙ same)

pub returns : goal.returns
returns c =
    let copied = c.copy_from_slice.ensures in
    c.region_totals_of.ensures ∙ front _ _ _ copied.len copied.after
