-- `cells::Scan::found_with` meets its contract: case by case of what was found so far, its tests are the definition's.
use mathlib.Core.Path.{◌≡◌, sym, ap, ◌∙◌, subst}
use mathlib.Core.Bool.{false}
use mathlib.Core.List.{List}
use Prim.Native.Nat.{ℕ, ◌^◌}
use lib.ListN.{get_or}
use Rattle.column_sums.specs.Annex.{square_sums}
use Rattle.cell_ground.specs.CellSums.{sums_over}
use Rattle.cell_ground.specs.private.SumBounds.{SumsWithin}
use Rattle.cells.specs.declared.CellSums as Code
use Rattle.cells.specs.declared.Run.{Run}
use Rattle.cells.specs.RegionCall.{bad_run}
use Rattle.cells.specs.RunCells.{cells_of}
use Rattle.cells.specs.private.Scan.{held, sums_of, sums_by, found_with}
use Rattle.cells.proofs.AnnexSums.{by_annex}
use Rattle.cells.proofs.GridLaws.{in_grid, run_within}
use Rattle.cells.proofs.Scan.found_with.Goals as goal

-- ---- a run that 6 does not refuse: the sums by the annex are those over its cells, and small

module _ (run : Run) {squares : List ℕ} (annex : squares ≡ square_sums) (good : bad_run run ≡ false) {more : Code.CellSums} (made : more ≡ held (sums_by (λ k. get_or squares k 0) run)) where
  summed : more ≡ held (sums_over (cells_of run))
  summed = made ∙ ap held (by_annex run annex (in_grid run good).end)

  small : SumsWithin (2 ^ 10) (sums_of more)
  small = subst (λ s. SumsWithin (2 ^ 10) (sums_of s)) (sym summed) (run_within run (in_grid run good))

-- ---- the answers

pub returns-then-is_bad : goal.returns-then-is_bad
unfolding found_with
returns-then-is_bad c = rw (c.in-Ok.is, sym c.if-is_bad.ensures)

pub returns-then-not-lies_after : goal.returns-then-not-lies_after
unfolding found_with
returns-then-not-lies_after c = rw (c.in-Ok.is, sym c.if-is_bad.ensures, sym c.if-not-lies_after.ensures)

pub sums-requires : goal.sums-requires
sums-requires c = in_grid _ (sym c.if-is_bad.ensures)

pub plus-requires-clause-more : goal.plus-requires-clause-more
plus-requires-clause-more c = small c.args.run c.table.ensures (sym c.if-is_bad.ensures) c.sums.ensures

pub returns-else-not-lies_after : goal.returns-else-not-lies_after
unfolding found_with
returns-else-not-lies_after c =
    let good : bad_run c.args.run ≡ false = sym c.if-is_bad.ensures in
    rw (c.in-Ok.is, good, sym c.if-not-lies_after.ensures, c.plus.ensures, summed c.args.run c.table.ensures good c.sums.ensures)

pub returns-in-Err : goal.returns-in-Err
unfolding found_with
returns-in-Err c = rw (c.in-Err.is, c.with.ensures)
