-- The whole grid, 1,024 rows of 1,024 cells: the call accepts it, and its totals are those of the outline round it.
use Prim.Native.Nat.{ℕ, zero, suc}
use mathlib.Core.Path.{◌≡◌, refl, ap, ap₂, ◌∙◌}
use mathlib.Core.List.{List, [], ◌∷◌}
use lib.IntN.{pos}
use Rattle.outline.specs.EdgeSums.{open_edges, edges, sum_over, outline_totals}
use Rattle.column_sums.specs.SumsBelow.{index_sum, square_sum}
use Rattle.cell_ground.specs.CellSums.{CellSums, no_sums, plus_sums, sums_over}
use Rattle.cell_ground.specs.Ground.{ground_totals, ground_of, row_sums, corner}
use Rattle.cell_ground.proofs.SumLaws.{sums-append}
use Rattle.cells.specs.declared.Run.{Run}
use Rattle.cells.specs.RunCells.{cells_of, all_cells}
use Rattle.cells.specs.RegionCall.{bad_run, any_bad, lies_after, disordered, too_many, region_call}
use Rattle.cells.proofs.ClosedSums.{run-closed}
use Rattle.cells.proofs.RunLimits.{run}

-- n full rows, from row y up; and their sums, row by row.
rows_from : ℕ → ℕ → List Run
rows_from y zero = []
rows_from y (suc n) = run y 0 1024 ∷ rows_from (suc y) n

sums_from : ℕ → ℕ → CellSums
sums_from y zero = no_sums
sums_from y (suc n) = plus_sums (row_sums (pos y) (pos 1024) (pos 523_776) (pos 357_389_824)) (sums_from (suc y) n)

full_row : (y : ℕ) → sums_over (cells_of (run y 0 1024)) ≡ row_sums (pos y) (pos 1024) (pos 523_776) (pos 357_389_824)
unfolding cells_of index_sum square_sum
full_row y = run-closed y 0 1024

full_rows : (y n : ℕ) → sums_over (all_cells (rows_from y n)) ≡ sums_from y n
unfolding all_cells sums_over rows_from sums_from
full_rows y zero = refl
full_rows y (suc n) = sums-append (cells_of (run y 0 1024)) (all_cells (rows_from (suc y) n)) ∙ ap₂ plus_sums (full_row y) (full_rows (suc y) n)

accepted_grid : region_call (rows_from 0 1024) ≡ record { number = 0; index = 0; totals = ground_of (all_cells (rows_from 0 1024)) }
unfolding rows_from bad_run any_bad lies_after disordered too_many region_call
accepted_grid = refl

grid_totals : ground_totals (sums_from 0 1024) ≡ outline_totals (corner 0 0 ∷ corner 1024 0 ∷ corner 1024 1024 ∷ corner 0 1024 ∷ [])
unfolding sums_from open_edges edges sum_over
grid_totals = refl

whole_grid : region_call (rows_from 0 1024) ≡ record { number = 0; index = 0; totals = outline_totals (corner 0 0 ∷ corner 1024 0 ∷ corner 1024 1024 ∷ corner 0 1024 ∷ []) }
unfolding ground_of
whole_grid = accepted_grid ∙ ap (λ t. record { number = 0; index = 0; totals = t }) (ap ground_totals (full_rows 0 1024) ∙ grid_totals)
