-- The sums over a run, with the sums of squares from two entries of the annex. The law on x² is used at both ends of a row, and in every row.
use mathlib.Core.Path.{◌≡◌, refl, sym, ap, ◌∙◌}
use mathlib.Core.List.{List}
use Prim.Native.Nat.{ℕ, ◌+◌, ◌≤◌}
use native.Mathlib.Omega.{arith}
use lib.IntN.{pos, ◌-ℤ◌}
use lib.ListN.{get_or}
use Rattle.column_sums.specs.SumsBelow.{index_sum, square_sum}
use Rattle.column_sums.specs.Annex.{entries_from, square_sums}
use Rattle.column_sums.proofs.Entries.{difference_is}
use Rattle.cell_ground.specs.CellSums.{sums_over}
use Rattle.cell_ground.specs.Ground.{row_sums}
use Rattle.cells.specs.declared.Run.{Run}
use Rattle.cells.specs.RunCells.{cells_of}
use Rattle.cells.specs.RegionLaws.{SquaresFromAnnex}
use Rattle.cells.specs.private.Scan.{sums_by}
use Rattle.cells.proofs.ClosedSums.{between, run-closed}
use Rattle.cells.proofs.RunLimits.{run}

-- With the annex for a table, the sums by those below a run's ends are the sums over its cells.
pub by_annex : {table : List ℕ} (r : Run) → table ≡ square_sums → r.first + r.length ≤ 1024 → sums_by (λ k. get_or table k 0) r ≡ sums_over (cells_of r)
unfolding cells_of
by_annex r annex h =
    let end = r.first + r.length in
    ap (row_sums (pos r.row) (pos r.length) (between (index_sum end) (index_sum r.first))) (difference_is r.first end annex (omega arith) h) ∙ sym (run-closed r.row r.first r.length)

pub squares_from_annex : SquaresFromAnnex
squares_from_annex r h = sym (λ i. (by_annex r refl h i).xx)

-- ---- uses: a run within a row, the first cell, the last cell and the whole row; and the same columns in any row

three_cells : (sums_over (cells_of (run 3 2 3))).xx ≡ pos 30 -ℤ pos 1
unfolding square_sums entries_from square_sum
three_cells = squares_from_annex (run 3 2 3) (omega arith)

first_cell : (sums_over (cells_of (run 3 0 1))).xx ≡ pos 0
unfolding square_sums entries_from square_sum
first_cell = squares_from_annex (run 3 0 1) (omega arith)

last_cell : (sums_over (cells_of (run 3 1023 1))).xx ≡ pos 357_389_824 -ℤ pos 356_343_295
unfolding square_sums entries_from square_sum
last_cell = squares_from_annex (run 3 1023 1) (omega arith)

whole_row : (sums_over (cells_of (run 3 0 1024))).xx ≡ pos 357_389_824
unfolding square_sums entries_from square_sum
whole_row = squares_from_annex (run 3 0 1024) (omega arith)

in_every_row : (y z x n : ℕ) → x + n ≤ 1024 → (sums_over (cells_of (run y x n))).xx ≡ (sums_over (cells_of (run z x n))).xx
in_every_row y z x n h = squares_from_annex (run y x n) h ∙ sym (squares_from_annex (run z x n) h)
