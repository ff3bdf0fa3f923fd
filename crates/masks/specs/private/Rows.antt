-- The sums over cells of a row as the code takes them, and how large they get.
use Rattle.std.specs.Prelude.{ℕ, ◌*◌, ◌≤◌, ◌^◌, List, pos, nat_abs, ◌+ℤ◌, ◌-ℤ◌}
use Rattle.outline.specs.declared.Totals.{Totals}
use Rattle.column_sums.specs.SumsBelow.{index_sum}
use Rattle.cell_ground.specs.CellSums.{Cell, CellSums, sums_over}
use Rattle.cell_ground.specs.Ground.{ground_totals, row_sums}
use Rattle.masks.specs.declared.rows.RowSums.{RowSums}

-- Of six sums: the number of cells, and the sums of x and of x².
abbrev pub three_of : CellSums → RowSums
three_of s = record { count = s.count; x = s.x; xx = s.xx }

-- With the columns from `first` up to `end`, where `squares` has the sums of squares below each column; no cell is counted.
abbrev pub with_span : (ℕ → ℕ) → RowSums → ℕ → ℕ → RowSums
with_span squares s first end = record { count = s.count; x = s.x +ℤ (pos (index_sum end) -ℤ pos (index_sum first)); xx = s.xx +ℤ (pos (squares end) -ℤ pos (squares first)) }

-- With the columns of further cells; no cell is counted.
abbrev pub with_columns : RowSums → CellSums → RowSums
with_columns s t = record { count = s.count; x = s.x +ℤ t.x; xx = s.xx +ℤ t.xx }

-- With further cells.
abbrev pub with_cells : RowSums → CellSums → RowSums
with_cells s t = record { count = s.count +ℤ t.count; x = s.x +ℤ t.x; xx = s.xx +ℤ t.xx }

-- The sums are at most those of n cells.
pub record RowWithin (n : ℕ) (s : RowSums) : Type 0 where
  pub count : nat_abs s.count ≤ n
  pub x : nat_abs s.x ≤ n * 2 ^ 10
  pub xx : nat_abs s.xx ≤ n * 2 ^ 20

-- The totals of the ground under cells of row y, by the columns that the cells stand in.
abbrev pub row_ground : ℕ → List Cell → Totals
row_ground y cs = ground_totals (row_sums (pos y) (sums_over cs).count (sums_over cs).x (sums_over cs).xx)
