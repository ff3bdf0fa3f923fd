-- The cells of a mask by their position in it: bit i of word k is position 64 k + i, and column x of row y is position 1,024 y + x.
use Rattle.std.specs.Prelude.{ℕ, zero, suc, ◌+◌, ◌-◌, ◌*◌, ◌/◌, ◌%◌, List, [], ◌∷◌}
use Rattle.cell_ground.specs.CellSums.{Cell}
use Rattle.cells.specs.declared.Run.{Run}
use Rattle.mask_cells.specs.MaskCells.{cell_at}

abbrev pub cell_of : ℕ → Cell
cell_of g = cell_at (g / 1024) (g % 1024)

-- The cells at n positions, from position g on.
unfoldable pub cells_on : ℕ → ℕ → List Cell
cells_on g zero = []
cells_on g (suc n) = cell_of g ∷ cells_on (suc g) n

-- The end of the row that a position lies in.
abbrev pub row_end : ℕ → ℕ
row_end s = s / 1024 * 1024 + 1024

-- The run of the positions from s up to e, of one row.
abbrev pub run_between : ℕ → ℕ → Run
run_between s e = record { row = s / 1024; first = s % 1024; length = e - s }
