-- Document 02, CR 1: which cells of a mask are marked, and its longest runs. A mask is a list of words of 64 bits, 16 words to a row, from row 0 up.
use Rattle.std.specs.Prelude.{ℕ, zero, suc, ◌+◌, ◌-◌, ◌*◌, ◌/◌, ◌%◌, Bool, not, ◌&&◌, ◌||◌, cond, List, [], ◌∷◌, ◌++◌, map, eqb, length, get_or}
use Rattle.integers.specs.Search.{first_where}
use Rattle.word_runs.specs.Bits.{bit}
use Rattle.cell_ground.specs.CellSums.{Cell}
use Rattle.cells.specs.declared.Run.{Run}
use Rattle.cells.specs.RunCells.{cells_from}

abbrev pub cell_at : ℕ → ℕ → Cell
cell_at y x = record { x = x; y = y }

-- ---- the marked cells

-- Column x of row y is bit x mod 64 of the row's word x / 64; bits count from the lowest. A row that the list does not have has no marked cell.
unfoldable pub is_marked : List ℕ → Cell → Bool
is_marked ws c = eqb (bit (get_or ws (16 * c.y + c.x / 64) 0) (c.x % 64)) 1

-- The cells of n rows, from row y up: row by row, and in a row by column.
unfoldable pub rows_from : ℕ → ℕ → List Cell
rows_from y zero = []
rows_from y (suc n) = cells_from y 0 1024 ++ rows_from (suc y) n

-- The cells of the rows that a mask has.
abbrev pub mask_grid : List ℕ → List Cell
mask_grid ws = rows_from 0 (length ws / 16)

-- Those cells of a list that p holds of, in order.
unfoldable pub those : (Cell → Bool) → List Cell → List Cell
those p [] = []
those p (c ∷ cs) = cond (p c) (c ∷ those p cs) (those p cs)

unfoldable pub marked_cells : List ℕ → List Cell
marked_cells ws = those (is_marked ws) (mask_grid ws)

-- ---- the longest runs

-- A longest run begins at a marked cell that is the first of its row, or whose neighbour to the west is not marked.
unfoldable pub begins_run : List ℕ → Cell → Bool
begins_run ws c = is_marked ws c && (eqb c.x 0 || not (is_marked ws (cell_at c.y (c.x - 1))))

-- It goes on up to the first column from there whose cell is not marked, or up to the end of the row.
unfoldable pub end_column : List ℕ → Cell → ℕ
end_column ws c = first_where (λ (x : ℕ). not (is_marked ws (cell_at c.y x))) (1024 - c.x) c.x

abbrev pub run_from : List ℕ → Cell → Run
run_from ws c = record { row = c.y; first = c.x; length = end_column ws c - c.x }

-- One run from each cell where one begins, in the order of the cells.
unfoldable pub longest_runs : List ℕ → List Run
longest_runs ws = map (run_from ws) (those (begins_run ws) (mask_grid ws))
