-- The marked cells of one word of a mask, and those between two positions.
use Rattle.std.specs.Prelude.{ℕ, ◌+◌, ◌-◌, ◌*◌, ◌%◌, Bool, List, eqb}
use Rattle.word_runs.specs.Bits.{bit}
use Rattle.cell_ground.specs.CellSums.{Cell}
use Rattle.mask_cells.specs.MaskCells.{is_marked, those}
use Rattle.mask_cells.specs.private.Positions.{cells_on}

-- Whether the bit of a word that stands for the column of a cell is set.
unfoldable pub marked_in : ℕ → Cell → Bool
marked_in w c = eqb (bit w (c.x % 64)) 1

-- The marked cells among the n lowest bits of w, which is word k of the mask.
unfoldable pub word_cells : ℕ → ℕ → ℕ → List Cell
word_cells w k n = those (marked_in w) (cells_on (64 * k) n)

-- The marked cells of a mask at the positions from g up to e.
unfoldable pub marked_between : List ℕ → ℕ → ℕ → List Cell
marked_between ws g e = those (is_marked ws) (cells_on g (e - g))

-- Those of row y, which has 1,024 positions.
abbrev pub row_cells : List ℕ → ℕ → List Cell
row_cells ws y = marked_between ws (1024 * y) (1024 * (y + 1))
