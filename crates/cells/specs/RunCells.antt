-- Document 01, "Cells": the cells that runs list. A cell, and the sums and totals of cells, are defined in `cell_ground`.
use Rattle.std.specs.Prelude.{ℕ, zero, suc, ◌<◌, ◌≡◌, List, [], ◌∷◌, ◌++◌, length, get_or}
use Rattle.cell_ground.specs.CellSums.{Cell, origin}
use Rattle.cells.specs.declared.Run.{Run}

-- n cells of row y, from column x on.
unfoldable pub cells_from : ℕ → ℕ → ℕ → List Cell
cells_from y x zero = []
cells_from y x (suc n) = record { x = x; y = y } ∷ cells_from y (suc x) n

-- A run's cells: as many as its length, from its first column on, in its row.
unfoldable pub cells_of : Run → List Cell
cells_of r = cells_from r.row r.first r.length

-- The cells of runs, run after run.
unfoldable pub all_cells : List Run → List Cell
all_cells [] = []
all_cells (r ∷ rs) = cells_of r ++ all_cells rs

-- No cell stands at two places of a list.
abbrev pub EachOnce : List Cell → Type 0
EachOnce cs = (i j : ℕ) → i < j → j < length cs → get_or cs i origin ≡ get_or cs j origin → ⊥
