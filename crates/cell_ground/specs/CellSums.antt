-- Document 01, "Cells": a cell by its indices, and the six sums over a list of cells. Document 02, CR 2, calls them the old sums: no call answers them.
use Rattle.std.specs.Prelude.{ℕ, ◌*◌, List, [], ◌∷◌, ℤ, pos, ◌+ℤ◌}

-- A cell of the grid: x is its column, y its row.
pub record Cell : Type 0 where
  pub x : ℕ
  pub y : ℕ

abbrev pub origin : Cell
origin = record { x = 0; y = 0 }

-- A, the number of cells, then Sx, Sy, Sxx, Sxy and Syy: the sums of x, y, x², xy and y².
pub record CellSums : Type 0 where
  pub count : ℤ
  pub x : ℤ
  pub y : ℤ
  pub xx : ℤ
  pub xy : ℤ
  pub yy : ℤ

-- What one cell counts for: 1, x, y, x², xy, y².
abbrev pub cell_terms : Cell → CellSums
cell_terms c =
    record {
      count = pos 1;
      x = pos c.x;
      y = pos c.y;
      xx = pos (c.x * c.x);
      xy = pos (c.x * c.y);
      yy = pos (c.y * c.y);
    }

abbrev pub no_sums : CellSums
no_sums = record { count = pos 0; x = pos 0; y = pos 0; xx = pos 0; xy = pos 0; yy = pos 0 }

-- Each of the six by itself.
abbrev pub plus_sums : CellSums → CellSums → CellSums
plus_sums s t =
    record {
      count = s.count +ℤ t.count;
      x = s.x +ℤ t.x;
      y = s.y +ℤ t.y;
      xx = s.xx +ℤ t.xx;
      xy = s.xy +ℤ t.xy;
      yy = s.yy +ℤ t.yy;
    }

-- The terms of a list of cells, added cell by cell.
unfoldable pub sums_over : List Cell → CellSums
sums_over [] = no_sums
sums_over (c ∷ cs) = plus_sums (cell_terms c) (sums_over cs)
