-- Document 02, CR 2: a cell is the square of ground from (x, y) to (x + 1, y + 1), and cells have the six totals of an outline.
use Rattle.std.specs.Prelude.{ℕ, ◌+◌, List, [], ◌∷◌, ℤ, pos, ◌+ℤ◌, ◌*ℤ◌}
use Rattle.outline.specs.declared.Position.{Position}
use Rattle.outline.specs.declared.Totals.{Totals}
use Rattle.outline.specs.EdgeSums.{zeros, plus}
use Rattle.outline.specs.ListCall.{numbers, list_call}
use Rattle.cell_ground.specs.CellSums.{Cell, CellSums, sums_over}

-- ---- by the old sums

-- X6 and Y6: 6 × the sum of an index, and 3 for each cell.
abbrev pub first_total : ℤ → ℤ → ℤ
first_total a s = pos 6 *ℤ s +ℤ pos 3 *ℤ a

-- XX12 and YY12: 12 × the sum of the squares, 12 × the sum of the index, and 4 for each cell.
abbrev pub second_total : ℤ → ℤ → ℤ → ℤ
second_total a s ss = pos 12 *ℤ ss +ℤ pos 12 *ℤ s +ℤ pos 4 *ℤ a

-- XY24: 24 × the sum of the products, 12 × the sum of each index, and 6 for each cell.
abbrev pub mixed_total : ℤ → ℤ → ℤ → ℤ → ℤ
mixed_total a sx sy sxy = pos 24 *ℤ sxy +ℤ pos 12 *ℤ sx +ℤ pos 12 *ℤ sy +ℤ pos 6 *ℤ a

-- The formulas of CR 2; A2 is 2 for each cell.
abbrev pub ground_totals : CellSums → Totals
ground_totals s =
    record {
      a2 = pos 2 *ℤ s.count;
      x6 = first_total s.count s.x;
      y6 = first_total s.count s.y;
      xx12 = second_total s.count s.x s.xx;
      xy24 = mixed_total s.count s.x s.y s.xy;
      yy12 = second_total s.count s.y s.yy;
    }

-- The totals of the ground under a list of cells.
unfoldable pub ground_of : List Cell → Totals
ground_of cs = ground_totals (sums_over cs)

-- ---- by the corners of each cell

abbrev pub corner : ℕ → ℕ → Position
corner x y = record { x = pos x; y = pos y }

-- A cell's four corners, anticlockwise from its own indices.
abbrev pub corners : Cell → List Position
corners c = corner c.x c.y ∷ corner (c.x + 1) c.y ∷ corner (c.x + 1) (c.y + 1) ∷ corner c.x (c.y + 1) ∷ []

-- What the call on a whole list answers for the corners of each cell, added cell by cell.
unfoldable pub squares_added : List Cell → Totals
squares_added [] = zeros
squares_added (c ∷ cs) = plus (list_call (numbers (corners c))).totals (squares_added cs)

-- ---- cells of one row

-- The old sums of cells of row y, by how many they are and by the sums of x and of x².
abbrev pub row_sums : (y n x xx : ℤ) → CellSums
row_sums y n x xx = record { count = n; x = x; y = n *ℤ y; xx = xx; xy = x *ℤ y; yy = n *ℤ y *ℤ y }
