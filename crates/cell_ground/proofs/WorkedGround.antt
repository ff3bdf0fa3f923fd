-- Cells worked by hand, document 02, CR 2: the totals of their ground, by the formulas and by the corners of each cell, computed from the definitions.
use Prim.Native.Nat.{ℕ}
use mathlib.Core.Path.{◌≡◌, refl}
use mathlib.Core.List.{List, [], ◌∷◌}
use lib.IntN.{ℤ, pos}
use Rattle.outline.specs.declared.Totals.{Totals}
use Rattle.outline.specs.EdgeSums.{open_edges, edges, sum_over, over, exceed}
use Rattle.outline.specs.ListCall.{points, numbers, beyond, any_beyond, wrong_length, list_call}
use Rattle.integers.specs.Rounding.{rounds_to, first_rounded, round_half_up}
use Rattle.centroid.specs.Centroid.{signed_by, outline_centroid_call}
use Rattle.cell_ground.specs.CellSums.{Cell, sums_over}
use Rattle.cell_ground.specs.Ground.{ground_of, squares_added, row_sums}

abbrev pub cell : ℕ → ℕ → Cell
cell x y = record { x = x; y = y }

abbrev totals : (a2 x6 y6 xx12 xy24 yy12 : ℕ) → Totals
totals a2 x6 y6 xx12 xy24 yy12 = record { a2 = pos a2; x6 = pos x6; y6 = pos y6; xx12 = pos xx12; xy24 = pos xy24; yy12 = pos yy12 }

-- Row 3, columns 2 to 4; and three cells of row 0 with one above the first.
abbrev short_run : List Cell
short_run = cell 2 3 ∷ cell 3 3 ∷ cell 4 3 ∷ []

abbrev two_rows : List Cell
two_rows = cell 0 0 ∷ cell 1 0 ∷ cell 2 0 ∷ cell 0 1 ∷ []

record Worked : Type 0 where
  none : ground_of [] ≡ totals 0 0 0 0 0 0
  -- the unit square
  first_cell : ground_of (cell 0 0 ∷ []) ≡ totals 2 3 3 4 6 4
  -- x is the column, y the row
  one_cell : ground_of (cell 1 2 ∷ []) ≡ totals 2 9 15 28 90 76
  run : ground_of short_run ≡ totals 6 63 63 468 882 444
  rows : ground_of two_rows ≡ totals 8 30 18 112 72 40
  -- the same by the corners
  run_by_corners : squares_added short_run ≡ totals 6 63 63 468 882 444
  rows_by_corners : squares_added two_rows ≡ totals 8 30 18 112 72 40
  -- the cell in the last column and row, up to (1024, 1024)
  last_cell : squares_added (cell 1023 1023 ∷ []) ≡ totals 2 6141 6141 12_570_628 25_141_254 12_570_628
  -- the sums of the run as those of cells of one row
  of_one_row : sums_over short_run ≡ row_sums (pos 3) (pos 3) (pos 9) (pos 29)

worked : Worked
unfolding open_edges edges sum_over over points numbers beyond any_beyond wrong_length list_call sums_over ground_of squares_added
worked =
    record {
      none = refl;
      first_cell = refl;
      one_cell = refl;
      run = refl;
      rows = refl;
      run_by_corners = refl;
      rows_by_corners = refl;
      last_cell = refl;
      of_one_row = refl;
    }

-- ---- centres

abbrev centre_of : List Cell → ℕ × ℤ × ℤ
centre_of cs = let o = outline_centroid_call (ground_of cs) in (o.number, o.x, o.y)

record Centres : Type 0 where
  -- 3.5 and 3.5
  run : centre_of short_run ≡ (0, pos 4, pos 4)
  -- 1.25 and 0.75
  rows : centre_of two_rows ≡ (0, pos 1, pos 1)
  -- 1.5 and 2.5
  one_cell : centre_of (cell 1 2 ∷ []) ≡ (0, pos 2, pos 3)
  none : centre_of [] ≡ (27, pos 0, pos 0)

centres : Centres
unfolding over exceed rounds_to first_rounded round_half_up signed_by outline_centroid_call sums_over ground_of
centres = record { run = refl; rows = refl; one_cell = refl; none = refl }
