-- The statements on cells as ground used, with every quantifier free and at the last cell of the grid, so that a weaker statement is refused here.
use mathlib.Core.Path.{◌≡◌, refl}
use mathlib.Core.Bool.{false}
use mathlib.Core.List.{List, [], ◌∷◌}
use Prim.Native.Nat.{ℕ, zero, suc, ◌*◌, ◌≤◌, ◌<◌}
use native.Mathlib.Omega.{arith}
use lib.ListN.{length, get_or}
use Rattle.outline.specs.declared.AffineMap.{AffineMap}
use Rattle.outline.specs.EdgeSums.{plus, exceed, outline_bounds}
use Rattle.outline.specs.ListCall.{numbers, accepted, list_call}
use Rattle.outline.specs.MapCall.{disallowed, mapped, map_call}
use Rattle.centroid.specs.Centroid.{outline_centroid_call}
use Rattle.cell_ground.specs.CellSums.{Cell, origin, cell_terms}
use Rattle.cell_ground.specs.Ground.{ground_totals, ground_of, corner, corners, squares_added}
use Rattle.cell_ground.specs.GroundLaws.{InGrid, AllInGrid}
use Rattle.cell_ground.proofs.GroundSums.{one_cell, cell_by_cell}
use Rattle.cell_ground.proofs.GroundBounds.{every_ground}
use Rattle.cell_ground.proofs.WorkedGround.{cell}

-- ---- every list of cells

one-square : (c : Cell) → c.x < 1024 → c.y < 1024 → list_call (numbers (corners c)) ≡ accepted (ground_totals (cell_terms c))
one-square c h k = one_cell c (record { column = h; row = k })

module _ (cs : List Cell) (all : (i : ℕ) → i < length cs → ((get_or cs i origin).x < 1024) × ((get_or cs i origin).y < 1024)) where
  in_grid : AllInGrid cs
  in_grid i h = record { column = (all i h).0; row = (all i h).1 }

  squares : ground_of cs ≡ squares_added cs
  squares = cell_by_cell cs in_grid

  module _ (few : length cs ≤ 4096 * 1024) where
    totals_by_squares : ground_of cs ≡ squares_added cs
    totals_by_squares = (every_ground cs in_grid few).cell_by_cell

    column_and_row : (i : ℕ) → i < length cs → InGrid (get_or cs i origin)
    column_and_row = (every_ground cs in_grid few).in_grid

    never_4 : exceed outline_bounds (ground_of cs) ≡ false
    never_4 = (every_ground cs in_grid few).in_bounds

    mapped_by : (m : AffineMap) → disallowed m ≡ false → map_call m (ground_of cs) ≡ accepted (mapped m (ground_of cs))
    mapped_by = (every_ground cs in_grid few).taken

    with_centre : 0 < length cs → (outline_centroid_call (ground_of cs)).number ≡ 0
    with_centre = (every_ground cs in_grid few).centred

-- ---- the cell in the last column and row

last-square : list_call (numbers (corners (cell 1023 1023))) ≡ accepted (ground_totals (cell_terms (cell 1023 1023)))
last-square = one-square (cell 1023 1023) (omega arith) (omega arith)

-- One cell is enough for a centre.
last-centre : (outline_centroid_call (ground_of (cell 1023 1023 ∷ []))).number ≡ 0
last-centre = with_centre (cell 1023 1023 ∷ []) inside (omega arith) (omega arith)
  where
    inside : (i : ℕ) → i < 1 → ((get_or (cell 1023 1023 ∷ []) i origin).x < 1024) × ((get_or (cell 1023 1023 ∷ []) i origin).y < 1024)
    inside zero h = (omega arith, omega arith)
    inside (suc i) h = absurd (omega arith)

-- ---- what the corners are, and how they are asked for

four-corners : corners (cell 1 2) ≡ corner 1 2 ∷ corner 2 2 ∷ corner 2 3 ∷ corner 1 3 ∷ []
four-corners = refl

one-square-more : (c : Cell) (cs : List Cell) → squares_added (c ∷ cs) ≡ plus (list_call (numbers (corners c))).totals (squares_added cs)
unfolding squares_added
one-square-more c cs = refl
