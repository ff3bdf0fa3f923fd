-- Document 02, CR 2: what holds of the ground under cells of the grid. Each is proved in proofs/.
use Rattle.std.specs.Prelude.{ℕ, ◌*◌, ◌≤◌, ◌<◌, ◌≡◌, false, List, length, get_or}
use Rattle.outline.specs.declared.Totals.{Totals}
use Rattle.outline.specs.declared.AffineMap.{AffineMap}
use Rattle.outline.specs.EdgeSums.{exceed, outline_bounds}
use Rattle.outline.specs.ListCall.{numbers, accepted, list_call}
use Rattle.outline.specs.MapCall.{disallowed, mapped, map_call}
use Rattle.centroid.specs.Centroid.{outline_centroid_call}
use Rattle.cell_ground.specs.CellSums.{Cell, origin, cell_terms}
use Rattle.cell_ground.specs.Ground.{ground_totals, ground_of, corners, squares_added}

-- A cell of the 1,024 rows and columns.
pub record InGrid (c : Cell) : Type 0 where
  pub column : c.x < 1024
  pub row : c.y < 1024

-- Every cell of a list.
abbrev pub AllInGrid : List Cell → Type 0
AllInGrid cs = (i : ℕ) → i < length cs → InGrid (get_or cs i origin)

abbrev pub OneCell : Type 0
OneCell =
    -- For every cell
    (c : Cell)
    -- of the grid
    → InGrid c
    -- the call on a whole list accepts its four corners, and answers the totals of its ground.
    → list_call (numbers (corners c)) ≡ accepted (ground_totals (cell_terms c))

abbrev pub CellByCell : Type 0
CellByCell =
    -- For every list of cells
    (cs : List Cell)
    -- of the grid
    → AllInGrid cs
    -- the totals of their ground are the sums, cell by cell, of what the call on a whole list answers for the corners.
    → ground_of cs ≡ squares_added cs

-- What is claimed of the totals t of the ground under the cells cs.
pub record TotalsOfGround (cs : List Cell) (t : Totals) : Type 0 where
  -- The cells lie in the grid,
  pub in_grid : AllInGrid cs
  -- and the totals are what the call on a whole list answers for the corners of each, added cell by cell.
  pub cell_by_cell : t ≡ squares_added cs
  -- They are within the outline bounds,
  pub in_bounds : exceed outline_bounds t ≡ false
  -- and the map call takes them, for every map that 3 does not refuse.
  pub taken : (m : AffineMap) → disallowed m ≡ false → map_call m t ≡ accepted (mapped m t)
  -- They have a centre, if there is a cell.
  pub centred : 0 < length cs → (outline_centroid_call t).number ≡ 0

abbrev pub EveryGround : Type 0
EveryGround =
    -- For every list of cells
    (cs : List Cell)
    -- of the grid,
    → AllInGrid cs
    -- at most as many as 4,096 runs of 1,024 cells have,
    → length cs ≤ 4096 * 1024
    -- all this holds of the totals of their ground.
    → TotalsOfGround cs (ground_of cs)
