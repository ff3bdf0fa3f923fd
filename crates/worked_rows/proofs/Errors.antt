-- Document 01, "Errors a surveyor would not notice", and errors with cells as ground and with two walkers: what each makes of a plot whose right figure stands in
-- specs/Rows, by computation.
use Prim.Native.Nat.{ℕ, ◌+◌, ◌*◌, ◌/◌}
use mathlib.Core.Path.{◌≡◌, refl}
use mathlib.Core.Bool.{cond}
use mathlib.Core.List.{List, [], ◌∷◌, zip_with}
use lib.IntN.{ℤ, pos, neg_ℤ, nat_abs, ◌+ℤ◌, ◌*ℤ◌}
use lib.Signed.{lt_z}
use Rattle.outline.specs.EdgeSums.{Term, a2, open_edges, edges, sum_over, over}
use Rattle.outline.specs.ListCall.{points, numbers, beyond, any_beyond, wrong_length, list_call}
use Rattle.outline.specs.MapCall.{brackets}
use Rattle.outline.specs.Pieces.{totals_of}
use Rattle.outline.specs.declared.Position.{Position}
use Rattle.two_walks.specs.Distances.{squared_distance, greatest_of}
use Rattle.cell_ground.specs.CellSums.{CellSums, sums_over}
use Rattle.integers.specs.Rounding.{rounds_to, first_rounded, round_half_up}
use Rattle.cells.specs.RunCells.{cells_from, cells_of}
use Rattle.worked_rows.specs.Rows.{rectangle, repeated_first, triangle, unit_square, mirror, short_run, in_step, out_of_step}

-- Halved, and the rest dropped.
abbrev halved : Term → Term
halved t a b = pos (nat_abs (t a b) / 2)

abbrev absolute : Term → Term
absolute t a b = pos (nat_abs (t a b))

-- N over D, a half rounded away from zero.
abbrev away : ℤ → ℕ → ℤ
away n d =
    let size = pos ((2 * nat_abs n + d) / (2 * d)) in
    cond (lt_z n (pos 0)) (neg_ℤ size) size

record Mistaken : Type 0 where
  -- A2 is 80. With the first point repeated the error does not show.
  closing_edge_left_out : sum_over a2 (open_edges rectangle) ≡ pos 88
  hidden : sum_over a2 (open_edges repeated_first) ≡ pos 80
  -- A2 is 1.
  halved_early : sum_over (halved a2) (edges triangle) ≡ pos 0
  -- A2 is 80 for the rectangle. For the triangle, with the origin at a corner, the error does not show.
  absolute_value_per_edge : sum_over (absolute a2) (edges rectangle) ≡ pos 96
  convex : sum_over (absolute a2) (edges triangle) ≡ pos 1
  -- The centres are -1, 0 and 1: of the squares at -2 and at -1, and of the unit square.
  away_from_zero : (away (neg_ℤ (pos 9)) 6 ≡ neg_ℤ (pos 2)) × (away (neg_ℤ (pos 3)) 6 ≡ neg_ℤ (pos 1)) × (away (pos 3) 6 ≡ pos 1)
  -- XX12 and YY12 are -4.
  without_d : ((brackets mirror (totals_of unit_square)).xx12 ≡ pos 4) × ((brackets mirror (totals_of unit_square)).yy12 ≡ pos 4)

mistaken : Mistaken
unfolding open_edges edges sum_over over points numbers beyond any_beyond wrong_length list_call
mistaken =
    record {
      closing_edge_left_out = refl;
      hidden = refl;
      halved_early = refl;
      absolute_value_per_edge = refl;
      convex = refl;
      away_from_zero = (refl, refl, refl);
      without_d = (refl, refl);
    }

-- ---- cells, document 02, CR 2

-- The old sums of the run.
abbrev run_sums : CellSums
run_sums = sums_over (cells_of short_run)

-- The rectangle round three cells and one above the first.
abbrev box : List Position
box = record { x = pos 0; y = pos 0 } ∷ record { x = pos 3; y = pos 0 } ∷ record { x = pos 3; y = pos 2 } ∷ record { x = pos 0; y = pos 2 } ∷ []

record MistakenGround : Type 0 where
  -- X6 is 63 and XX12 468: a constant is added for each cell.
  constant_added_once : (pos 6 *ℤ run_sums.x +ℤ pos 3 ≡ pos 57) × (pos 12 *ℤ run_sums.xx +ℤ pos 12 *ℤ run_sums.x +ℤ pos 4 ≡ pos 460)
  -- XY24 is 882.
  six_for_twelve : pos 24 *ℤ run_sums.xy +ℤ pos 6 *ℤ run_sums.x +ℤ pos 6 *ℤ run_sums.y +ℤ pos 6 *ℤ run_sums.count ≡ pos 774
  -- The centre is (4, 4).
  cells_as_points : (round_half_up run_sums.x run_sums.count ≡ pos 3) × (round_half_up run_sums.y run_sums.count ≡ pos 3)
  -- A2 is 8. For one run the error does not show.
  bounding_box : sum_over a2 (edges box) ≡ pos 12

mistaken_ground : MistakenGround
unfolding open_edges edges sum_over rounds_to first_rounded round_half_up cells_from cells_of sums_over
mistaken_ground =
    record {
      constant_added_once = (refl, refl);
      six_for_twelve = refl;
      cells_as_points = (refl, refl);
      bounding_box = refl;
    }

-- ---- two walkers, document 02, CR 5

-- Each point beside the one at the same place of the other walk, and not beside the nearest.
abbrev by_place : List Position → List Position → ℕ
by_place ps qs = greatest_of (zip_with squared_distance ps qs)

record MistakenDistance : Type 0 where
  -- The distance is 0.
  paired_by_place : by_place rectangle out_of_step ≡ 80
  -- It is 1. For walkers in step the error does not show.
  in_step_lem : by_place rectangle in_step ≡ 1

mistaken_distance : MistakenDistance
unfolding zip_with squared_distance greatest_of
mistaken_distance = record { paired_by_place = refl; in_step_lem = refl }
