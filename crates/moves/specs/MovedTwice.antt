-- Document 02, CR 7: mapped by one map and then by another is mapped once by their composition. Of points, of the six formulas, of the map call, and of outlines.
-- Each is proved in proofs/.
use Rattle.std.specs.Prelude.{◌≡◌, false, cond, List, ◌↔◌, ℤ}
use Rattle.outline.specs.declared.Position.{Position}
use Rattle.outline.specs.declared.Totals.{Totals}
use Rattle.outline.specs.declared.AffineMap.{AffineMap}
use Rattle.outline.specs.EdgeSums.{outline_totals}
use Rattle.outline.specs.ListCall.{accepted, refused, points, numbers, any_outside, list_call}
use Rattle.outline.specs.MapCall.{move_point, moved, disallowed, mapped, map_call}
use Rattle.moves.specs.Composition.{composed}

-- ---- points

abbrev pub CompositionMeans : Type 0
CompositionMeans =
    -- For every two maps
    (first second : AffineMap)
    -- and every map:
    (m : AffineMap)
    -- it is their composition exactly if it moves every point as the first and then the second do.
    → (m ≡ composed first second) ↔ ((p : Position) → move_point m p ≡ move_point second (move_point first p))

-- ---- six totals

abbrev pub FormulasTwice : Type 0
FormulasTwice =
    -- For every two maps, with a determinant of 0 too,
    (first second : AffineMap)
    -- and any six totals, whole numbers of any size:
    → (t : Totals)
    -- the formulas of the first and then of the second give what those of the composition give.
    → mapped second (mapped first t) ≡ mapped (composed first second) t

abbrev pub CallsTwice : Type 0
CallsTwice =
    -- For every two maps
    (first second : AffineMap)
    -- and any six totals,
    → (t : Totals)
    -- where the call with the first map is not refused,
    → (once : Totals)
    → map_call first t ≡ accepted once
    -- nor the call with the second on what the first answered,
    → (twice : Totals)
    → map_call second once ≡ accepted twice
    -- nor the call with the composition, which is then allowed:
    → (direct : Totals)
    → map_call (composed first second) t ≡ accepted direct
    -- both ways answer the same.
    → twice ≡ direct

-- What is left of these conditions where the first two calls are not refused.
abbrev pub CompositionCall : Type 0
CompositionCall =
    -- For every two maps
    (first second : AffineMap)
    -- and any six totals,
    → (t : Totals)
    -- where neither of the two calls, one after the other, is refused:
    → (once : Totals)
    → map_call first t ≡ accepted once
    → (twice : Totals)
    → map_call second once ≡ accepted twice
    -- the call with the composition answers the same, or is refused with 3: a coefficient or a shift is over its limit. 4 and 5 cannot come.
    → map_call (composed first second) t ≡ cond (disallowed (composed first second)) (refused 3) (accepted twice)

-- ---- outlines

-- What is claimed of some points, moved by one map and then by another.
pub record PointsTwice (first second : AffineMap) (ps : List Position) : Type 0 where
  -- They are where the composition moves them,
  pub places : moved second (moved first ps) ≡ moved (composed first second) ps
  -- and their totals are the composition's formulas of the totals before.
  pub totals : outline_totals (moved second (moved first ps)) ≡ mapped (composed first second) (outline_totals ps)

abbrev pub OutlineTwice : Type 0
OutlineTwice =
    -- For every two maps
    (first second : AffineMap)
    -- and every list of points, of any length and within no limits:
    → (ps : List Position)
    -- the claim holds.
    → PointsTwice first second ps

abbrev pub OutlineAtOnce : Type 0
OutlineAtOnce =
    -- For every list of numbers
    (zs : List ℤ)
    -- and the six totals
    (t : Totals)
    -- with which the list call accepts it;
    → list_call zs ≡ accepted t
    -- for every two maps
    → (first second : AffineMap)
    -- whose composition 3 does not refuse,
    → disallowed (composed first second) ≡ false
    -- and that together move no point to where 1 refuses it:
    → any_outside (moved second (moved first (points zs))) ≡ false
    -- the call with the composition answers what the list call answers for the points moved twice.
    → map_call (composed first second) t ≡ list_call (numbers (moved second (moved first (points zs))))

abbrev pub OutlineInTurn : Type 0
OutlineInTurn =
    -- For every list of numbers
    (zs : List ℤ)
    -- and the six totals
    (t : Totals)
    -- with which the list call accepts it;
    → list_call zs ≡ accepted t
    -- for every two maps
    → (first second : AffineMap)
    -- where the call with the first is not refused,
    → (once : Totals)
    → map_call first t ≡ accepted once
    -- nor the call with the second on what the first answered,
    → (twice : Totals)
    → map_call second once ≡ accepted twice
    -- and that together move no point to where 1 refuses it, wherever the first alone does:
    → any_outside (moved second (moved first (points zs))) ≡ false
    -- the list call answers the same for the points moved twice.
    → list_call (numbers (moved second (moved first (points zs)))) ≡ accepted twice
