-- Document 02, CR 7: a shift by whole decimetres moves a centre by exactly that shift. Of any six totals, of the map call, and of outlines. Each is proved in proofs/.
use Rattle.std.specs.Prelude.{◌≡◌, cond, List, eqb, ℤ, pos, ◌+ℤ◌, ◌*ℤ◌}
use Rattle.outline.specs.declared.Totals.{Totals}
use Rattle.outline.specs.declared.AffineMap.{AffineMap}
use Rattle.outline.specs.ListCall.{accepted, points, numbers, list_call}
use Rattle.outline.specs.MapCall.{moved, mapped, map_call}
use Rattle.centroid.specs.Centroid.{CentroidOutcome, outline_centroid_call}

-- The shift by e decimetres east and f north: u = x + e, v = y + f.
abbrev pub shift : ℤ → ℤ → AffineMap
shift e f = record { a = pos 1; b = pos 0; g = pos 0; h = pos 1; e = e; f = f }

-- How many units of a centre make a decimetre: centres are in decimetres (document 01, "Centre"). If their unit changes, the laws change here alone.
abbrev pub units_per_decimetre : ℤ
units_per_decimetre = pos 1

-- A centre moved by e and f decimetres. A refusal stays as it is.
abbrev pub shifted_by : ℤ → ℤ → CentroidOutcome → CentroidOutcome
shifted_by e f c = cond (eqb c.number 0) (record { number = 0; x = c.x +ℤ units_per_decimetre *ℤ e; y = c.y +ℤ units_per_decimetre *ℤ f }) c

-- The call for a centre does not refuse these totals.
abbrev pub HasCentre : Totals → Type 0
HasCentre t = (outline_centroid_call t).number ≡ 0

abbrev pub TotalsShifted : Type 0
TotalsShifted =
    -- For any six totals, with A2 below 0 too,
    (t : Totals)
    -- and every shift, of any size,
    (e f : ℤ)
    -- where there is a centre before
    → HasCentre t
    -- and after:
    → HasCentre (mapped (shift e f) t)
    -- the centre has moved by that shift.
    → outline_centroid_call (mapped (shift e f) t) ≡ shifted_by e f (outline_centroid_call t)

abbrev pub CallShifted : Type 0
CallShifted =
    -- For any six totals
    (t : Totals)
    -- and every shift,
    (e f : ℤ)
    -- where the map call is not refused:
    → (after : Totals)
    → map_call (shift e f) t ≡ accepted after
    -- the centre of its answer is that of t moved by that shift, or neither has one and both are refused with 27.
    → outline_centroid_call after ≡ shifted_by e f (outline_centroid_call t)

abbrev pub OutlineShifted : Type 0
OutlineShifted =
    -- For every list of numbers
    (zs : List ℤ)
    -- and the six totals
    (t : Totals)
    -- with which the list call accepts it;
    → list_call zs ≡ accepted t
    -- for every shift, also one too large for 3,
    → (e f : ℤ)
    -- after which the list call accepts the points too:
    → (after : Totals)
    → list_call (numbers (moved (shift e f) (points zs))) ≡ accepted after
    -- the centre has moved by that shift, or there is none before and after, and both are refused with 27.
    → outline_centroid_call after ≡ shifted_by e f (outline_centroid_call t)
