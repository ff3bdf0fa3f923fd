-- The orders of refusals for lists, maps, walks and sheets, document 02's 32 among them, by computation: for each two refusals of a call that one input can meet, such an input,
-- and the one that comes first. (28 looks at open walks only, so that 28 and 21 meet in end alone, for its sheet.)
use mathlib.Core.Path.{◌≡◌, refl}
use mathlib.Core.List.{[], ◌∷◌, map}
use lib.IntN.{pos}
use lib.ListN.{replicate}
use lib.Ieee.{lt}
use Rattle.receiver.specs.Floats.{not_finite, below_zero}
use Rattle.outline.specs.declared.Position.{Position}
use Rattle.outline.specs.declared.Totals.{Totals}
use Rattle.outline.specs.declared.AffineMap.{AffineMap}
use Rattle.outline.specs.declared.Walk.{Walk}
use Rattle.outline.specs.declared.Kind.TheVariants.{Island}
use Rattle.outline.specs.EdgeSums.{zeros, over, exceed}
use Rattle.outline.specs.ListCall.{points, beyond, any_beyond, wrong_length, list_call}
use Rattle.outline.specs.MapCall.{disallowed, map_call}
use Rattle.outline.specs.WalkCalls.{origin, closed, sheet_of, new_sheet, has_sign, turned, zero_area, impossible_walk, impossible_sheet, begin_call, point_call, end_call, abandon_call}
use Rattle.outline.proofs.WorkedInputs.{at, area, open_of, marked_closed, doubling}

-- A point that 1 refuses.
abbrev far : Position
far = at (pos 2001) (pos 0)

-- An open walk that 28 refuses.
abbrev impossible : Walk
impossible = open_of 1025 zeros

-- Walks marked closed that are full, and that have enough points and an area.
abbrev closed_full : Walk
closed_full = marked_closed (open_of 1024 zeros)

abbrev closed_area : Walk
closed_area = marked_closed (open_of 3 (area 1))

-- The totals of a sheet to which no area can be added: 26.
abbrev most : Totals
most = area 1_000_000_000_000_000_000

-- Order 28, 22.
record Begin : Type 0 where
  impossible_22 : (begin_call impossible Island).number ≡ 28
  only_22 : (begin_call (open_of 3 zeros) Island).number ≡ 22

begin : Begin
unfolding over exceed beyond not_finite below_zero lt impossible_walk begin_call
begin = record { impossible_22 = refl; only_22 = refl }

-- Order 28, 21, 1, 23.
record Point : Type 0 where
  impossible_1 : (point_call (open_of 3 (area 24_000_001)) far).number ≡ 28
  impossible_23 : (point_call impossible origin).number ≡ 28
  closed_1 : (point_call closed far).number ≡ 21
  closed_23 : (point_call closed_full origin).number ≡ 21
  far_23 : (point_call (open_of 1024 zeros) far).number ≡ 1

point : Point
unfolding over exceed beyond not_finite below_zero lt impossible_walk point_call
point = record { impossible_1 = refl; impossible_23 = refl; closed_1 = refl; closed_23 = refl; far_23 = refl }

-- Zero area, and another total that no sheet with that total at its limit can take.
abbrev flat : Totals
flat = record { a2 = pos 0; x6 = pos 1; y6 = pos 0; xx12 = pos 0; xy24 = pos 0; yy12 = pos 0 }

abbrev most_x6 : Totals
most_x6 = record { a2 = pos 0; x6 = pos 1_000_000_000_000_000_000; y6 = pos 0; xx12 = pos 0; xy24 = pos 0; yy12 = pos 0 }

-- Order 28, 21, 24, 32, 25, 26.
record End : Type 0 where
  -- 28, of the sheet and of the walk
  sheet_21 : (end_call closed_area (sheet_of 65 zeros)).number ≡ 28
  sheet_24 : (end_call (open_of 2 zeros) (sheet_of 65 zeros)).number ≡ 28
  walk_24 : (end_call (open_of 2 (area 16_000_001)) new_sheet).number ≡ 28
  sheet_32 : (end_call (open_of 3 zeros) (sheet_of 65 zeros)).number ≡ 28
  walk_32 : (end_call impossible new_sheet).number ≡ 28
  walk_25 : (end_call (open_of 3 (area 24_000_001)) (sheet_of 64 zeros)).number ≡ 28
  walk_26 : (end_call (open_of 3 (area 24_000_001)) (sheet_of 0 most)).number ≡ 28
  sheet_26 : (end_call (open_of 3 (area 1)) (sheet_of 0 (area 1_000_000_000_000_000_001))).number ≡ 28
  -- 21
  closed_24 : (end_call closed new_sheet).number ≡ 21
  closed_32 : (end_call (marked_closed (open_of 3 zeros)) new_sheet).number ≡ 21
  closed_25 : (end_call closed_area (sheet_of 64 zeros)).number ≡ 21
  closed_26 : (end_call closed_area (sheet_of 0 most)).number ≡ 21
  -- 24
  few_32 : (end_call (open_of 2 zeros) new_sheet).number ≡ 24
  few_25 : (end_call (open_of 2 (area 1)) (sheet_of 64 zeros)).number ≡ 24
  few_26 : (end_call (open_of 2 (area 1)) (sheet_of 0 most)).number ≡ 24
  -- 32
  flat_25 : (end_call (open_of 3 zeros) (sheet_of 64 zeros)).number ≡ 32
  flat_26 : (end_call (open_of 3 flat) (sheet_of 0 most_x6)).number ≡ 32
  -- 25
  full_26 : (end_call (open_of 3 (area 1)) (sheet_of 64 most)).number ≡ 25
  only_26 : (end_call (open_of 3 (area 1)) (sheet_of 63 most)).number ≡ 26

end : End
unfolding over exceed beyond has_sign turned zero_area not_finite below_zero lt impossible_walk impossible_sheet end_call
end = record { sheet_21 = refl; sheet_24 = refl; walk_24 = refl; sheet_32 = refl; walk_32 = refl; walk_25 = refl; walk_26 = refl; sheet_26 = refl; closed_24 = refl; closed_32 = refl; closed_25 = refl; closed_26 = refl; few_32 = refl; few_25 = refl; few_26 = refl; flat_25 = refl; flat_26 = refl; full_26 = refl; only_26 = refl }

-- Order 28, 21.
record Abandon : Type 0 where
  only_28 : (abandon_call impossible).number ≡ 28
  only_21 : (abandon_call closed_full).number ≡ 21

abandon : Abandon
unfolding over exceed beyond not_finite below_zero lt impossible_walk abandon_call
abandon = record { only_28 = refl; only_21 = refl }

-- Order 2, 1: an odd length, too few points and too many, all of them beyond the limits.
list : map (λ n. (list_call (replicate n (pos 2001))).number) (7 ∷ 4 ∷ 2050 ∷ 6 ∷ []) ≡ 2 ∷ 2 ∷ 2 ∷ 1 ∷ []
unfolding over points beyond any_beyond wrong_length list_call
list = refl

-- ---- Order 3, 4, 5.

-- Three times as large.
abbrev trebling : AffineMap
trebling = record { a = pos 3; b = pos 0; g = pos 0; h = pos 3; e = pos 0; f = pos 0 }

-- A second moment at its outline bound, and one past it.
abbrev large : Totals
large = record { a2 = pos 0; x6 = pos 0; y6 = pos 0; xx12 = pos 98_304_000_000_000_000; xy24 = pos 0; yy12 = pos 0 }

abbrev too_large : Totals
too_large = record { a2 = pos 0; x6 = pos 0; y6 = pos 0; xx12 = pos 98_304_000_000_000_001; xy24 = pos 0; yy12 = pos 0 }

record Map : Type 0 where
  trebled_4 : (map_call trebling (area 8_192_000_001)).number ≡ 3
  trebled_5 : (map_call trebling large).number ≡ 3
  beyond_5 : (map_call doubling too_large).number ≡ 4
  only_5 : (map_call doubling large).number ≡ 5

mapping : Map
unfolding over exceed disallowed map_call
mapping = record { trebled_4 = refl; trebled_5 = refl; beyond_5 = refl; only_5 = refl }
