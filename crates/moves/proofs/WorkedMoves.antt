-- Document 02, CR 7, by computation: maps put together in both orders, what the calls then answer, and why each call must be accepted.
use mathlib.Core.Path.{◌≡◌, refl}
use lib.IntN.{ℤ, pos, neg_ℤ}
use Prim.Native.Nat.{ℕ, ◌^◌}
use Rattle.outline.specs.declared.Totals.{Totals}
use Rattle.outline.specs.declared.AffineMap.{AffineMap}
use Rattle.outline.specs.EdgeSums.{zeros, over, exceed}
use Rattle.outline.specs.ListCall.{accepted, refused}
use Rattle.outline.specs.MapCall.{move_point, mapped, disallowed, map_call}
use Rattle.outline.proofs.PiecesLaws.{identity}
use Rattle.outline.proofs.WorkedInputs.{at, doubling}
use Rattle.integers.specs.Rounding.{rounds_to, first_rounded, round_half_up}
use Rattle.centroid.specs.Centroid.{refused as no_centre, signed_by, outline_centroid_call}
use Rattle.centroid.proofs.WorkedCentres.{totals}
use Rattle.moves.specs.Composition.{composed}
use Rattle.moves.specs.ShiftedCentre.{shift, shifted_by}

abbrev pub minus : ℕ → ℤ
minus n = neg_ℤ (pos n)

-- ---- a shift and a quarter turn

-- u = x + 3, v = y − 2.
abbrev pub three_east : AffineMap
three_east = shift (pos 3) (minus 2)

-- u = −y + e, v = x + f: a quarter turn, then a shift.
abbrev turn_and : ℤ → ℤ → AffineMap
turn_and e f = record { a = pos 0; b = minus 1; g = pos 1; h = pos 0; e = e; f = f }

abbrev pub quarter_turn : AffineMap
quarter_turn = turn_and (pos 0) (pos 0)

-- The point (10, 4) goes to (13, 2) and then to (−2, 13); turned first, to (−4, 10) and then to (−1, 8).
record Composed : Type 0 where
  shift_then_turn : composed three_east quarter_turn ≡ turn_and (pos 2) (pos 3)
  turn_then_shift : composed quarter_turn three_east ≡ turn_and (pos 3) (minus 2)
  shifted_then_turned_lem : move_point quarter_turn (move_point three_east (at (pos 10) (pos 4))) ≡ at (minus 2) (pos 13)
  turned_then_shifted_lem : move_point three_east (move_point quarter_turn (at (pos 10) (pos 4))) ≡ at (minus 1) (pos 8)

composed_maps : Composed
composed_maps = record { shift_then_turn = refl; turn_then_shift = refl; shifted_then_turned_lem = refl; turned_then_shifted_lem = refl }

-- Document 01's rectangle.
abbrev pub rectangle : Totals
rectangle = totals (pos 80) (pos 1200) (pos 960) (pos 14720) (pos 21120) (pos 8960)

abbrev pub shifted : Totals
shifted = totals (pos 80) (pos 1920) (pos 480) (pos 33440) (pos 17280) (pos 3200)

abbrev pub shifted_then_turned : Totals
shifted_then_turned = totals (pos 80) (minus 480) (pos 1920) (pos 3200) (minus 17280) (pos 33440)

abbrev turned : Totals
turned = totals (pos 80) (minus 960) (pos 1200) (pos 8960) (minus 21120) (pos 14720)

abbrev turned_then_shifted : Totals
turned_then_shifted = totals (pos 80) (minus 240) (pos 720) (pos 1760) (minus 4800) (pos 7040)

pub record RectangleMoved : Type 0 where
  pub shift-first : map_call three_east rectangle ≡ accepted shifted
  pub then_turn : map_call quarter_turn shifted ≡ accepted shifted_then_turned
  at_once : map_call (composed three_east quarter_turn) rectangle ≡ accepted shifted_then_turned
  turn_first : map_call quarter_turn rectangle ≡ accepted turned
  then_shift : map_call three_east turned ≡ accepted turned_then_shifted
  at_once_too : map_call (composed quarter_turn three_east) rectangle ≡ accepted turned_then_shifted

pub rectangle-moved : RectangleMoved
unfolding map_call disallowed over exceed
rectangle-moved = record { shift-first = refl; then_turn = refl; at_once = refl; turn_first = refl; then_shift = refl; at_once_too = refl }

-- ---- why none of the three calls may be refused

abbrev unit_square : Totals
unit_square = totals (pos 2) (pos 3) (pos 3) (pos 4) (pos 6) (pos 4)

-- The square with corners ±2,000, walked 244 times round: 976 points.
abbrev many_rounds : Totals
many_rounds = totals (pos 7_808_000_000) (pos 0) (pos 0) (pos 62_464_000_000_000_000) (pos 0) (pos 62_464_000_000_000_000)

abbrev many_rounds_doubled : Totals
many_rounds_doubled = totals (pos 31_232_000_000) (pos 0) (pos 0) (pos 999_424_000_000_000_000) (pos 0) (pos 999_424_000_000_000_000)

abbrev too_far : AffineMap
too_far = shift (pos 3000) (pos 0)

abbrev back : AffineMap
back = shift (minus 1500) (pos 0)

record Needed : Type 0 where
  -- Doubled twice is multiplied by 4, and no map may have that coefficient.
  doubled : map_call doubling unit_square ≡ accepted (totals (pos 8) (pos 24) (pos 24) (pos 64) (pos 96) (pos 64))
  doubled_again : map_call doubling (totals (pos 8) (pos 24) (pos 24) (pos 64) (pos 96) (pos 64)) ≡ accepted (totals (pos 32) (pos 192) (pos 192) (pos 1024) (pos 1536) (pos 1024))
  multiplied_by_4 : map_call (composed doubling doubling) unit_square ≡ refused 3
  -- What the first call answers may pass the outline bounds, and then the second call refuses it.
  rounds_doubled : map_call doubling many_rounds ≡ accepted many_rounds_doubled
  then_kept : map_call identity many_rounds_doubled ≡ refused 4
  doubled_and_kept : map_call (composed doubling identity) many_rounds ≡ accepted many_rounds_doubled
  -- A refusal answers zeros, and zeros are mapped to zeros.
  too_far_lem : map_call too_far rectangle ≡ refused 3
  zeros_back : map_call back zeros ≡ accepted zeros
  far_and_back : map_call (composed too_far back) rectangle ≡ accepted (totals (pos 80) (pos 361_200) (pos 960) (pos 1_087_214_720) (pos 5_781_120) (pos 8960))

needed : Needed
unfolding map_call disallowed over exceed
needed = record { doubled = refl; doubled_again = refl; multiplied_by_4 = refl; rounds_doubled = refl; then_kept = refl; doubled_and_kept = refl; too_far_lem = refl; zeros_back = refl; far_and_back = refl }

-- ---- centres before and after a shift

-- The unit square walked backwards.
abbrev pub reversed_square : Totals
reversed_square = totals (minus 2) (minus 3) (minus 3) (minus 4) (minus 6) (minus 4)

abbrev at_limit : Totals
at_limit = totals (pos 2) (pos 3) (pos 3) (pos (10 ^ 18)) (pos 6) (pos 4)

pub record Shifted : Type 0 where
  rectangle_before : outline_centroid_call rectangle ≡ record { number = 0; x = pos 5; y = pos 4 }
  rectangle-after : outline_centroid_call shifted ≡ record { number = 0; x = pos 8; y = pos 2 }
  -- Halves go up on both sides of 0: from 1/2 to 1, and from −1/2 to 0.
  pub backwards_before : outline_centroid_call reversed_square ≡ record { number = 0; x = pos 1; y = pos 1 }
  pub backwards_after : outline_centroid_call (mapped (shift (minus 1) (pos 0)) reversed_square) ≡ record { number = 0; x = pos 0; y = pos 1 }
  -- 11 may come on one side alone: XX12 passes its limit. The law is silent there.
  limit_before : outline_centroid_call at_limit ≡ record { number = 0; x = pos 1; y = pos 1 }
  limit_after : outline_centroid_call (mapped (shift (pos 1) (pos 0)) at_limit) ≡ no_centre 11
  limit_back : mapped (shift (minus 1) (pos 0)) (mapped (shift (pos 1) (pos 0)) at_limit) ≡ at_limit
  -- What a shift makes of a centre, and of a refusal with 27 or 11.
  by_shift : shifted_by (pos 3) (minus 2) (record { number = 0; x = pos 5; y = pos 4 }) ≡ record { number = 0; x = pos 8; y = pos 2 }
  no_area : shifted_by (pos 3) (minus 2) (no_centre 27) ≡ no_centre 27
  past_limits : shifted_by (pos 3) (minus 2) (no_centre 11) ≡ no_centre 11

pub worked_shifts : Shifted
unfolding rounds_to first_rounded round_half_up signed_by outline_centroid_call over exceed
worked_shifts = record { rectangle_before = refl; rectangle-after = refl; backwards_before = refl; backwards_after = refl; limit_before = refl; limit_after = refl; limit_back = refl; by_shift = refl; no_area = refl; past_limits = refl }
