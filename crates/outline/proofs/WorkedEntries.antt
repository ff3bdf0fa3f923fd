-- Document 02, CR 9, by computation from the definitions: the orders of an entry's refusals, 28 by the longest outage, and which outage is kept. Floats by their bits.
use Prim.Native.Nat.{ℕ}
use mathlib.Core.Path.{◌≡◌, refl}
use mathlib.Core.List.{List, [], ◌∷◌, map}
use lib.Count.{count_trailing_zeros}
use lib.IntN.{pos}
use lib.Ieee.{Float, nan, lt, odd, of_fields, of_bits}
use Rattle.receiver.specs.declared.Entry.{Entry}
use Rattle.receiver.specs.declared.Entry.TheVariants.{Fix, Outage}
use Rattle.integers.specs.Rounding.{rounds_to, first_rounded, round_half_up}
use Rattle.receiver.specs.Floats.{not_finite, rounded, below_zero, plus_zero}
use Rattle.receiver.proofs.WorkedFloats.{float}
use Rattle.outline.specs.declared.Kind.TheVariants.{Island, Hole}
use Rattle.outline.specs.declared.Walk.{Walk}
use Rattle.outline.specs.EdgeSums.{zeros, over, exceed}
use Rattle.outline.specs.ListCall.{beyond}
use Rattle.outline.specs.FixCall.{fix_not_finite}
use Rattle.outline.specs.WalkCalls.{origin, open_walk, opened, closed, new_sheet, extended, has_sign, turned, zero_area, impossible_walk, impossible_sheet, refused_walk, refused_end, begin_call, point_call, end_call, abandon_call}
use Rattle.outline.specs.EntryCalls.{longer, fix_call, outage_call, entry_call}
use Rattle.outline.proofs.WorkedInputs.{at, area, open_of, marked_closed}

abbrev fix : ℕ → ℕ → Entry
fix east north = Fix (record { east = float east; north = float north })

abbrev outage : ℕ → Entry
outage seconds = Outage (float seconds)

-- An open island of n points, all of them the origin, with this longest outage.
abbrev keeping : ℕ → Float → Walk
keeping n o = open_walk Island n origin origin zeros o

-- The number answered.
abbrev told : Walk → Entry → ℕ
told w e = (entry_call w e).number

-- ---- the orders: for each two refusals that one entry can meet, the one that comes first

abbrev near : Entry
near = fix 0x4040_0000 0x0000_0000

-- Infinity and 2,001, which 1 refuses.
abbrev infinite : Entry
infinite = fix 0x7F80_0000 0x44FA_2000

-- 2,001 and 0.
abbrev far : Entry
far = fix 0x44FA_2000 0x0000_0000

-- Order 28, 21, 33, 1, 23.
record FixOrder : Type 0 where
  impossible_33 : told (open_of 1025 zeros) infinite ≡ 28
  impossible_1 : told (open_of 3 (area 24_000_001)) far ≡ 28
  impossible_23 : told (open_of 1025 zeros) near ≡ 28
  closed_33 : told closed infinite ≡ 21
  closed_1 : told closed far ≡ 21
  closed_23 : told (marked_closed (open_of 1024 zeros)) near ≡ 21
  infinite_1_23 : told (open_of 1024 zeros) infinite ≡ 33
  far_23 : told (open_of 1024 zeros) far ≡ 1
  only_23 : told (open_of 1024 zeros) near ≡ 23
  none : told (open_of 1023 zeros) near ≡ 0

fix_order : FixOrder
unfolding count_trailing_zeros odd of_fields of_bits lt rounds_to first_rounded round_half_up not_finite rounded below_zero over exceed beyond fix_not_finite extended impossible_walk point_call fix_call entry_call
fix_order = record { impossible_33 = refl; impossible_1 = refl; impossible_23 = refl; closed_33 = refl; closed_1 = refl; closed_23 = refl; infinite_1_23 = refl; far_23 = refl; only_23 = refl; none = refl }

-- Order 28, 21, 33, 34; minus infinity meets both 33 and 34. A full walk takes an outage, and so does one without a point.
record OutageOrder : Type 0 where
  impossible_33 : told (open_of 1025 zeros) (outage 0x7F80_0000) ≡ 28
  impossible_34 : told (open_of 1025 zeros) (outage 0xBF80_0000) ≡ 28
  closed_33 : told closed (outage 0x7F80_0000) ≡ 21
  closed_34 : told closed (outage 0xBF80_0000) ≡ 21
  closed_good : entry_call closed (outage 0x40A0_0000) ≡ refused_walk 21 closed
  minus_infinity : told (open_of 3 zeros) (outage 0xFF80_0000) ≡ 33
  no_number : told (open_of 3 zeros) (outage 0x7FC0_0000) ≡ 33
  infinity : told (open_of 3 zeros) (outage 0x7F80_0000) ≡ 33
  minus_one : told (open_of 3 zeros) (outage 0xBF80_0000) ≡ 34
  full : told (open_of 1024 zeros) (outage 0x40A0_0000) ≡ 0
  pointless : told (open_of 0 zeros) (outage 0x40A0_0000) ≡ 0

outage_order : OutageOrder
unfolding count_trailing_zeros odd of_fields of_bits lt not_finite below_zero over exceed beyond longer impossible_walk outage_call entry_call
outage_order = record { impossible_33 = refl; impossible_34 = refl; closed_33 = refl; closed_34 = refl; closed_good = refl; minus_infinity = refl; no_number = refl; infinity = refl; minus_one = refl; full = refl; pointless = refl }

-- ---- both sides of the limits of 34 and of 28: the two zeros, the numbers next to zero, the greatest, the infinities, and what is no number

abbrev floats : List Float
floats = map float (0x0000_0000 ∷ 0x8000_0000 ∷ 0x0000_0001 ∷ 0x7F7F_FFFF ∷ 0x8000_0001 ∷ 0x7F80_0000 ∷ 0xFF80_0000 ∷ 0x7FC0_0000 ∷ [])

-- By an outage, and by each call on an open walk that keeps it, with points or without: 28 is first, and looks at open walks only.
record Limits : Type 0 where
  outages : map (λ o. told (open_of 3 zeros) (Outage o)) floats ≡ 0 ∷ 0 ∷ 0 ∷ 0 ∷ 34 ∷ 33 ∷ 33 ∷ 33 ∷ []
  outage-kept : map (λ o. told (keeping 3 o) (outage 0)) floats ≡ 0 ∷ 0 ∷ 0 ∷ 0 ∷ 28 ∷ 28 ∷ 28 ∷ 28 ∷ []
  fixed : map (λ o. told (keeping 3 o) (fix 0 0)) floats ≡ 0 ∷ 0 ∷ 0 ∷ 0 ∷ 28 ∷ 28 ∷ 28 ∷ 28 ∷ []
  pointed : map (λ o. (point_call (keeping 0 o) origin).number) floats ≡ 0 ∷ 0 ∷ 0 ∷ 0 ∷ 28 ∷ 28 ∷ 28 ∷ 28 ∷ []
  begun : map (λ o. (begin_call (keeping 0 o) Island).number) floats ≡ 22 ∷ 22 ∷ 22 ∷ 22 ∷ 28 ∷ 28 ∷ 28 ∷ 28 ∷ []
  ended : map (λ o. (end_call (keeping 0 o) new_sheet).number) floats ≡ 24 ∷ 24 ∷ 24 ∷ 24 ∷ 28 ∷ 28 ∷ 28 ∷ 28 ∷ []
  abandoned : map (λ o. (abandon_call (keeping 0 o)).number) floats ≡ 0 ∷ 0 ∷ 0 ∷ 0 ∷ 28 ∷ 28 ∷ 28 ∷ 28 ∷ []
  -- a hole of other points and totals, too
  of_a_hole : map (λ o. (abandon_call (open_walk Hole 7 (at (pos 1) (pos 2)) (at (pos 9) (pos 9)) (area 5) o)).number) floats ≡ 0 ∷ 0 ∷ 0 ∷ 0 ∷ 28 ∷ 28 ∷ 28 ∷ 28 ∷ []
  marked-closed : map (λ o. abandon_call (marked_closed (keeping 0 o))) floats ≡ map (λ o. refused_walk 21 (marked_closed (keeping 0 o))) floats

limits : Limits
unfolding count_trailing_zeros odd of_fields of_bits lt rounds_to first_rounded round_half_up not_finite rounded below_zero over exceed beyond fix_not_finite extended longer zero_area impossible_walk impossible_sheet begin_call point_call end_call abandon_call fix_call outage_call entry_call
limits = record { outages = refl; outage-kept = refl; fixed = refl; pointed = refl; begun = refl; ended = refl; abandoned = refl; of_a_hole = refl; marked-closed = refl }

-- ---- which outage is kept

-- Of a hole whose points, totals and longest outage all differ from zero.
abbrev handed : Float → Walk
handed o = open_walk Hole 3 (at (pos 1) (pos 2)) (at (pos 9) (pos 9)) (area 5) o

-- What an outage leaves, by the bits of the one kept before and of the one given.
abbrev after : ℕ → ℕ → Walk
after kept given = (entry_call (handed (float kept)) (outage given)).walk

record Kept : Type 0 where
  -- 2 seconds, then 1, 2 and 3 seconds
  shorter : after 0x4000_0000 0x3F80_0000 ≡ handed (float 0x4000_0000)
  equal : after 0x4000_0000 0x4000_0000 ≡ handed (float 0x4000_0000)
  greater : after 0x4000_0000 0x4040_0000 ≡ handed (float 0x4040_0000)
  -- the two zeros are equal, so neither takes the other's place
  minus_zero : after 0x0000_0000 0x8000_0000 ≡ handed plus_zero
  plus_zero_lem : after 0x8000_0000 0x0000_0000 ≡ handed (float 0x8000_0000)
  -- a refused one leaves the walk as it was
  infinite_refused : after 0x4000_0000 0x7F80_0000 ≡ handed (float 0x4000_0000)
  below-refused : after 0x4000_0000 0xBF80_0000 ≡ handed (float 0x4000_0000)

kept : Kept
unfolding count_trailing_zeros odd of_fields of_bits lt not_finite below_zero over exceed beyond longer impossible_walk outage_call entry_call
kept = record { shorter = refl; equal = refl; greater = refl; minus_zero = refl; plus_zero_lem = refl; infinite_refused = refl; below-refused = refl }

-- ---- point, end, abandon and begin

-- Plus zero has no bit set.
zero_bits : plus_zero ≡ float 0
unfolding of_bits of_fields odd
zero_bits = refl

record Calls : Type 0 where
  -- a point, and a fix, keep it
  point : (point_call (keeping 1 (float 0x4000_0000)) origin).walk.outage ≡ float 0x4000_0000
  fixed : (entry_call (keeping 1 (float 0x4000_0000)) (fix 0 0)).walk.outage ≡ float 0x4000_0000
  point_minus_zero : (point_call (keeping 1 (float 0x8000_0000)) origin).walk.outage ≡ float 0x8000_0000
  first-point : (point_call (keeping 0 (float 0x4000_0000)) origin).walk.outage ≡ float 0x4000_0000
  -- an accepted end answers it bit for bit, minus zero too, and closes the walk
  end : (end_call (handed (float 0x4000_0000)) new_sheet).outage ≡ float 0x4000_0000
  end_minus_zero : (end_call (handed (float 0x8000_0000)) new_sheet).outage ≡ float 0x8000_0000
  ended : (end_call (handed (float 0x4000_0000)) new_sheet).walk ≡ closed
  -- a refused one answers plus zero, and keeps it
  refused : end_call (keeping 2 (float 0x4000_0000)) new_sheet ≡ refused_end 24 (keeping 2 (float 0x4000_0000)) new_sheet
  refused-outage : (end_call (keeping 2 (float 0x4000_0000)) new_sheet).outage ≡ float 0
  abandoned : (abandon_call (handed (float 0x4000_0000))).walk ≡ closed
  -- begin takes a closed walk that has some, and what is no number too
  begun : (begin_call (marked_closed (handed (float 0x4000_0000))) Island).walk ≡ opened Island
  begun_no_number : (begin_call (marked_closed (handed nan)) Hole).walk.outage ≡ float 0

calls : Calls
unfolding count_trailing_zeros odd of_fields of_bits lt rounds_to first_rounded round_half_up not_finite rounded below_zero over exceed beyond fix_not_finite extended has_sign turned zero_area impossible_walk impossible_sheet begin_call point_call end_call abandon_call fix_call entry_call
calls = record { point = refl; fixed = refl; point_minus_zero = refl; first-point = refl; end = refl; end_minus_zero = refl; ended = refl; refused = refl; refused-outage = refl; abandoned = refl; begun = refl; begun_no_number = refl }
