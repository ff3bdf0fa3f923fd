-- Corner cases of the rules for lists, walks and sheets of document 01, and of document 02, CR 3, each by computation from the definitions.
use mathlib.Core.Path.{◌≡◌, refl}
use mathlib.Core.Bool.{true, false}
use mathlib.Core.List.{[], ◌∷◌, map}
use Prim.Native.Nat.{ℕ}
use lib.IntN.{ℤ, pos, negsuc}
use lib.Ieee.{lt}
use Rattle.receiver.specs.declared.Entry.TheVariants.{Fix, Outage}
use Rattle.receiver.specs.Floats.{not_finite, below_zero, plus_zero}
use Rattle.outline.specs.declared.Kind.TheVariants.{Island, Hole}
use Rattle.outline.specs.declared.Walk.{Walk}
use Rattle.outline.specs.EdgeSums.{zeros, over, exceed}
use Rattle.outline.specs.ListCall.{points, beyond, any_beyond, wrong_length, list_call}
use Rattle.outline.specs.WalkCalls.{origin, open_walk, opened, closed, sheet_of, new_sheet, edge_totals, extended, has_sign, turned, zero_area, impossible_walk, impossible_sheet, refused_walk, refused_end, begin_call, point_call, end_call, abandon_call}
use Rattle.outline.specs.EntryCalls.{fix_call, outage_call, entry_call}
use Rattle.outline.proofs.WorkedInputs.{at, area, open_of, leftover}

-- ---- one edge, from (2,3) to (7,11), whose cross product is 1: the terms of the table, which decide for a walk still open

one_edge : edge_totals (at (pos 2) (pos 3)) (at (pos 7) (pos 11)) ≡ record { a2 = pos 1; x6 = pos 9; y6 = pos 14; xx12 = pos 67; xy24 = pos 209; yy12 = pos 163 }
one_edge = refl

-- ---- a walk just begun, one that is over, and a new sheet, field by field

record Fresh : Type 0 where
  begun : (begin_call closed Island).walk ≡ record { is_open = true; kind = Island; count = 0; first = at (pos 0) (pos 0); last = at (pos 0) (pos 0); totals = area 0; outage = plus_zero }
  hole-begun : (begin_call closed Hole).walk ≡ record { is_open = true; kind = Hole; count = 0; first = at (pos 0) (pos 0); last = at (pos 0) (pos 0); totals = area 0; outage = plus_zero }
  ended : (abandon_call (opened Hole)).walk ≡ record { is_open = false; kind = Island; count = 0; first = at (pos 0) (pos 0); last = at (pos 0) (pos 0); totals = area 0; outage = plus_zero }
  sheet : new_sheet ≡ record { count = 0; totals = area 0 }

fresh : Fresh
unfolding over exceed not_finite below_zero lt impossible_walk begin_call abandon_call
fresh = record { begun = refl; hole-begun = refl; ended = refl; sheet = refl }

-- ---- refusals answer zeros

record Zeros : Type 0 where
  list : list_call [] ≡ record { number = 2; totals = area 0 }
  end : end_call closed (sheet_of 9 (area 3)) ≡ record { number = 21; totals = area 0; outage = plus_zero; walk = closed; sheet = sheet_of 9 (area 3) }

refusals : Zeros
unfolding over exceed points wrong_length list_call not_finite below_zero lt impossible_walk impossible_sheet end_call
refusals = record { list = refl; end = refl }

-- ---- lists: 2 comes before 1, and the least i32 is outside the limits

abbrev bad : ℤ
bad = negsuc 2_147_483_647

lists : map (λ zs. (list_call zs).number) ([] ∷ (bad ∷ bad ∷ bad ∷ bad ∷ bad ∷ []) ∷ (bad ∷ pos 0 ∷ pos 0 ∷ pos 0 ∷ pos 1 ∷ pos 1 ∷ []) ∷ (pos 2000 ∷ pos 0 ∷ pos 0 ∷ pos 2000 ∷ pos 1 ∷ pos 1 ∷ []) ∷ []) ≡ 2 ∷ 2 ∷ 1 ∷ 0 ∷ []
unfolding points over beyond any_beyond wrong_length list_call
lists = refl

-- ---- a walk marked closed with other fields, a hole among them: 28 does not look at it, and only begin takes it

record ClosedWalk : Type 0 where
  point : point_call leftover (at (pos 1) (pos 1)) ≡ refused_walk 21 leftover
  end : end_call leftover new_sheet ≡ refused_end 21 leftover new_sheet
  abandon : abandon_call leftover ≡ refused_walk 21 leftover
  fix : entry_call leftover (Fix (record { east = plus_zero; north = plus_zero })) ≡ refused_walk 21 leftover
  outage : entry_call leftover (Outage plus_zero) ≡ refused_walk 21 leftover
  begin : begin_call leftover Island ≡ record { number = 0; walk = opened Island }

closed-walk : ClosedWalk
unfolding over exceed beyond not_finite below_zero lt impossible_walk impossible_sheet begin_call point_call end_call abandon_call fix_call outage_call entry_call
closed-walk = record { point = refl; end = refl; abandon = refl; fix = refl; outage = refl; begin = refl }

-- ---- the sheet's half of 28 comes before 21; a sheet's count and totals need not agree

record Sheets : Type 0 where
  too_many : end_call closed (sheet_of 65 zeros) ≡ refused_end 28 closed (sheet_of 65 zeros)
  taken : impossible_sheet (sheet_of 0 (area 5)) ≡ false

sheets : Sheets
unfolding over exceed beyond not_finite below_zero lt impossible_walk impossible_sheet end_call
sheets = record { too_many = refl; taken = refl }

-- ---- an open walk of no points: its first and last are not looked at, its totals are

abbrev pointless : Walk
pointless = open_walk Hole 0 (at (pos 99_999) (negsuc 4)) (at (negsuc 4) (pos 99_999)) zeros plus_zero

record NoPoints : Type 0 where
  point : point_call pointless (at (pos 3) (pos 4)) ≡ record { number = 0; walk = open_walk Hole 1 (at (pos 3) (pos 4)) (at (pos 3) (pos 4)) zeros plus_zero }
  begin : begin_call pointless Island ≡ refused_walk 22 pointless
  end : end_call pointless new_sheet ≡ refused_end 24 pointless new_sheet
  abandon : abandon_call pointless ≡ record { number = 0; walk = closed }
  area_without_points : (point_call (open_of 0 (area 1)) origin).number ≡ 28

no_points : NoPoints
unfolding over exceed beyond extended not_finite below_zero lt impossible_walk impossible_sheet begin_call point_call end_call abandon_call
no_points = record { point = refl; begin = refl; end = refl; abandon = refl; area_without_points = refl }

-- ---- what an accepted call leaves of a walk handed in, its last point (9,9) not its first

abbrev handed : ℕ → Walk
handed n = open_walk Island n (at (pos 1) (pos 2)) (at (pos 9) (pos 9)) (area 5) plus_zero

record Left : Type 0 where
  -- the edge from (9,9) to (2,3) more
  point : point_call (handed 1) (at (pos 2) (pos 3)) ≡ record { number = 0; walk = open_walk Island 2 (at (pos 1) (pos 2)) (at (pos 2) (pos 3)) (record { a2 = pos 14; x6 = pos 99; y6 = pos 108; xx12 = pos 927; xy24 = pos 1971; yy12 = pos 1053 }) plus_zero }
  -- the edge from (9,9) to (1,2) more
  end : end_call (handed 3) (sheet_of 7 (area 2)) ≡ record { number = 0; totals = record { a2 = pos 14; x6 = pos 90; y6 = pos 99; xx12 = pos 819; xy24 = pos 1737; yy12 = pos 927 }; outage = plus_zero; walk = closed; sheet = sheet_of 8 (record { a2 = pos 16; x6 = pos 90; y6 = pos 99; xx12 = pos 819; xy24 = pos 1737; yy12 = pos 927 }) }
  -- the same as a hole: all six signs are turned, and the closed walk is an island
  hole-end : end_call (open_walk Hole 3 (at (pos 1) (pos 2)) (at (pos 9) (pos 9)) (area 5) plus_zero) (sheet_of 7 (area 2)) ≡ record { number = 0; totals = record { a2 = negsuc 13; x6 = negsuc 89; y6 = negsuc 98; xx12 = negsuc 818; xy24 = negsuc 1736; yy12 = negsuc 926 }; outage = plus_zero; walk = record { is_open = false; kind = Island; count = 0; first = at (pos 0) (pos 0); last = at (pos 0) (pos 0); totals = area 0; outage = plus_zero }; sheet = sheet_of 8 (record { a2 = negsuc 11; x6 = negsuc 89; y6 = negsuc 98; xx12 = negsuc 818; xy24 = negsuc 1736; yy12 = negsuc 926 }) }
  abandon : abandon_call (handed 3) ≡ record { number = 0; walk = closed }

left : Left
unfolding over exceed beyond extended has_sign turned zero_area not_finite below_zero lt impossible_walk impossible_sheet point_call end_call abandon_call
left = record { point = refl; end = refl; hole-end = refl; abandon = refl }

-- ---- walks handed in that no calls have made

record HandedIn : Type 0 where
  -- 28 asks for no agreement of first, last and totals, only for the share of the points
  one-point : (point_call (open_walk Island 1 origin (at (pos 9) (pos 9)) (area 8_000_000) plus_zero) origin).number ≡ 0
  above_the_share : (point_call (open_walk Island 1 origin (at (pos 9) (pos 9)) (area 8_000_001) plus_zero) origin).number ≡ 28
  three_points : (end_call (open_of 3 (area 24_000_000)) new_sheet).totals ≡ area 24_000_000
  one_more : (end_call (open_of 3 (area 24_000_001)) new_sheet).number ≡ 28
  -- an end may answer more than an outline's bound
  large : (end_call (open_walk Island 1024 (at (pos 2000) (pos 2000)) (at (pos 2000) (negsuc 1999)) (area 8_192_000_000) plus_zero) new_sheet).totals.a2 ≡ pos 8_200_000_000
  -- an open walk that 28 refuses cannot be abandoned
  too_long : abandon_call (open_of 1025 zeros) ≡ refused_walk 28 (open_of 1025 zeros)

handed_in_lem : HandedIn
unfolding over exceed beyond extended has_sign turned zero_area not_finite below_zero lt impossible_walk impossible_sheet point_call end_call abandon_call
handed_in_lem = record { one-point = refl; above_the_share = refl; three_points = refl; one_more = refl; large = refl; too_long = refl }
