-- The statements on rings used: at a figure eight that 32 refuses, at the pentagon walked back, and with every quantifier left free, so that weaker statements are refused here.
use mathlib.Core.Path.{◌≡◌, refl, sym, ◌∙◌, ap}
use mathlib.Core.Bool.{true, false}
use mathlib.Core.List.{List, [], ◌∷◌, map, Memᴰ}
use Prim.Native.Nat.{ℕ}
use mathlib.Core.Logic.{◌≢◌}
use native.Mathlib.Omega.{arith}
use lib.IntN.{ℤ, pos, negsuc, nat_abs}
use lib.Signed.{lt_z}
use lib.Ieee.{lt}
use Rattle.receiver.specs.Floats.{not_finite, below_zero, plus_zero}
use Rattle.outline.specs.declared.Kind.{Kind}
use Rattle.outline.specs.declared.Kind.TheVariants.{Island, Hole}
use Rattle.outline.specs.declared.Totals.{Totals}
use Rattle.outline.specs.declared.AffineMap.{AffineMap}
use Rattle.outline.specs.declared.Walk.{Walk}
use Rattle.outline.specs.declared.Sheet.{Sheet}
use Rattle.outline.specs.EdgeSums.{open_edges, edges, sum_over, zeros, over, exceed, outline_totals}
use Rattle.outline.specs.ListCall.{accepted, points, numbers, beyond, any_outside, list_call}
use Rattle.outline.specs.MapCall.{moved, disallowed}
use Rattle.outline.specs.Pieces.{Cut, pieces_of, start_at, Direction, backwards, walked, placed}
use Rattle.outline.specs.WalkCalls.{closed, sheet_of, extended, closed_totals, has_sign, turned, zero_area, sheet_with, impossible_walk, impossible_sheet, begin_call, point_call, end_call, abandon_call}
use Rattle.outline.specs.CallLists.{begin, point, end, number_of, walk_after, Ring, ring_of, ring_with, longest_after, next, after, from, Walking, reached}
use Rattle.outline.specs.PiecesAddUp.{AddUpMoved}
use Rattle.outline.specs.WalkedOutline.{Closable}
use Rattle.outline.specs.EveryOutline.{answers, Walkable, Room, ended_with, Ending}
use Rattle.outline.specs.Rings.{SameEnd}
use Rattle.outline.proofs.WorkedInputs.{at, leftover}
use Rattle.outline.proofs.PiecesUses.{pentagon, pentagon_totals, pentagon_taken}
use Rattle.outline.proofs.WalkedOutline.{walked-outline, walked_pieces}
use Rattle.outline.proofs.EveryOutline.{by_points}
use Rattle.outline.proofs.Rings.{sign_by_kind, walked_back}
use Rattle.outline.proofs.WalkedUses.{first, first-closable, last_place}

-- ---- a figure eight whose end is refused with 32, and goes on

abbrev eight : Walking
eight =
    record {
      start = leftover;
      is_closed = refl;
      calls = begin Hole ∷ point (at (pos 0) (pos 0)) ∷ point (at (pos 2) (pos 2)) ∷ point (at (pos 2) (pos 0)) ∷ point (at (pos 0) (pos 2)) ∷ end (sheet_of 64 zeros) ∷ begin Island ∷ [];
    }

eight-ring : (reached eight).ring ≡ ring_of Hole (at (pos 0) (pos 0) ∷ at (pos 2) (pos 2) ∷ at (pos 2) (pos 0) ∷ at (pos 0) (pos 2) ∷ [])
unfolding over exceed beyond extended has_sign turned zero_area not_finite below_zero lt impossible_walk impossible_sheet begin_call point_call end_call number_of walk_after ring_with next after
eight-ring = refl

eight-closable : Closable (reached eight).walk
unfolding over exceed beyond extended has_sign turned zero_area not_finite below_zero lt impossible_walk impossible_sheet begin_call point_call end_call number_of walk_after ring_with next after
eight-closable = record { is_open = refl; enough = omega arith }

abbrev eight_totals : Totals
eight_totals = record { a2 = pos 0; x6 = negsuc 7; y6 = pos 0; xx12 = negsuc 31; xy24 = negsuc 31; yy12 = pos 0 }

eight_computed : outline_totals (reached eight).ring.points ≡ eight_totals
unfolding open_edges edges sum_over over exceed beyond extended has_sign turned zero_area not_finite below_zero lt impossible_walk impossible_sheet begin_call point_call end_call number_of walk_after ring_with next after
eight_computed = refl

-- Its totals with the closing edge are the edge sums all the same, and what the list call answers,
eight-sums : closed_totals (reached eight).walk ≡ eight_totals
eight-sums = (walked-outline eight).edge_sums eight-closable ∙ eight_computed

eight_listed : list_call (numbers (reached eight).ring.points) ≡ accepted eight_totals
eight_listed = (walked-outline eight).list_call_agrees eight-closable ∙ ap accepted eight-sums

-- demand 3 holds of them,
eight_pieces : (cuts : List Cut) (start : ℕ → ℕ) (direction : Direction) (m : AffineMap) → disallowed m ≡ false → any_outside (moved m (reached eight).ring.points) ≡ false → AddUpMoved m direction (closed_totals (reached eight).walk) (map (moved m) (placed direction start (pieces_of (reached eight).ring.points cuts)))
eight_pieces = walked_pieces eight eight-closable

-- and a full sheet refuses it with 32, as every sheet does that 28 takes, and none else for that reason.
eight-refused : (end_call (reached eight).walk (sheet_of 64 zeros)).number ≡ 32
unfolding impossible_sheet exceed over
eight-refused = (walked-outline eight).zero_area_lem eight-closable (sheet_of 64 zeros) refl (ap (λ t. t.a2) eight_computed)

without_area : (k : Walking) → Closable (reached k).walk → (s : Sheet) → impossible_sheet s ≡ false → (outline_totals (reached k).ring.points).a2 ≡ pos 0 → (end_call (reached k).walk s).number ≡ 32
without_area k = (walked-outline k).zero_area_lem

only_without_area : (k : Walking) (s : Sheet) → (end_call (reached k).walk s).number ≡ 32 → (outline_totals (reached k).ring.points).a2 ≡ pos 0
only_without_area k s = (walked-outline k).only_zero_area s

-- ---- the pentagon walked back, from another start

abbrev back : Walking
back =
    record {
      start = closed;
      is_closed = refl;
      calls = begin Island ∷ point (at (pos 4) (pos 0)) ∷ point (at (pos 0) (pos 0)) ∷ point (at (pos 0) (pos 3)) ∷ point (at (pos 2) (pos 4)) ∷ point (at (pos 5) (pos 2)) ∷ [];
    }

back_points : (reached back).ring.points ≡ start_at 3 (walked backwards (reached first).ring.points)
unfolding over exceed beyond extended has_sign turned zero_area not_finite below_zero lt impossible_walk impossible_sheet begin_call point_call end_call abandon_call number_of walk_after ring_with next after walked
back_points = refl

back_kind : (reached back).ring.kind ≡ (reached first).ring.kind
unfolding over exceed beyond extended has_sign turned zero_area not_finite below_zero lt impossible_walk impossible_sheet begin_call point_call end_call abandon_call number_of walk_after ring_with next after
back_kind = refl

back_open : (reached back).walk.is_open ≡ true
unfolding over exceed beyond extended has_sign turned zero_area not_finite below_zero lt impossible_walk impossible_sheet begin_call point_call end_call abandon_call number_of walk_after ring_with next after
back_open = refl

same_end : (s : Sheet) → SameEnd (end_call (reached first).walk s) (end_call (reached back).walk s)
same_end = walked_back first first-closable.is_open back back_open back_kind 3 backwards back_points

same_refusal : (end_call (reached first).walk (sheet_of 64 zeros)).number ≡ (end_call (reached back).walk (sheet_of 64 zeros)).number
same_refusal = (same_end (sheet_of 64 zeros)).number

same_totals : (end_call (reached first).walk last_place).totals ≡ (end_call (reached back).walk last_place).totals
same_totals = (same_end last_place).totals

same_sheet : (end_call (reached first).walk last_place).sheet ≡ (end_call (reached back).walk last_place).sheet
same_sheet = (same_end last_place).sheet

-- Any two such walks, on any sheet.
any_way : (first second : Walking) → (reached first).walk.is_open ≡ true → (reached second).walk.is_open ≡ true → (reached second).ring.kind ≡ (reached first).ring.kind → (start : ℕ) (direction : Direction) → (reached second).ring.points ≡ start_at start (walked direction (reached first).ring.points) → (s : Sheet) → SameEnd (end_call (reached first).walk s) (end_call (reached second).walk s)
any_way first second open-first open-second kind start direction same = walked_back first open-first second open-second kind start direction same

-- ---- the sign of an area, of any walk on any sheet

above : (w : Walk) (s : Sheet) → (end_call w s).number ≡ 0 → w.kind ≡ Island → lt_z (pos 0) (end_call w s).totals.a2 ≡ true
unfolding has_sign
above w s z e = ap (λ k. has_sign k (end_call w s).totals.a2) (sym e) ∙ sign_by_kind w s z

below : (w : Walk) (s : Sheet) → (end_call w s).number ≡ 0 → w.kind ≡ Hole → lt_z (end_call w s).totals.a2 (pos 0) ≡ true
unfolding has_sign
below w s z e = ap (λ k. has_sign k (end_call w s).totals.a2) (sym e) ∙ sign_by_kind w s z

-- ---- the pentagon can be walked as either kind, also from the walk with leftover fields, and into the last place of a sheet

abbrev ring_as : Kind → Ring
ring_as k = ring_of k (points pentagon)

pentagon_as : (k : Kind) → Walkable leftover k (map point (points pentagon)) (ring_as k) × Ending (ring_as k) pentagon_totals
pentagon_as k = by_points pentagon pentagon_totals pentagon_taken k leftover refl

none-refused : (k : Kind) (n : ℕ) → Memᴰ n (answers leftover (begin k ∷ map point (points pentagon))) → n ≡ 0
none-refused k = (pentagon_as k).0.none-refused

taken : (k : Kind) → (after (from leftover) (begin k ∷ map point (points pentagon))).ring ≡ ring_as k
taken k = (pentagon_as k).0.ring

last-place : Room last_place pentagon_totals
unfolding impossible_sheet exceed over
last-place = record { possible = refl; count = omega arith; totals = refl }

pentagon_ended : end_call (after (from leftover) (begin Island ∷ map point (points pentagon))).walk last_place ≡ record { number = 0; totals = pentagon_totals; outage = plus_zero; walk = closed; sheet = sheet_with last_place pentagon_totals }
unfolding has_sign turned longest_after
pentagon_ended = ap (λ w. end_call w last_place) (pentagon_as Island).0.walk ∙ (pentagon_as Island).1.accepted (λ e. omega (arith, ap nat_abs e)) last_place last-place

-- Every list that the list call accepts can be walked as a ring of either kind. If it has an area, every sheet with room then has its totals more, as added;
walked_onto : (zs : List ℤ) (t : Totals) → list_call zs ≡ accepted t → (k : Kind) (w : Walk) → w.is_open ≡ false → t.a2 ≢ pos 0 → (s : Sheet) → Room s (turned k t) → end_call (after (from w) (begin k ∷ map point (points zs))).walk s ≡ ended_with s (turned k t) plus_zero
unfolding longest_after
walked_onto zs t taken k w h area s room = let (walkable, ending) = by_points zs t taken k w h in ap (λ w. end_call w s) walkable.walk ∙ ending.accepted area s room

-- if it has none, every sheet that 28 takes refuses it with 32.
walked_flat : (zs : List ℤ) (t : Totals) → list_call zs ≡ accepted t → (k : Kind) (w : Walk) → w.is_open ≡ false → t.a2 ≡ pos 0 → (s : Sheet) → impossible_sheet s ≡ false → (end_call (after (from w) (begin k ∷ map point (points zs))).walk s).number ≡ 32
walked_flat zs t taken k w h zero s m = let (walkable, ending) = by_points zs t taken k w h in ap (λ w. (end_call w s).number) walkable.walk ∙ ap (λ e. e.number) (ending.refused zero s m)
