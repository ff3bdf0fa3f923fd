-- The statements on walks and sheets used at two walks and one sheet, so that weaker statements are refused here.
use mathlib.Core.Path.{◌≡◌, refl, sym, ◌∙◌, ap}
use mathlib.Core.Bool.{false}
use mathlib.Core.List.{List, [], ◌∷◌, map}
use Prim.Native.Nat.{ℕ}
use mathlib.Core.Logic.{◌≢◌}
use native.Mathlib.Omega.{arith}
use lib.ListN.{length}
use lib.IntN.{pos, negsuc}
use lib.Ieee.{lt}
use Rattle.receiver.specs.Floats.{not_finite, below_zero}
use Rattle.outline.specs.declared.Kind.TheVariants.{Island, Hole}
use Rattle.outline.specs.declared.Totals.{Totals}
use Rattle.outline.specs.declared.AffineMap.{AffineMap}
use Rattle.outline.specs.declared.Walk.{Walk}
use Rattle.outline.specs.declared.Sheet.{Sheet}
use Rattle.outline.specs.EdgeSums.{open_edges, edges, sum_over, over, exceed, zeros, outline_totals}
use Rattle.outline.specs.ListCall.{accepted, points, numbers, beyond, any_outside, list_call}
use Rattle.outline.specs.MapCall.{moved, disallowed, map_call}
use Rattle.outline.specs.Pieces.{Cut, pieces_of, start_at, Direction, backwards, walked, placed, totals_of, sum_of, directed}
use Rattle.outline.specs.WalkCalls.{origin, closed, sheet_of, new_sheet, extended, closed_totals, has_sign, turned, zero_area, impossible_walk, impossible_sheet, begin_call, point_call, end_call, abandon_call}
use Rattle.outline.specs.CallLists.{begin, point, end, abandon, number_of, walk_after, impossible_sheet_in, ring_of, ring_with, next, after, from, walk_of, ring_totals, sheet_after, added_by, Walking, reached, rings_on}
use Rattle.outline.specs.PiecesAddUp.{AddUpMoved}
use Rattle.outline.specs.WalkedOutline.{Closable}
use Rattle.outline.specs.SheetSums.{HoldsSums}
use Rattle.outline.proofs.WorkedInputs.{at, open_of, leftover}
use Rattle.outline.proofs.PiecesUses.{pentagon, pentagon_totals, cuts, starts, flat, flat_allowed, flat_bounds, mirror, mirrored, mirror_allowed, mirror_bounds, mirror-answer}
use Rattle.outline.proofs.PiecesLaws.{same_sum}
use Rattle.outline.proofs.WalkedOutline.{walked-outline, walked_pieces}
use Rattle.outline.proofs.WalkedAgain.{walked_again}
use Rattle.outline.proofs.SheetSums.{sheet-sums, walked-sheet-sums}

-- ---- two walks

-- The pentagon, with refused calls of all four kinds, and a walk abandoned before it.
abbrev pub first : Walking
first =
    record {
      start = leftover;
      is_closed = refl;
      calls = point origin ∷ end new_sheet ∷ abandon ∷ begin Hole ∷ point (at (pos 9) (pos 9)) ∷ abandon ∷ begin Island ∷ begin Hole ∷ end new_sheet ∷ point (at (pos 2001) (pos 0)) ∷ point (at (pos 0) (pos 0)) ∷ point (at (pos 4) (pos 0)) ∷ point (at (pos 5) (pos 2)) ∷ end (sheet_of 65 zeros) ∷ point (at (pos 2) (pos 4)) ∷ point (at (pos 0) (pos 3)) ∷ end (sheet_of 64 zeros) ∷ [];
    }

-- The same walked backwards from another start, moved by `mirror`, as a hole.
abbrev pub second : Walking
second =
    record {
      start = closed;
      is_closed = refl;
      calls = begin Hole ∷ point (at (negsuc 2) (pos 5)) ∷ point (at (pos 1) (negsuc 2)) ∷ point (at (pos 4) (pos 0)) ∷ point (at (pos 3) (pos 5)) ∷ point (at (negsuc 1) (pos 9)) ∷ [];
    }

pub first-ring : (reached first).ring ≡ ring_of Island (points pentagon)
unfolding points over exceed beyond extended has_sign turned zero_area not_finite below_zero lt impossible_walk impossible_sheet begin_call point_call end_call abandon_call number_of walk_after ring_with next after
first-ring = refl

first-points : (reached first).ring.points ≡ points pentagon
first-points = ap (λ g. g.points) first-ring

second-points : (reached second).ring.points ≡ moved mirror (start_at 3 (walked backwards (reached first).ring.points))
unfolding over exceed beyond extended has_sign turned zero_area not_finite below_zero lt impossible_walk impossible_sheet begin_call point_call end_call abandon_call number_of walk_after ring_with next after walked
second-points = refl

pub first-closable : Closable (reached first).walk
unfolding over exceed beyond extended has_sign turned zero_area not_finite below_zero lt impossible_walk impossible_sheet begin_call point_call end_call abandon_call number_of walk_after ring_with next after
first-closable = record { is_open = refl; enough = omega arith }

second-closable : Closable (reached second).walk
unfolding over exceed beyond extended has_sign turned zero_area not_finite below_zero lt impossible_walk impossible_sheet begin_call point_call end_call abandon_call number_of walk_after ring_with next after
second-closable = record { is_open = refl; enough = omega arith }

-- The last place of a sheet whose totals the pentagon brings to 10^18.
abbrev pub last_place : Sheet
last_place = sheet_of 63 (record { a2 = pos 999_999_999_999_999_970; x6 = pos 999_999_999_999_999_804; y6 = pos 999_999_999_999_999_846; xx12 = pos 999_999_999_999_998_864; xy24 = pos 999_999_999_999_998_684; yy12 = pos 999_999_999_999_999_298 })

first_ends_there : (end_call (reached first).walk last_place).number ≡ 0
unfolding over exceed beyond extended has_sign turned zero_area not_finite below_zero lt impossible_walk impossible_sheet begin_call point_call end_call abandon_call number_of walk_after ring_with next after
first_ends_there = refl

-- The ring of a walk that has ended, or was abandoned, stays in the trace until the next begin.
ended-ring : (after (from closed) (begin Hole ∷ point (at (pos 1) (pos 0)) ∷ point (at (pos 0) (pos 1)) ∷ point origin ∷ end new_sheet ∷ [])).ring ≡ ring_of Hole (at (pos 1) (pos 0) ∷ at (pos 0) (pos 1) ∷ origin ∷ [])
unfolding over exceed beyond extended has_sign turned zero_area not_finite below_zero lt impossible_walk impossible_sheet begin_call point_call end_call number_of walk_after ring_with next after
ended-ring = refl

abandoned-ring : (after (from closed) (begin Hole ∷ point origin ∷ abandon ∷ [])).ring ≡ ring_of Hole (origin ∷ [])
unfolding over exceed beyond extended not_finite below_zero lt impossible_walk begin_call point_call abandon_call number_of walk_after ring_with next after
abandoned-ring = refl

-- ---- walked outlines

possible : impossible_walk (reached first).walk ≡ false
possible = (walked-outline first).possible

never_28 : number_of (reached first).walk (end (sheet_of 64 zeros)) ≢ 28
unfolding impossible_sheet_in impossible_sheet exceed over
never_28 = (walked-outline first).never_28 (end (sheet_of 64 zeros)) refl

is_walk : (reached first).walk ≡ walk_of (reached first).ring
is_walk = (walked-outline first).is_walk first-closable.is_open

edge_sums : closed_totals (reached first).walk ≡ outline_totals (reached first).ring.points
edge_sums = (walked-outline first).edge_sums first-closable

same : list_call (numbers (reached first).ring.points) ≡ accepted (closed_totals (reached first).walk)
same = (walked-outline first).list_call_agrees first-closable

computed : outline_totals (points pentagon) ≡ pentagon_totals
unfolding open_edges edges sum_over points
computed = refl

first-totals : closed_totals (reached first).walk ≡ pentagon_totals
first-totals = edge_sums ∙ ap outline_totals first-points ∙ computed

-- What the end answers in the last place of a sheet is an island's totals.
first-answered : (end_call (reached first).walk last_place).totals ≡ ring_totals (ring_of Island (points pentagon))
first-answered = (walked-outline first).answered last_place first_ends_there ∙ ap ring_totals first-ring

ended-closable : Closable (reached first).walk
ended-closable = (walked-outline first).closable last_place first_ends_there

-- ---- demand 3

in_bounds : (m : AffineMap) → any_outside (moved m (points pentagon)) ≡ false → any_outside (moved m (reached first).ring.points) ≡ false
in_bounds m h = ap (λ ps. any_outside (moved m ps)) first-points ∙ h

flat_pieces : AddUpMoved flat backwards (closed_totals (reached first).walk) (map (moved flat) (placed backwards starts (pieces_of (reached first).ring.points cuts)))
flat_pieces = walked_pieces first first-closable cuts starts backwards flat flat_allowed (in_bounds flat flat_bounds)

mirrored_again : map_call mirror (closed_totals (reached first).walk) ≡ accepted (directed backwards (closed_totals (reached second).walk))
mirrored_again = walked_again first first-closable second second-closable 3 backwards mirror mirror_allowed (in_bounds mirror mirror_bounds) second-points

second-totals : directed backwards (closed_totals (reached second).walk) ≡ mirrored
second-totals = ap (λ r. r.totals) (sym mirrored_again ∙ ap (map_call mirror) first-totals ∙ mirror-answer)

-- ---- a sheet: the second of four ends is refused, and the last, with a walk filled in by hand, is not

abbrev ended : List Walk
ended = (reached first).walk ∷ closed ∷ (reached second).walk ∷ open_of 3 pentagon_totals ∷ []

added : added_by new_sheet ended ≡ pentagon_totals ∷ mirrored ∷ pentagon_totals ∷ []
unfolding over exceed beyond extended has_sign turned zero_area not_finite below_zero lt impossible_walk impossible_sheet begin_call point_call end_call abandon_call number_of walk_after ring_with next after added_by
added = refl

sheet-count : (sheet_after new_sheet ended).count ≡ 3
sheet-count = (sheet-sums ended).count ∙ ap length added

sheet-totals : (sheet_after new_sheet ended).totals ≡ sum_of (pentagon_totals ∷ mirrored ∷ pentagon_totals ∷ [])
sheet-totals = (sheet-sums ended).totals ∙ ap sum_of added

sheet-possible : impossible_sheet (sheet_after new_sheet ended) ≡ false
sheet-possible = (sheet-sums ended).possible

-- A walk never begun, whose end is refused.
abbrev not_begun : Walking
not_begun = record { start = closed; is_closed = refl; calls = [] }

abbrev walks : List Walking
walks = first ∷ not_begun ∷ second ∷ []

rings : rings_on new_sheet (map reached walks) ≡ (reached first).ring ∷ (reached second).ring ∷ []
unfolding over exceed beyond extended has_sign turned zero_area not_finite below_zero lt impossible_walk impossible_sheet begin_call point_call end_call abandon_call number_of walk_after ring_with next after rings_on
rings = refl

walked-totals : (sheet_after new_sheet (map (λ k. (reached k).walk) walks)).totals ≡ sum_of (ring_totals (reached first).ring ∷ ring_totals (reached second).ring ∷ [])
walked-totals = (walked-sheet-sums walks).totals ∙ ap (λ gs. sum_of (map ring_totals gs)) rings

walked-count : (sheet_after new_sheet (map (λ k. (reached k).walk) walks)).count ≡ 2
walked-count = (walked-sheet-sums walks).count ∙ ap (λ gs. length (map ring_totals gs)) rings

walked-possible : impossible_sheet (sheet_after new_sheet (map (λ k. (reached k).walk) walks)) ≡ false
walked-possible = (walked-sheet-sums walks).possible

-- ---- every walk

-- Two walks with the same points have the same totals, whatever calls made them and whatever their kinds.
same_outline : (k l : Walking) → Closable (reached k).walk → Closable (reached l).walk → (reached k).ring.points ≡ (reached l).ring.points → closed_totals (reached k).walk ≡ closed_totals (reached l).walk
same_outline k l c d same = (walked-outline k).edge_sums c ∙ ap outline_totals same ∙ sym ((walked-outline l).edge_sums d)

-- Whatever the cuts and the starts, the pieces' totals add up to the same.
any_cuts : (k : Walking) → Closable (reached k).walk → (m : AffineMap) → disallowed m ≡ false → any_outside (moved m (reached k).ring.points) ≡ false → (direction : Direction) (some others : List Cut) (start from : ℕ → ℕ) → sum_of (map totals_of (map (moved m) (placed direction start (pieces_of (reached k).ring.points some)))) ≡ sum_of (map totals_of (map (moved m) (placed direction from (pieces_of (reached k).ring.points others))))
any_cuts k c m allowed bounds direction some others start from = same_sum (walked_pieces k c some start direction m allowed bounds) (walked_pieces k c others from direction m allowed bounds)

-- Two walks that walk an outline again in the same way have the same totals, with the signs that the direction gives.
walked_twice_again : (first second third : Walking) → Closable (reached first).walk → Closable (reached second).walk → Closable (reached third).walk → (start : ℕ) (direction : Direction) (m : AffineMap) → disallowed m ≡ false → any_outside (moved m (reached first).ring.points) ≡ false → (reached second).ring.points ≡ moved m (start_at start (walked direction (reached first).ring.points)) → (reached third).ring.points ≡ moved m (start_at start (walked direction (reached first).ring.points)) → directed direction (closed_totals (reached second).walk) ≡ directed direction (closed_totals (reached third).walk)
walked_twice_again first second third c d e start direction m allowed bounds same same' =
    ap (λ a. a.totals) (sym (walked_again first c second d start direction m allowed bounds same) ∙ walked_again first c third e start direction m allowed bounds same')

-- ---- every sheet

same_sheet : {s q : Sheet} {ts us : List Totals} → HoldsSums s ts → HoldsSums q us → ts ≡ us → s ≡ q
same_sheet one other same =
    let count = one.count ∙ ap length same ∙ sym other.count in
    let totals = one.totals ∙ ap sum_of same ∙ sym other.totals in
    λ i. record { count = count i; totals = totals i }

-- Ends that add the same leave the same sheet,
same_added : (ws vs : List Walk) → added_by new_sheet ws ≡ added_by new_sheet vs → sheet_after new_sheet ws ≡ sheet_after new_sheet vs
same_added ws vs = same_sheet (sheet-sums ws) (sheet-sums vs)

-- and so do walks whose accepted ends have the same rings.
same_rings : (ks ls : List Walking) → rings_on new_sheet (map reached ks) ≡ rings_on new_sheet (map reached ls) → sheet_after new_sheet (map (λ k. (reached k).walk) ks) ≡ sheet_after new_sheet (map (λ k. (reached k).walk) ls)
same_rings ks ls same = same_sheet (walked-sheet-sums ks) (walked-sheet-sums ls) (ap (map ring_totals) same)
