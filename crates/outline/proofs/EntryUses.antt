-- The statements of document 02, CR 9, and those on walked outlines over lists with entries, used: at the pentagon given by points, fixes and outages, and with every quantifier left
-- free, so that weaker statements are refused here.
use Prim.Native.Nat.{ℕ}
use mathlib.Core.Path.{◌≡◌, refl, sym, ◌∙◌, ap}
use mathlib.Core.Bool.{true, false, not, ◌||◌}
use mathlib.Core.List.{List, [], ◌∷◌, map, Memᴰ}
use mathlib.Core.Logic.{◌≢◌, ◌⊎◌}
use native.Mathlib.Omega.{arith}
use lib.Count.{count_trailing_zeros}
use lib.Dec.{T}
use lib.IntN.{ℤ, pos, nat_abs}
use lib.Ieee.{Float, binary32, fits, of_int, lt, odd, of_fields, of_bits}
use Rattle.integers.specs.Rounding.{rounds_to, first_rounded, round_half_up}
use Rattle.receiver.specs.declared.Fix.{Fix as FixOf}
use Rattle.receiver.specs.declared.Entry.TheVariants.{Fix, Outage}
use Rattle.receiver.specs.Floats.{not_finite, rounded, below_zero, plus_zero}
use Rattle.receiver.proofs.WorkedFloats.{float}
use Rattle.outline.specs.declared.Kind.{Kind}
use Rattle.outline.specs.declared.Kind.TheVariants.{Island, Hole}
use Rattle.outline.specs.declared.Position.{Position}
use Rattle.outline.specs.declared.Totals.{Totals}
use Rattle.outline.specs.declared.Walk.{Walk}
use Rattle.outline.specs.declared.Sheet.{Sheet}
use Rattle.outline.specs.EdgeSums.{over, exceed, zeros, negated}
use Rattle.outline.specs.ListCall.{accepted, points, numbers, beyond, outside, list_call}
use Rattle.outline.specs.FixCall.{fix_point, fix_not_finite}
use Rattle.outline.specs.WalkCalls.{closed, sheet_of, new_sheet, extended, closed_totals, has_sign, turned, zero_area, impossible_walk, impossible_sheet, refused_walk, begin_call, point_call, end_call, abandon_call}
use Rattle.outline.specs.EntryCalls.{longer, fix_call, outage_call, entry_call}
use Rattle.outline.specs.CallLists.{Call, begin, point, entry, end, abandon, number_of, walk_after, impossible_sheet_in, ring_with, next, after, from, longest_after, walk_of, Walking, reached}
use Rattle.outline.specs.WalkedOutline.{Closable, LeftClosed}
use Rattle.outline.specs.EntryLaws.{FixAsPoint, PointKeepsOutage, OutageAddsNoPoint, Outage28}
use Rattle.outline.specs.LongestOutage.{Greatest, LongestOutage}
use Rattle.outline.specs.EveryOutline.{answers, point_or_entry, ring_from, ring_by, Walkable, Room, Ending, ended_with, EveryOutline}
use Rattle.outline.specs.EveryFix.{fix_of, EveryFix, as_fix, OutlineByFixes}
use Rattle.outline.proofs.Every.{all_member}
use Rattle.outline.proofs.WorkedInputs.{at, leftover}
use Rattle.outline.proofs.PiecesUses.{pentagon, pentagon_totals, pentagon_taken}
use Rattle.outline.proofs.EntryLaws.{fix_as_point, fix_33, outage-numbers, point_keeps_outage, outage_adds_no_point, outage_28}
use Rattle.outline.proofs.WalkedOutline.{walked-outline}
use Rattle.outline.proofs.LeftClosed.{left-closed}
use Rattle.outline.proofs.LongestOutage.{longest_outage, greatest_unique, outage-at-end, outage_cleared}
use Rattle.outline.proofs.EveryOutline.{every_outline}
use Rattle.outline.proofs.EveryFix.{every_fix, outline_by_fixes}

abbrev fix : ℕ → ℕ → Call
fix east north = entry (Fix (record { east = float east; north = float north }))

abbrev outage : ℕ → Call
outage seconds = entry (Outage (float seconds))

-- ---- the pentagon by points, fixes and outages, from the walk with leftover fields: entries of every kind are refused before begin and in between, and a walk with an outage of 9 seconds
-- is abandoned first

abbrev recorded : Walking
recorded =
    record {
      start = leftover;
      is_closed = refl;
      calls = fix 0 0 ∷ outage 0x40A0_0000 ∷ begin Island ∷ outage 0x4110_0000 ∷ abandon ∷ begin Hole ∷ begin Island ∷ outage 0x3F80_0000 ∷ fix 0xBF00_0000 0x8000_0000 ∷ fix 0x7F80_0000 0 ∷ fix 0x4080_0000 0 ∷ outage 0xBF80_0000 ∷ outage 0x4040_0000 ∷ point (at (pos 5) (pos 2)) ∷ outage 0x7FC0_0000 ∷ end (sheet_of 65 zeros) ∷ fix 0x4000_0000 0x4060_0000 ∷ outage 0x4000_0000 ∷ fix 0x0000_0000 0x4020_0000 ∷ [];
    }

-- The outages accepted since the last accepted begin: 1, 3 and 2 seconds.
recorded_ring : (reached recorded).ring ≡ record { kind = Hole; points = points pentagon; outages = float 0x3F80_0000 ∷ float 0x4040_0000 ∷ float 0x4000_0000 ∷ [] }
unfolding count_trailing_zeros odd of_fields of_bits lt rounds_to first_rounded round_half_up not_finite rounded below_zero points over exceed beyond fix_not_finite extended has_sign turned zero_area impossible_walk impossible_sheet begin_call point_call end_call abandon_call longer fix_call outage_call entry_call number_of walk_after ring_with next after
recorded_ring = refl

recorded_closable : Closable (reached recorded).walk
unfolding count_trailing_zeros odd of_fields of_bits lt rounds_to first_rounded round_half_up not_finite rounded below_zero over exceed beyond fix_not_finite extended has_sign turned zero_area impossible_walk impossible_sheet begin_call point_call end_call abandon_call longer fix_call outage_call entry_call number_of walk_after ring_with next after
recorded_closable = record { is_open = refl; enough = omega arith }

-- Its totals with the closing edge are the pentagon's, and no entry on it answers 28.
recorded_sums : list_call (numbers (points pentagon)) ≡ accepted (closed_totals (reached recorded).walk)
recorded_sums = ap (λ g. list_call (numbers g.points)) (sym recorded_ring) ∙ (walked-outline recorded).list_call_agrees recorded_closable

never_28 : (number_of (reached recorded).walk (fix 0 0) ≢ 28) × (number_of (reached recorded).walk (outage 0) ≢ 28)
unfolding impossible_sheet_in
never_28 = ((walked-outline recorded).never_28 (fix 0 0) refl, (walked-outline recorded).never_28 (outage 0) refl)

recorded_walk : (reached recorded).walk ≡ walk_of (reached recorded).ring
recorded_walk = (walked-outline recorded).is_walk recorded_closable.is_open

-- ---- its longest outage

recorded_greatest : Greatest plus_zero (reached recorded).ring.outages (reached recorded).walk.outage
recorded_greatest = longest_outage recorded recorded_closable.is_open

-- 3 seconds, as no other float of 32 bits is the greatest.
three_seconds : (reached recorded).walk.outage ≡ float 0x4040_0000
unfolding count_trailing_zeros odd of_fields of_bits lt rounds_to first_rounded round_half_up not_finite rounded below_zero over exceed beyond fix_not_finite extended has_sign turned zero_area impossible_walk impossible_sheet begin_call point_call end_call abandon_call longer fix_call outage_call entry_call number_of walk_after ring_with next after
three_seconds = refl

any_greatest : (k : Walking) → (reached k).walk.is_open ≡ true → (x : Float) → T (fits binary32 x) → T (fits binary32 (reached k).walk.outage) → Greatest plus_zero (reached k).ring.outages x → x ≡ (reached k).walk.outage
any_greatest k o x held kept g = let stated : LongestOutage = longest_outage in greatest_unique (reached k).ring.outages x (reached k).walk.outage held kept g (stated k o)

any_none_greater : (k : Walking) → (reached k).walk.is_open ≡ true → (o : Float) → Memᴰ o (reached k).ring.outages → lt (reached k).walk.outage o ≡ false
any_none_greater k is_open = let stated : LongestOutage = longest_outage in (stated k is_open).none-greater

any_one_of : (k : Walking) → (reached k).walk.is_open ≡ true → (let x = (reached k).walk.outage in (x ≡ plus_zero) ⊎ ((lt plus_zero x ≡ true) × Memᴰ x (reached k).ring.outages))
any_one_of k is_open = let stated : LongestOutage = longest_outage in (stated k is_open).one_of

-- ---- at an end, a begin and an abandon, for every walk

answered : (w : Walk) (s : Sheet) → (end_call w s).number ≡ 0 → ((end_call w s).outage ≡ w.outage) × ((end_call w s).walk.outage ≡ plus_zero)
answered w s z = let h = outage-at-end w s in (h.answered z, h.left z)

refused : (w : Walk) (s : Sheet) → (end_call w s).number ≢ 0 → ((end_call w s).outage ≡ plus_zero) × ((end_call w s).walk.outage ≡ w.outage)
refused w s n = let h = outage-at-end w s in (h.refused n, h.kept n)

begun : (w : Walk) (k : Kind) → (begin_call w k).number ≡ 0 → (begin_call w k).walk.outage ≡ plus_zero
begun w k = (outage_cleared w).begun k

abandoned : (w : Walk) → (abandon_call w).number ≡ 0 → (abandon_call w).walk.outage ≡ plus_zero
abandoned w = (outage_cleared w).abandoned

-- ---- a fix beside its point, for every walk

fix-point : (w : Walk) (f : FixOf) → (entry_call w (Fix f)).number ≢ 33 → entry_call w (Fix f) ≡ point_call w (fix_point f)
fix-point = let stated : FixAsPoint = fix_as_point in stated

-- 33, and only there.
infinite_fix : (w : Walk) (f : FixOf) → impossible_walk w ≡ false → w.is_open ≡ true → fix_not_finite f ≡ true → entry_call w (Fix f) ≡ refused_walk 33 w
infinite_fix w f = (fix_33 w f).refused

only_infinite : (w : Walk) (f : FixOf) → (entry_call w (Fix f)).number ≡ 33 → (impossible_walk w ≡ false) × (w.is_open ≡ true) × (fix_not_finite f ≡ true)
only_infinite w f = (fix_33 w f).only

-- ---- an outage, for every walk

closed-outage : (w : Walk) (seconds : Float) → impossible_walk w ≡ false → w.is_open ≡ false → entry_call w (Outage seconds) ≡ refused_walk 21 w
closed-outage w seconds = (outage-numbers w seconds).not_open

infinite_outage : (w : Walk) (seconds : Float) → impossible_walk w ≡ false → w.is_open ≡ true → not_finite seconds ≡ true → entry_call w (Outage seconds) ≡ refused_walk 33 w
infinite_outage w seconds = (outage-numbers w seconds).not_finite_lem

below-outage : (w : Walk) (seconds : Float) → impossible_walk w ≡ false → w.is_open ≡ true → not_finite seconds ≡ false → below_zero seconds ≡ true → entry_call w (Outage seconds) ≡ refused_walk 34 w
below-outage w seconds = (outage-numbers w seconds).below_zero_lem

taken-outage : (w : Walk) (seconds : Float) → impossible_walk w ≡ false → w.is_open ≡ true → not_finite seconds ≡ false → below_zero seconds ≡ false → (entry_call w (Outage seconds)).number ≡ 0
taken-outage w seconds = (outage-numbers w seconds).accepted

greater-outage : (w : Walk) (seconds : Float) → (entry_call w (Outage seconds)).number ≡ 0 → lt w.outage seconds ≡ true → (entry_call w (Outage seconds)).walk.outage ≡ seconds
greater-outage w seconds = (outage-numbers w seconds).greater

no_greater_outage : (w : Walk) (seconds : Float) → lt w.outage seconds ≡ false → (entry_call w (Outage seconds)).walk.outage ≡ w.outage
no_greater_outage w seconds = (outage-numbers w seconds).not_greater

point_keeps : (w : Walk) (p : Position) → (point_call w p).walk.outage ≡ w.outage
point_keeps = let stated : PointKeepsOutage = point_keeps_outage in stated

every_call_28 : (w : Walk) → w.is_open ≡ true → (not_finite w.outage || below_zero w.outage) ≡ true → (c : Call) → number_of w c ≡ 28
every_call_28 = let stated : Outage28 = outage_28 in stated

-- Calls that leave a walk closed leave the one handed in, or zeros.
closed_again : (k : Walking) → (reached k).walk.is_open ≡ false → ((reached k).walk ≡ k.start) ⊎ ((reached k).walk ≡ closed)
closed_again = let stated : LeftClosed = left-closed in stated

same_points : (w : Walk) (seconds : Float) → (let left = (entry_call w (Outage seconds)).walk in (left.is_open ≡ w.is_open) × (left.kind ≡ w.kind) × (left.count ≡ w.count) × (left.first ≡ w.first) × (left.last ≡ w.last) × (left.totals ≡ w.totals))
same_points w seconds = let stated : OutageAddsNoPoint = outage_adds_no_point in let s = stated w seconds in (s.is_open, s.kind, s.count, s.first, s.last, s.totals)

-- ---- the pentagon is accepted at every call, by points, fixes and outages, and its end answers the longest outage

abbrev mixed : List Call
mixed = outage 0x4040_0000 ∷ fix 0 0 ∷ point (at (pos 4) (pos 0)) ∷ fix 0x40A0_0000 0x4000_0000 ∷ outage 0x3F80_0000 ∷ point (at (pos 2) (pos 4)) ∷ fix 0 0x4040_0000 ∷ []

mixed-calls : (c : Call) → Memᴰ c mixed → point_or_entry c ≡ true
unfolding point_or_entry count_trailing_zeros odd of_fields of_bits lt not_finite below_zero fix_not_finite
mixed-calls = all_member (λ c. point_or_entry c ≡ true) mixed (refl, (refl, (refl, (refl, (refl, (refl, (refl, tt)))))))

mixed-points : (ring_by Hole mixed).points ≡ points pentagon
unfolding count_trailing_zeros odd of_fields of_bits rounds_to first_rounded round_half_up rounded points ring_with ring_from
mixed-points = refl

mixed-taken : Walkable leftover Hole mixed (ring_by Hole mixed) × Ending (ring_by Hole mixed) pentagon_totals
mixed-taken = every_outline pentagon pentagon_totals pentagon_taken Hole mixed mixed-calls mixed-points leftover refl

new_sheet_room : Room new_sheet (negated pentagon_totals)
unfolding impossible_sheet exceed over
new_sheet_room = record { possible = refl; count = omega arith; totals = refl }

mixed-ended : end_call (walk_of (ring_by Hole mixed)) new_sheet ≡ ended_with new_sheet (negated pentagon_totals) (float 0x4040_0000)
unfolding has_sign turned count_trailing_zeros odd of_fields of_bits lt rounds_to first_rounded round_half_up rounded longer longest_after ring_with ring_from
mixed-ended = mixed-taken.1.accepted (λ e. omega (arith, ap nat_abs e)) new_sheet new_sheet_room

-- Every list that the list call accepts, by whatever such calls.
any_calls : (zs : List ℤ) (t : Totals) → list_call zs ≡ accepted t → (k : Kind) (calls : List Call) → ((c : Call) → Memᴰ c calls → point_or_entry c ≡ true) → (ring_by k calls).points ≡ points zs → (w : Walk) → w.is_open ≡ false → (after (from w) (begin k ∷ calls)).walk ≡ walk_of (ring_by k calls)
any_calls zs t e k calls goes same w h = let stated : EveryOutline = every_outline in (stated zs t e k calls goes same w h).0.walk

-- By fixes alone; and every point within the limits is that of a fix.
by_fixes : (zs : List ℤ) (t : Totals) → list_call zs ≡ accepted t → (k : Kind) (w : Walk) → w.is_open ≡ false → (n : ℕ) → Memᴰ n (answers w (begin k ∷ map as_fix (points zs))) → n ≡ 0
by_fixes zs t e k w h = let stated : OutlineByFixes = outline_by_fixes in (stated zs t e k w h).0.none-refused

fixes_ended : (zs : List ℤ) (t : Totals) → list_call zs ≡ accepted t → (k : Kind) (w : Walk) → w.is_open ≡ false → t.a2 ≢ pos 0 → (s : Sheet) → Room s (turned k t) → end_call (after (from w) (begin k ∷ map as_fix (points zs))).walk s ≡ ended_with s (turned k t) plus_zero
unfolding longest_after
fixes_ended zs t e k w h area s room = let (walkable, ending) = outline_by_fixes zs t e k w h in ap (λ w. end_call w s) walkable.walk ∙ ending.accepted area s room

as_fix_lem : (p : Position) → as_fix p ≡ entry (Fix (record { east = of_int binary32 p.x; north = of_int binary32 p.y }))
as_fix_lem p = refl

point_of : (p : Position) → outside p ≡ false → (let f = fix_of p in (fits binary32 f.east ≡ true) × (fits binary32 f.north ≡ true) × (fix_not_finite f ≡ false) × (fix_point f ≡ p))
point_of p h = let stated : EveryFix = every_fix in let f = stated p h in (f.east, f.north, f.finite, f.point)

-- Every point, every finite fix and every outage that 33 and 34 take is such a call.
every_point : (p : Position) → point_or_entry (point p) ≡ true
unfolding point_or_entry
every_point p = refl

every_finite_fix : (f : FixOf) → fix_not_finite f ≡ false → point_or_entry (entry (Fix f)) ≡ true
unfolding point_or_entry
every_finite_fix f h = ap not h

every_outage : (seconds : Float) → not_finite seconds ≡ false → below_zero seconds ≡ false → point_or_entry (entry (Outage seconds)) ≡ true
unfolding point_or_entry
every_outage seconds h k = rw (h, k) refl
