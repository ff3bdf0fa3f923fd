-- Demands 2 and 3 for walked outlines: after any list of calls from a walk marked closed, the walk is closed or is the walk of the ring begun last: the kind of the last
-- accepted begin, and the points and outages taken since. Each call keeps this, and the claims follow from it.
use mathlib.Core.Path.{◌≡◌, refl, sym, ◌∙◌, ap, subst}
use mathlib.Core.Bool.{true, false, cond, true≢false}
use mathlib.Core.List.{List, [], ◌∷◌, map}
use Prim.Native.Nat.{ℕ, zero-le}
use native.Mathlib.Omega.{arith}
use lib.Dec.{eqb}
use lib.Ieee.{Float}
use lib.ListN.{length-append}
use borrow.Author.Tests.{ne_eqb}
use Rattle.outline.specs.declared.Position.{Position}
use Rattle.outline.specs.declared.Walk.{Walk}
use Rattle.outline.specs.EdgeSums.{open_edges, sum_over, outline_totals, outline_bounds, exceed}
use Rattle.outline.specs.ListCall.{accepted, numbers, any_outside}
use Rattle.outline.specs.MapCall.{moved}
use Rattle.outline.specs.Pieces.{pieces_of, placed}
use Rattle.outline.specs.WalkCalls.{closed_totals, turned, added_totals, extended, impossible_walk}
use Rattle.outline.specs.FixCall.{fix_point}
use Rattle.outline.specs.EntryCalls.{with_outage}
use Rattle.outline.specs.CallLists.{Call, number_of, walk_after, Ring, ring_of, with_point, with_seconds, ring_with, longest_after, Trace, next, after, walk_of, ring_totals, Walking, reached}
use Rattle.outline.specs.PiecesAddUp.{AddUpMoved}
use Rattle.outline.specs.WalkedOutline.{Closable, WalkedOutline, WalkedPieces}
use Rattle.outline.proofs.Every.{all_append}
use Rattle.outline.proofs.IndexLaws.{points-numbers}
use Rattle.outline.proofs.Limits.{Inside, beyond_not, Outline, accepts-points, accepted_within}
use Rattle.outline.proofs.PiecesAddUp.{pieces_add_up}
use Rattle.outline.proofs.CallCases as Case
use Rattle.outline.proofs.CallCases.{Extends, TakesOutage, Taken, begun, extends, fixes, takes_outage, ends, abandoned}
use Rattle.outline.proofs.Refusals.{not_28, end_32, only_32}
use Rattle.outline.proofs.TurnedTotals.{zero_zero_area, zero_area_zero}
use Rattle.outline.proofs.Outages.{Usable}
use Rattle.outline.proofs.WalkOf.{extended_is, outage_is, closed_is, Sound, possible-walk, possible-closed}

-- ---- what every list of calls keeps

abbrev pub trace_of : Ring → Trace
trace_of g = record { walk = walk_of g; ring = g }

-- The walk is closed, or it is that of the trace's ring.
data Kept : Trace → Type 0 where
  not_open : {r : Trace} → r.walk.is_open ≡ false → Kept r
  walking : (g : Ring) → Sound g → Kept (trace_of g)

-- A point more, of a point call or of a fix.
point_keeps : {r : Trace} → Kept r → (p : Position) → Extends r.walk p → Kept (record { walk = extended r.walk p; ring = with_point r.ring p })
point_keeps (not_open h) p e = absurd (true≢false (sym e.is_open ∙ h))
point_keeps (walking g h) p e =
    subst (λ w. Kept (record { walk = w; ring = with_point g p })) (sym (extended_is g p))
    (walking (with_point g p)
    (record {
      few = omega (arith, length-append g.points (p ∷ []), e.room);
      inside = all_append Inside g.points (p ∷ []) h.inside (beyond_not p e.inside, tt);
      usable = h.usable;
    }))

-- An outage more.
outage_keeps : {r : Trace} → Kept r → (seconds : Float) → TakesOutage r.walk seconds → Kept (record { walk = with_outage r.walk seconds; ring = with_seconds r.ring seconds })
outage_keeps (not_open h) seconds e = absurd (true≢false (sym e.is_open ∙ h))
outage_keeps (walking g h) seconds e =
    subst (λ w. Kept (record { walk = w; ring = with_seconds g seconds })) (sym (outage_is g seconds))
    (walking (with_seconds g seconds)
    (record { few = h.few; inside = h.inside; usable = all_append Usable g.outages (seconds ∷ []) h.usable (record { finite = e.finite; not_below = e.not_below }, tt) }))

-- One clause for each call that is accepted.
taken_keeps : {r : Trace} → Kept r → {c : Call} {left : Walk} → Taken r.walk c left → Kept (record { walk = left; ring = ring_with r.ring c })
unfolding ring_with open_edges sum_over longest_after
taken_keeps k (begun j e) = walking (ring_of j []) (record { few = zero-le; inside = tt; usable = tt })
taken_keeps k (extends p e) = point_keeps k p e
taken_keeps k (fixes f e) = point_keeps k (fix_point f) e
taken_keeps k (takes_outage seconds e) = outage_keeps k seconds e
taken_keeps k (ends s e) = not_open refl
taken_keeps k (abandoned e) = not_open refl

-- A refused call leaves the trace as it was.
call_keeps : (c : Call) {r : Trace} → Kept r → Kept (next r c)
unfolding next
call_keeps c {r} k = go (number_of r.walk c) (walk_after r.walk c) (Case.call_case r.walk c)
  where
    go : (n : ℕ) (left : Walk) → Case.CallCase r.walk c n left → Kept (record { walk = left; ring = cond (eqb n 0) (ring_with r.ring c) r.ring })
    go n left (Case.refused m e) = rw (ne_eqb m 0 e.not_0) k
    go n left (Case.accepted t) = taken_keeps k t

kept-after : (calls : List Call) {r : Trace} → Kept r → Kept (after r calls)
unfolding after
kept-after [] k = k
kept-after (c ∷ calls) k = kept-after calls (call_keeps c k)

-- ---- what the claims need

kept-possible : {r : Trace} → Kept r → impossible_walk r.walk ≡ false
kept-possible {r} (not_open h) = possible-closed r.walk h
kept-possible (walking g h) = possible-walk g h

kept-walk : {r : Trace} → Kept r → r.walk.is_open ≡ true → r.walk ≡ walk_of r.ring
kept-walk (not_open h) e = absurd (true≢false (sym e ∙ h))
kept-walk (walking g h) e = refl

kept-outline : {r : Trace} → Kept r → Closable r.walk → Outline r.ring.points × (closed_totals r.walk ≡ outline_totals r.ring.points)
kept-outline (not_open h) c = absurd (true≢false (sym c.is_open ∙ h))
kept-outline (walking g h) c = (record { enough = c.enough; few = h.few; inside = h.inside }, closed_is g c.enough)

-- An accepted end answers the turned totals.
kept_added : {r : Trace} → Kept r → Closable r.walk → added_totals r.walk ≡ ring_totals r.ring
kept_added {r} k c = ap (λ w. turned w.kind (closed_totals r.walk)) (kept-walk k c.is_open) ∙ ap (turned r.ring.kind) (kept-outline k c).1

-- ---- the theorem

pub walked-outline : WalkedOutline
walked-outline k =
    let r = reached k in
    let kept = kept-after k.calls (not_open k.is_closed) in
    record {
      possible = kept-possible kept;
      never_28 = not_28 r.walk (kept-possible kept);
      is_walk = kept-walk kept;
      edge_sums = λ c. (kept-outline kept c).1;
      list_call_agrees = λ c. let o = kept-outline kept c in accepts-points r.ring.points o.0 ∙ ap accepted (sym o.1);
      closable = λ s z. (Case.end-accepted r.walk s z).0.closable;
      answered = λ s z. let (h, e) = Case.end-accepted r.walk s z in ap (λ e. e.totals) e ∙ kept_added kept h.closable;
      zero_area_lem = λ c s m z. ap (λ e. e.number) (end_32 r.walk s (kept-possible kept) m c (zero_zero_area (closed_totals r.walk) (ap (λ t. t.a2) (kept-outline kept c).1 ∙ z)));
      only_zero_area = λ s z. let (c, h) = only_32 r.walk s z in sym (ap (λ t. t.a2) (kept-outline kept c).1) ∙ zero_area_zero (closed_totals r.walk) h;
    }

-- The totals with the closing edge are within the outline bounds,
pub walked_within : (k : Walking) → Closable (reached k).walk → exceed outline_bounds (closed_totals (reached k).walk) ≡ false
walked_within k c = accepted_within (numbers (reached k).ring.points) (closed_totals (reached k).walk) ((walked-outline k).list_call_agrees c)

-- and demand 3 holds of them and of the points, whole.
pub walked_pieces : WalkedPieces
walked_pieces k c cuts start direction m allowed bounds =
    let r = reached k in
    let q = points-numbers r.ring.points in
    subst (λ ps. AddUpMoved m direction (closed_totals r.walk) (map (moved m) (placed direction start (pieces_of ps cuts)))) q
    (pieces_add_up (numbers r.ring.points) (closed_totals r.walk) ((walked-outline k).list_call_agrees c) cuts start direction m allowed (ap (λ ps. any_outside (moved m ps)) q ∙ bounds))
