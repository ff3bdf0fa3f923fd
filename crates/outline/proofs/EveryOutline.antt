-- The walked theorem is not empty: every outline that the list call accepts can be walked, from any walk marked closed, as a ring of either kind, by whatever calls give its points.
-- If it has an area, its end is accepted by every sheet that has room for it; if it has none, it is refused with 32.
use mathlib.Core.Path.{◌≡◌, refl, sym, ◌∙◌, ap, subst}
use mathlib.Core.Bool.{Bool, true, false, not, ◌||◌, cond, true≢false}
use mathlib.Core.List.{List, [], ◌∷◌, ◌++◌, map, append_assoc, append-nil}
use mathlib.Core.Logic.{◌≢◌}
use Prim.Native.Nat.{◌≤◌, zero-le}
use native.Mathlib.Omega.{arith}
use lib.Dec.{eqb}
use lib.ListN.{length, length-append}
use lib.IntN.{ℤ, pos}
use lib.Ieee.{Float}
use borrow.Author.Tests.{le-ltb, lt-leb}
use Rattle.integers.proofs.Flags.{or_left, or_right}
use Rattle.receiver.specs.declared.Entry.TheVariants.{Fix, Outage}
use Rattle.receiver.specs.Floats.{not_finite, below_zero}
use Rattle.outline.specs.declared.Position.{Position}
use Rattle.outline.specs.declared.Totals.{Totals}
use Rattle.outline.specs.declared.Kind.{Kind}
use Rattle.outline.specs.declared.Walk.{Walk}
use Rattle.outline.specs.declared.Sheet.{Sheet}
use Rattle.outline.specs.EdgeSums.{open_edges, sum_over, outline_totals, over, exceed}
use Rattle.outline.specs.ListCall.{accepted, points, list_call}
use Rattle.outline.specs.MapCall.{total_limits}
use Rattle.outline.specs.FixCall.{fix_point, fix_not_finite}
use Rattle.outline.specs.WalkCalls.{new_sheet, closed_totals, turned, impossible_sheet, begin_call, point_call, refused_end, end_call}
use Rattle.outline.specs.EntryCalls.{outage_call, entry_call}
use Rattle.outline.specs.CallLists.{Call, begin, point, entry, end, abandon, number_of, walk_after, Ring, ring_of, with_point, with_seconds, ring_with, longest_after, Trace, next, after, from, walk_of}
use Rattle.outline.specs.EveryOutline.{answers, point_or_entry, ring_from, ring_by, Walkable, Room, ended_with, Ending, EveryOutline}
use Rattle.outline.proofs.Every.{All, all_append, all_front, all_back, all_of, all_member, all_map}
use Rattle.outline.proofs.TotalsLaws.{zeros-plus}
use Rattle.outline.proofs.Limits.{Inside, not_beyond, Outline, accepts_only_outlines, fit_exceed, limits_fit, accepted_fit}
use Rattle.outline.proofs.TurnedTotals.{zero_zero_area, area-zero_area, turned-exceed}
use Rattle.outline.proofs.Refusals.{end_32}
use Rattle.outline.proofs.EntryLaws.{finite-fix}
use Rattle.outline.proofs.Outages.{Usable}
use Rattle.outline.proofs.WalkOf.{extended_is, outage_is, closed_is, Sound, possible-walk, possible-closed}
use Rattle.outline.proofs.WalkedOutline.{trace_of}

-- A new sheet has room for every outline, as a ring of either kind.
pub new_sheet_room : (zs : List ℤ) (t : Totals) → list_call zs ≡ accepted t → (k : Kind) → Room new_sheet (turned k t)
unfolding impossible_sheet exceed over
new_sheet_room zs t e k = record { possible = refl; count = omega arith; totals = ap (exceed total_limits) (zeros-plus (turned k t)) ∙ turned-exceed total_limits k t ∙ fit_exceed total_limits t (limits_fit t (accepted_fit zs t e)) }

-- ---- the end of a ring

module _ (g : Ring) (h : Sound g) (o : Outline g.points) where
  end-answer : (s : Sheet) → (outline_totals g.points).a2 ≢ pos 0 → Room s (turned g.kind (outline_totals g.points)) → end_call (walk_of g) s ≡ ended_with s (turned g.kind (outline_totals g.points)) (walk_of g).outage
  unfolding end_call
  end-answer s =
      subst (λ t. t.a2 ≢ pos 0 → Room s (turned g.kind t) → end_call (walk_of g) s ≡ ended_with s (turned g.kind t) (walk_of g).outage) (closed_is g o.enough) (λ area room.
      rw (possible-walk g h, room.possible, le-ltb (length g.points) 3 o.enough, area-zero_area (closed_totals (walk_of g)) area, lt-leb 64 s.count room.count, room.totals))

  end_refused : (s : Sheet) → (outline_totals g.points).a2 ≡ pos 0 → impossible_sheet s ≡ false → end_call (walk_of g) s ≡ refused_end 32 (walk_of g) s
  end_refused s z m = end_32 (walk_of g) s (possible-walk g h) m (record { is_open = refl; enough = o.enough }) (zero_zero_area _ (ap (λ t. t.a2) (closed_is g o.enough) ∙ z))

  ending : Ending g (outline_totals g.points)
  ending = record { accepted = λ area s room. end-answer s area room; refused = λ z s m. end_refused s z m }

-- ---- one call on the walk of a ring

-- What is shown of a call on the walk of a ring: it is accepted, and leaves the walk of the ring with it.
record Accepted (g : Ring) (c : Call) : Type 0 where
  number : number_of (walk_of g) c ≡ 0
  walk : walk_after (walk_of g) c ≡ walk_of (ring_with g c)
  sound : Sound (ring_with g c)

-- The points of a ring, as the end asks for them.
record Points (ps : List Position) : Type 0 where
  few : length ps ≤ 1024
  inside : All Inside ps

point-answer : (g : Ring) → Sound g → (p : Position) → Points (g.points ++ p ∷ []) → point_call (walk_of g) p ≡ record { number = 0; walk = walk_of (with_point g p) }
unfolding point_call
point-answer g h p i =
    rw (possible-walk g h, not_beyond p (all_back Inside g.points (p ∷ []) i.inside).0, lt-leb 1024 (length g.points) (omega (arith, i.few, length-append g.points (p ∷ []))), extended_is g p)

with_point_lem : (g : Ring) → Sound g → (p : Position) → Points (g.points ++ p ∷ []) → Sound (with_point g p)
with_point_lem g h p i = record { few = i.few; inside = i.inside; usable = h.usable }

outage-answer : (g : Ring) → Sound g → (seconds : Float) → Usable seconds → outage_call (walk_of g) seconds ≡ record { number = 0; walk = walk_of (with_seconds g seconds) }
unfolding outage_call
outage-answer g h seconds u = rw (possible-walk g h, u.finite, u.not_below) (ap (λ w. record { number = 0; walk = w }) (outage_is g seconds))

unset : (b : Bool) → not b ≡ true → b ≡ false
unset true e = absurd (true≢false (sym e))
unset false e = refl

call_accepted : (g : Ring) (c : Call) → Sound g → point_or_entry c ≡ true → Points (ring_with g c).points → Accepted g c
unfolding point_or_entry ring_with number_of walk_after entry_call
call_accepted g (begin k) h e i = absurd (true≢false (sym e))
call_accepted g (point p) h e i = let a = point-answer g h p i in record { number = ap (λ r. r.number) a; walk = ap (λ r. r.walk) a; sound = with_point_lem g h p i }
call_accepted g (entry (Fix f)) h e i =
    let a = finite-fix (walk_of g) f (unset (fix_not_finite f) e) ∙ point-answer g h (fix_point f) i in
    record { number = ap (λ r. r.number) a; walk = ap (λ r. r.walk) a; sound = with_point_lem g h (fix_point f) i }
call_accepted g (entry (Outage seconds)) h e i =
    let usable = unset (not_finite seconds || below_zero seconds) e in
    let taken : Usable seconds = record { finite = or_left (not_finite seconds) (below_zero seconds) usable; not_below = or_right (not_finite seconds) (below_zero seconds) usable } in
    let a = outage-answer g h seconds taken in
    record {
      number = ap (λ r. r.number) a;
      walk = ap (λ r. r.walk) a;
      sound = record { few = h.few; inside = h.inside; usable = all_append Usable g.outages (seconds ∷ []) h.usable (taken, tt) };
    }
call_accepted g (end s) h e i = absurd (true≢false (sym e))
call_accepted g abandon h e i = absurd (true≢false (sym e))

-- ---- calls in turn

abbrev PointOrEntry : Call → Type 0
PointOrEntry c = point_or_entry c ≡ true

-- Such a call only adds points behind those that there are,
one_grows : (g : Ring) (c : Call) → PointOrEntry c → (rest : List Position) × ((ring_with g c).points ≡ g.points ++ rest)
unfolding point_or_entry ring_with
one_grows g (begin k) e = absurd (true≢false (sym e))
one_grows g (point p) e = (p ∷ [], refl)
one_grows g (entry (Fix f)) e = (fix_point f ∷ [], refl)
one_grows g (entry (Outage seconds)) e = ([], sym (append-nil g.points))
one_grows g (end s) e = absurd (true≢false (sym e))
one_grows g abandon e = absurd (true≢false (sym e))

-- and so do such calls in turn.
all_grow : (calls : List Call) (g : Ring) → All PointOrEntry calls → (rest : List Position) × ((ring_from g calls).points ≡ g.points ++ rest)
unfolding ring_from
all_grow [] g e = ([], sym (append-nil g.points))
all_grow (c ∷ calls) g e =
    let (one, a) = one_grows g c e.0 in
    let (more, b) = all_grow calls (ring_with g c) e.1 in
    (one ++ more, b ∙ ap (λ ps. ps ++ more) a ∙ append_assoc g.points one more)

front : (ps rest qs : List Position) → qs ≡ ps ++ rest → Points qs → Points ps
front ps rest qs e i =
    let j = subst Points e i in
    record { few = omega (arith, j.few, length-append ps rest); inside = all_front Inside ps rest j.inside }

record AllAccepted (g : Ring) (calls : List Call) : Type 0 where
  numbers : All (λ n. n ≡ 0) (answers (walk_of g) calls)
  trace : after (trace_of g) calls ≡ trace_of (ring_from g calls)
  sound : Sound (ring_from g calls)

all_accepted : (calls : List Call) (g : Ring) → Sound g → All PointOrEntry calls → Points (ring_from g calls).points → AllAccepted g calls
unfolding ring_from after next
all_accepted [] g h e i = record { numbers = tt; trace = refl; sound = h }
all_accepted (c ∷ calls) g h e i =
    let (rest, grows) = all_grow calls (ring_with g c) e.1 in
    let a = call_accepted g c h e.0 (front (ring_with g c).points rest (ring_from (ring_with g c) calls).points grows i) in
    let more = all_accepted calls (ring_with g c) a.sound e.1 i in
    record {
      numbers = (a.number, subst (λ w. All (λ n. n ≡ 0) (answers w calls)) (sym a.walk) more.numbers);
      trace = (λ j. after (record { walk = a.walk j; ring = cond (eqb (a.number j) 0) (ring_with g c) g }) calls) ∙ more.trace;
      sound = more.sound;
    }

-- ---- the theorem

begin-answer : (k : Kind) (w : Walk) → w.is_open ≡ false → begin_call w k ≡ record { number = 0; walk = walk_of (ring_of k []) }
unfolding begin_call open_edges sum_over longest_after
begin-answer k w h = rw (possible-closed w h, h)

pub every_outline : EveryOutline
unfolding number_of walk_after after next ring_with
every_outline zs t e k calls goes same w h =
    let (list, totals) = accepts_only_outlines zs t e in
    let o : Outline (ring_by k calls).points = subst Outline (sym same) list.outline in
    let b = begin-answer k w h in
    let a = all_accepted calls (ring_of k []) (record { few = zero-le; inside = tt; usable = tt }) (all_of PointOrEntry calls goes) (record { few = o.few; inside = o.inside }) in
    let r = ap (λ a. after (record { walk = a.walk; ring = cond (eqb a.number 0) (ring_of k []) (from w).ring }) calls) b ∙ a.trace in (
      record {
        none-refused = all_member (λ n. n ≡ 0) _ (ap (λ a. a.number) b, subst (λ a. All (λ n. n ≡ 0) (answers a.walk calls)) (sym b) a.numbers);
        ring = ap (λ (r : Trace). r.ring) r;
        walk = ap (λ (r : Trace). r.walk) r;
      },
      subst (Ending (ring_by k calls)) (ap outline_totals same ∙ sym totals) (ending (ring_by k calls) a.sound o),
    )

-- ---- a call for each point

-- The call f p gives the point p, and nothing else.
pub record Gives (f : Position → Call) (p : Position) : Type 0 where
  pub point_or_entry_lem : point_or_entry (f p) ≡ true
  pub ring : (g : Ring) → ring_with g (f p) ≡ with_point g p

from-calls : (f : Position → Call) (ps : List Position) → All (Gives f) ps → (g : Ring) → ring_from g (map f ps) ≡ record { kind = g.kind; points = g.points ++ ps; outages = g.outages }
unfolding ring_from
from-calls f [] h g = λ i. record { kind = g.kind; points = sym (append-nil g.points) i; outages = g.outages }
from-calls f (p ∷ ps) h g =
    ap (λ g. ring_from g (map f ps)) (h.0.ring g)
    ∙ from-calls f ps h.1 (with_point g p)
    ∙ (λ i. record { kind = g.kind; points = append_assoc g.points (p ∷ []) ps i; outages = g.outages })

pub by_calls : (f : Position → Call) (zs : List ℤ) (t : Totals) → list_call zs ≡ accepted t → All (Gives f) (points zs) → (k : Kind) (w : Walk) → w.is_open ≡ false → (let g = ring_of k (points zs) in Walkable w k (map f (points zs)) g × Ending g t)
by_calls f zs t e gives k w h =
    let calls = map f (points zs) in
    let ring = from-calls f (points zs) gives (ring_of k []) in
    let goes = all_member PointOrEntry calls (all_map (Gives f) PointOrEntry f (λ p g. g.point_or_entry_lem) (points zs) gives) in
    subst (λ g. Walkable w k calls g × Ending g t) ring (every_outline zs t e k calls goes (ap (λ g. g.points) ring) w h)

-- Points alone.
point_gives : (p : Position) → Gives point p
unfolding point_or_entry ring_with
point_gives p = record { point_or_entry_lem = refl; ring = λ g. refl }

pub by_points : (zs : List ℤ) (t : Totals) → list_call zs ≡ accepted t → (k : Kind) (w : Walk) → w.is_open ≡ false → (let g = ring_of k (points zs) in Walkable w k (map point (points zs)) g × Ending g t)
by_points zs t e k w h = by_calls point zs t e (all_of (Gives point) (points zs) (λ p m. point_gives p)) k w h
