-- The walk that has taken the points and the outages of a ring: one more of either, its closing edge, and why 28 takes it.
use mathlib.Core.Path.{◌≡◌, refl, sym, ap}
use mathlib.Core.Bool.{false, not, ◌&&◌, ◌||◌}
use mathlib.Core.List.{List, [], ◌∷◌, ◌++◌}
use Prim.Native.Nat.{suc, ◌+◌, ◌≤◌}
use native.Mathlib.Omega.{arith}
use lib.Dec.{eqb, eqb-suc-zero}
use lib.ListN.{length, length-append}
use lib.Seq.{get_or_at}
use lib.Ieee.{Float}
use borrow.Author.Tests.{le-ltb}
use Rattle.outline.specs.declared.Position.{Position}
use Rattle.outline.specs.declared.Kind.{Kind}
use Rattle.outline.specs.declared.Walk.{Walk}
use Rattle.outline.specs.EdgeSums.{plus, open_edges, edges, sum_over, totals_over, outline_totals}
use Rattle.outline.specs.ListCall.{outside}
use Rattle.outline.specs.WalkCalls.{origin, open_walk, edge_totals, extended, closed_totals, share, impossible_walk}
use Rattle.outline.specs.EntryCalls.{with_outage}
use Rattle.outline.specs.CallLists.{Ring, with_point, with_seconds, longest_after, first_of, last_of, walk_of}
use Rattle.integers.proofs.Flags.{neither}
use Rattle.receiver.specs.Floats.{plus_zero}
use Rattle.outline.proofs.Every.{All, all_at}
use Rattle.outline.proofs.IndexLaws.{totals_snoc}
use Rattle.outline.proofs.Limits.{Inside, not_beyond, fit_exceed, open_fit}
use Rattle.outline.proofs.Outages.{longest_snoc, Usable, zero_usable, longest_usable}

-- ---- one point more, one outage more, and the closing edge

-- The open walk of these points, with the longest outage o.
abbrev open_by : Kind → List Position → Float → Walk
open_by k ps o = open_walk k (length ps) (first_of ps) (last_of ps) (totals_over (open_edges ps)) o

extended_by : (k : Kind) (ps : List Position) (o : Float) (p : Position) → extended (open_by k ps o) p ≡ open_by k (ps ++ p ∷ []) o
unfolding extended open_edges sum_over
extended_by k [] o p = refl
extended_by k (a ∷ ps) o p = rw (eqb-suc-zero (length ps)) (λ i. open_walk k (n i) a (l i) (s i) o)
  where
    n : suc (length ps) + 1 ≡ suc (length (ps ++ p ∷ []))
    n = omega (arith, length-append ps (p ∷ []))

    l : p ≡ last_of (a ∷ ps ++ p ∷ [])
    l = sym (get_or_at (a ∷ ps) p [] origin (length (ps ++ p ∷ [])) (omega (arith, length-append ps (p ∷ []))))

    s : plus (totals_over (open_edges (a ∷ ps))) (edge_totals (last_of (a ∷ ps)) p) ≡ totals_over (open_edges (a ∷ ps ++ p ∷ []))
    s = sym (totals_snoc a ps p origin)

pub extended_is : (g : Ring) (p : Position) → extended (walk_of g) p ≡ walk_of (with_point g p)
extended_is g p = extended_by g.kind g.points (longest_after plus_zero g.outages) p

pub outage_is : (g : Ring) (seconds : Float) → with_outage (walk_of g) seconds ≡ walk_of (with_seconds g seconds)
outage_is g seconds = ap (open_by g.kind g.points) (sym (longest_snoc plus_zero g.outages seconds))

closed_by : (k : Kind) (ps : List Position) (o : Float) → 3 ≤ length ps → closed_totals (open_by k ps o) ≡ outline_totals ps
unfolding edges
closed_by k [] o h = absurd (omega arith)
closed_by k (a ∷ ps) o h = sym (totals_snoc a ps a origin)

pub closed_is : (g : Ring) → 3 ≤ length g.points → closed_totals (walk_of g) ≡ outline_totals g.points
closed_is g h = closed_by g.kind g.points (longest_after plus_zero g.outages) h

-- ---- 28 takes it, and any closed walk

ends_inside : (ps : List Position) → All Inside ps → (not (eqb (length ps) 0) && (outside (first_of ps) || outside (last_of ps))) ≡ false
ends_inside [] h = refl
ends_inside (a ∷ ps) h = rw (eqb-suc-zero (length ps)) (neither (not_beyond a h.0) (not_beyond (last_of (a ∷ ps)) (all_at Inside (a ∷ ps) (length ps) origin h (omega arith))))

-- What calls keep of a ring.
pub record Sound (g : Ring) : Type 0 where
  pub few : length g.points ≤ 1024
  pub inside : All Inside g.points
  pub usable : All Usable g.outages

pub possible-walk : (g : Ring) → Sound g → impossible_walk (walk_of g) ≡ false
unfolding impossible_walk
possible-walk g h =
    let ps = g.points in
    let longest = longest_usable plus_zero g.outages zero_usable h.usable in
    neither
    (neither
    (neither (neither (le-ltb 1024 (length ps) h.few) (ends_inside ps h.inside)) (fit_exceed (share (length ps)) (totals_over (open_edges ps)) (open_fit ps h.inside)))
    longest.finite)
    longest.not_below

pub possible-closed : (w : Walk) → w.is_open ≡ false → impossible_walk w ≡ false
unfolding impossible_walk
possible-closed w h = rw h
