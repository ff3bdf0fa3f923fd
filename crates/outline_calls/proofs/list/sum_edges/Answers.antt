use mathlib.Core.Path.{◌≡◌, refl}
use Prim.Native.Nat.{◌-◌}
use native.Mathlib.Omega.{arith}
use lib.ListN.{length, get_or}
use Rattle.outline.specs.EdgeSums.{six, plus}
use Rattle.outline.specs.ListCall.{points as points_of}
use Rattle.outline.specs.WalkCalls.{origin}
use Rattle.outline.proofs.IndexLaws.{length-points}
use Rattle.outline.proofs.Limits.{point_inside}
use Rattle.outline.proofs.EdgeSteps.{summed_first, summed_next, summed_closed}
use Rattle.outline_calls.proofs.ListSteps.{outline-list, sum_within}
use Rattle.outline_calls.proofs.list.sum_edges.Goals as goal

pub loop-k-init : goal.loop-k-init
loop-k-init c =
    let zs = c.args.points.now in
    let enough = (outline-list zs c.requires.points_value c.requires.points_value_2).outline.enough in
    summed_first six plus (λ f g. refl) (points_of zs) (omega arith)

pub overflow_sub-k : goal.overflow_sub-k
overflow_sub-k c = let some = c.loop-k.invariant.some in omega arith

pub add_edge-sum-requires : goal.add_edge-sum-requires
add_edge-sum-requires c =
    let zs = c.args.points.now in
    let at = c.loop-k in
    let few = length-points zs in
    record {
      sum_value = sum_within zs at.k (outline-list zs c.requires.points_value c.requires.points_value_2) at.invariant.most at.invariant.is;
      a_value = point_inside 2000 (points_of zs) (at.k - 1) c.requires.points_value_2 (omega arith) c.position_at.ensures;
      b_value = point_inside 2000 (points_of zs) at.k c.requires.points_value_2 (omega arith) c.position_at-in-loop-k.ensures;
    }

pub loop-k-preserved : goal.loop-k-preserved
loop-k-preserved c =
    let zs = c.args.points.now in
    let at = c.loop-k in
    let few = length-points zs in
    summed_next six plus (λ f g. refl) (points_of zs) at.k at.invariant (omega arith) c.position_at.ensures c.position_at-in-loop-k.ensures c.add_edge-sum.ensures

pub overflow_sub-n : goal.overflow_sub-n
overflow_sub-n c =
    let zs = c.args.points.now in
    let enough = (outline-list zs c.requires.points_value c.requires.points_value_2).outline.enough in
    omega (arith, length-points zs)

pub add_edge-requires : goal.add_edge-requires
add_edge-requires c =
    let zs = c.args.points.now in
    let at = c.loop-k in
    let accepted = outline-list zs c.requires.points_value c.requires.points_value_2 in
    let enough = accepted.outline.enough in
    -- All points are walked, so the point that is read again is the last of them.
    let whole : at.k ≡ length (points_of zs) = omega (arith, at.invariant.most, length-points zs) in
    let last_is : c.position_at-2.result ≡ get_or (points_of zs) (at.k - 1) origin = rw (whole, length-points zs) c.position_at-2.ensures in
    record {
      sum_value = sum_within zs at.k accepted at.invariant.most at.invariant.is;
      a_value = point_inside 2000 (points_of zs) (at.k - 1) c.requires.points_value_2 (omega (arith, at.invariant.most, at.invariant.some)) last_is;
      b_value = point_inside 2000 (points_of zs) 0 c.requires.points_value_2 (omega arith) c.position_at-3.ensures;
    }

pub returns : goal.returns
returns c =
    let zs = c.args.points.now in
    let at = c.loop-k in
    let whole : at.k ≡ length (points_of zs) = omega (arith, at.invariant.most, length-points zs) in
    let last_is : c.position_at-2.result ≡ get_or (points_of zs) (at.k - 1) origin = rw (whole, length-points zs) c.position_at-2.ensures in
    summed_closed six plus (λ f g. refl) (points_of zs) at.k at.invariant whole last_is c.position_at-3.ensures c.add_edge.ensures
