use mathlib.Core.Path.{◌≡◌, refl}
use mathlib.Core.List.{List}
use Prim.Native.Nat.{ℕ, ◌-◌, ◌/◌}
use native.Mathlib.Omega.{arith}
use lib.IntN.{ℤ}
use lib.ListN.{length, get_or}
use Rattle.outline.specs.declared.Position.{Position}
use Rattle.outline.specs.ListCall.{points as points_of}
use Rattle.outline.specs.WalkCalls.{origin}
use Rattle.outline.proofs.EdgeSteps.{Summed, summed_first, summed_next, summed_closed}
use Rattle.outline.proofs.IndexLaws.{length-points}
use Rattle.outline.proofs.Limits.{point_inside}
use Rattle.third_order.specs.declared.ThirdTotals.{ThirdTotals}
use Rattle.third_order.specs.ThirdTerms.{four, plus_thirds}
use Rattle.third_order.specs.ThirdLaws.{SmallThirds}
use Rattle.third_order.proofs.Accepted.{SmallOutline, small_list}
use Rattle.third_order.proofs.ThirdSizes.{small_open}
use Rattle.third_moments.proofs.sums.sum_edges.Goals as goal

-- The sums so far are small enough for one edge more.
sum_small : (ps : List Position) {sum : ThirdTotals} {k : ℕ} → SmallOutline ps → Summed four plus_thirds (λ f g. refl) ps sum k → SmallThirds sum
sum_small ps {k = k} o s = rw s.is (small_open ps k o s.most)

pub loop-k-init : goal.loop-k-init
loop-k-init c =
    let zs = c.args.points.now in
    let o : SmallOutline (points_of zs) = small_list zs c.requires.length_value c.requires.limit_value in
    summed_first four plus_thirds (λ f g. refl) (points_of zs) (omega (arith, o.enough))

pub add_edge-sum-requires : goal.add_edge-sum-requires
add_edge-sum-requires c =
    let zs = c.args.points.now in
    let ps = points_of zs in
    let at = c.loop-k in
    let few = length-points zs in
    record {
      small_thirds = sum_small ps (small_list zs c.requires.length_value c.requires.limit_value) at.invariant;
      a_value = point_inside 500 ps (at.k - 1) c.requires.limit_value (omega arith) c.position_at.ensures;
      b_value = point_inside 500 ps at.k c.requires.limit_value (omega arith) c.position_at-in-loop-k.ensures;
    }

pub loop-k-preserved : goal.loop-k-preserved
loop-k-preserved c =
    let zs = c.args.points.now in
    let at = c.loop-k in
    let few = length-points zs in
    summed_next four plus_thirds (λ f g. refl) (points_of zs) at.k at.invariant (omega arith) c.position_at.ensures c.position_at-in-loop-k.ensures c.add_edge-sum.ensures

pub overflow_sub-n : goal.overflow_sub-n
overflow_sub-n c =
    let zs = c.args.points.now in
    let o : SmallOutline (points_of zs) = small_list zs c.requires.length_value c.requires.limit_value in
    omega (arith, o.enough, length-points zs)

-- All points are walked, so the point that is read again is the last of them.
last_is : (zs : List ℤ) (k : ℕ) {r : Position} → k ≡ length (points_of zs) → r ≡ get_or (points_of zs) (length zs / 2 - 1) origin → r ≡ get_or (points_of zs) (k - 1) origin
last_is zs k e h = rw (e, length-points zs) h

pub add_edge-requires : goal.add_edge-requires
add_edge-requires c =
    let zs = c.args.points.now in
    let ps = points_of zs in
    let at = c.loop-k in
    let o : SmallOutline ps = small_list zs c.requires.length_value c.requires.limit_value in
    let whole : at.k ≡ length ps = omega (arith, at.invariant.most, length-points zs) in
    record {
      small_thirds = sum_small ps o at.invariant;
      a_value = point_inside 500 ps (at.k - 1) c.requires.limit_value (omega (arith, at.invariant.most, at.invariant.some)) (last_is zs at.k whole c.position_at-2.ensures);
      b_value = point_inside 500 ps 0 c.requires.limit_value (omega (arith, o.enough)) c.position_at-3.ensures;
    }

pub returns : goal.returns
returns c =
    let zs = c.args.points.now in
    let ps = points_of zs in
    let at = c.loop-k in
    let whole : at.k ≡ length ps = omega (arith, at.invariant.most, length-points zs) in
    summed_closed four plus_thirds (λ f g. refl) ps at.k at.invariant whole (last_is zs at.k whole c.position_at-2.ensures) c.position_at-3.ensures c.add_edge.ensures
