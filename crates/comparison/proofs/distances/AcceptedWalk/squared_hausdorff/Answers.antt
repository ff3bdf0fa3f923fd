use mathlib.Core.Path.{◌≡◌, refl, sym, ap, subst, ◌∙◌}
use Prim.Native.Nat.{◌≤◌, ◌^◌}
use native.Mathlib.Omega.{arith}
use borrow.Author.Rules.{rules}
use lib.Dec.{T}
use lib.IntN.{nat_abs}
use lib.ListN.{length}
use lib.Seq.{take-length}
use lib.Signed.{non_neg}
use mir.Facts.{sfits_to_z}
use mir.Syntax.{w32}
use mir.Val.{hbits, to_z, of_z}
use Rattle.integers.proofs.SignedCode.{sfits_nat_abs}
use Rattle.outline.specs.ListCall.{points as points_of}
use Rattle.outline.proofs.IndexLaws.{length-points}
use Rattle.outline.proofs.Limits.{point_inside}
use Rattle.two_walks.specs.Distances.{greatest_of, to_nearest, squared_hausdorff}
use Rattle.comparison.proofs.DistanceSteps.{farthest-next}
use Rattle.comparison.proofs.distances.AcceptedWalk.squared_hausdorff.Goals as goal

pub loop-k-init : goal.loop-k-init
unfolding greatest_of
loop-k-init c = record { is = refl; most = omega arith }

pub to_nearest-requires : goal.to_nearest-requires
to_nearest-requires c =
    let ps = points_of c.args.self.points.now in
    point_inside 2000 ps c.loop-k.k c.args.self.inside (omega (arith, length-points c.args.self.points.now)) c.position_at.ensures

pub loop-k-preserved : goal.loop-k-preserved
loop-k-preserved c =
    let ps = points_of c.args.self.points.now in
    let qs = points_of c.args.other.points.now in
    let at = c.loop-k in
    let few = length-points c.args.self.points.now in
    let passed : to_z w32 (of_z w32 c.to_nearest.result) ≡ c.to_nearest.result = search rules in
    let back : to_z w32 (of_z w32 c.max-greatest.result) ≡ c.max-greatest.result = search rules in
    record {
      is = back ∙ farthest-next (to_nearest qs) ps at.k (omega arith) c.position_at.ensures at.invariant.is (passed ∙ c.to_nearest.ensures) c.max-greatest.ensures.value;
      most = omega arith;
    }

pub overflow_cast-result : goal.overflow_cast-result
overflow_cast-result c =
    let at = c.loop-k in
    let size : nat_abs (to_z w32 at.greatest-bits) ≤ 2 ^ hbits w32 = sfits_nat_abs (sfits_to_z at.auto.greatest-fits) in
    (subst (λ z. T (non_neg z)) (sym at.invariant.is) tt, record { fits = omega arith })

pub returns : goal.returns
unfolding squared_hausdorff
returns c =
    let ps = points_of c.args.self.points.now in
    let at = c.loop-k in
    let whole : at.k ≡ length ps = omega (arith, at.invariant.most, length-points c.args.self.points.now) in
    ap nat_abs at.invariant.is ∙ rw (whole, take-length ps)
