use mathlib.Core.Path.{◌≡◌, ◌∙◌}
use native.Mathlib.Omega.{arith}
use borrow.Author.Rules.{rules}
use lib.ListN.{length}
use lib.Seq.{take-length}
use mir.Syntax.{w32}
use mir.Val.{to_z, of_z}
use Rattle.outline.specs.ListCall.{points as points_of}
use Rattle.outline.proofs.IndexLaws.{length-points}
use Rattle.outline.proofs.Limits.{point_inside}
use Rattle.two_walks.specs.Distances.{to_nearest}
use Rattle.comparison.proofs.DistanceSteps.{nearest-first, nearest-next}
use Rattle.comparison.proofs.distances.AcceptedWalk.to_nearest.Goals as goal

pub squared_distance-least-requires : goal.squared_distance-least-requires
squared_distance-least-requires c = record { p_value = c.requires; q_value = point_inside 2000 (points_of c.args.self.points.now) 0 c.args.self.inside c.args.self.some c.position_at.ensures }

pub loop-k-init : goal.loop-k-init
loop-k-init c =
    let ps = points_of c.args.self.points.now in
    let first = nearest-first ps c.args.p c.args.self.some c.position_at.ensures c.squared_distance-least.ensures in
    let back : to_z w32 (of_z w32 c.squared_distance-least.result) ≡ c.squared_distance-least.result = search rules in
    record { is = back ∙ first; some = omega arith; most = c.args.self.some }

pub squared_distance-requires : goal.squared_distance-requires
squared_distance-requires c =
    let ps = points_of c.args.self.points.now in
    record { p_value = c.requires; q_value = point_inside 2000 ps c.loop-k.k c.args.self.inside (omega (arith, length-points c.args.self.points.now)) c.position_at-in-loop-k.ensures }

pub loop-k-preserved : goal.loop-k-preserved
loop-k-preserved c =
    let ps = points_of c.args.self.points.now in
    let at = c.loop-k in
    let few = length-points c.args.self.points.now in
    let passed : to_z w32 (of_z w32 c.squared_distance.result) ≡ c.squared_distance.result = search rules in
    let back : to_z w32 (of_z w32 c.min-least.result) ≡ c.min-least.result = search rules in
    record {
      is = back ∙ nearest-next ps c.args.p at.k at.invariant.some (omega arith) c.position_at-in-loop-k.ensures at.invariant.is (passed ∙ c.squared_distance.ensures) c.min-least.ensures.value;
      some = omega arith;
      most = omega arith;
    }

pub returns : goal.returns
unfolding to_nearest
returns c =
    let ps = points_of c.args.self.points.now in
    let whole : c.loop-k.k ≡ length ps = omega (arith, c.loop-k.invariant.most, length-points c.args.self.points.now) in
    c.loop-k.invariant.is ∙ rw (whole, take-length ps)
