-- `map_outside_limits` is refusal 3: each of its six tests is one of the definition's, of a number widened to an i64.
use borrow.Author.Rules.{rules}
use Rattle.outline.specs.EdgeSums.{over}
use Rattle.outline.specs.MapCall.{disallowed}
use Rattle.integers.proofs.Flags.{any_of_six, of_field}
use Rattle.integers.proofs.Widening.{widened}
use Rattle.affine.proofs.Fields.{MapFit}
use Rattle.affine.proofs.map_outside_limits.Goals as goal

pub returns : goal.returns
unfolding disallowed
returns c =
    let k : MapFit c.args.m = search rules in
    any_of_six (of_field (over _) _ c.size_exceeds.ensures (widened k.a)) (of_field (over _) _ c.size_exceeds-2.ensures (widened k.b)) (of_field (over _) _ c.size_exceeds-3.ensures (widened k.g)) (of_field (over _) _ c.size_exceeds-4.ensures (widened k.h)) (of_field (over _) _ c.size_exceeds-5.ensures (widened k.e)) (of_field (over _) _ c.size_exceeds-6.ensures (widened k.f))
