-- `longer_list::longer_walk` meets its contract: where neither list is refused, the numbers of points decide.
use mathlib.Core.Path.{◌≡◌}
use mathlib.Core.Bool.{true}
use native.Mathlib.Omega.{arith}
use borrow.Author.Tests.{lt-ltb, le-ltb, not-false}
use lib.Dec.{eqb}
use lib.ListN.{length}
use Rattle.integers.proofs.Flags.{tells}
use Rattle.outline.specs.ListCall.{points}
use Rattle.outline.proofs.IndexLaws.{length-points}
use Rattle.two_walks.specs.Comparison.{comparison_number, part_of, handed_back}
use Rattle.longer_list.proofs.longer_walk.Goals as goal

pub returns-then-first-second : goal.returns-then-first-second
unfolding part_of handed_back
returns-then-first-second c =
    let zs = c.args.first.now in
    let ws = c.args.second.now in
    let good : eqb (comparison_number zs ws) 0 ≡ true = not-false _ (tells c.either_refused.ensures c.if-either_refused.false) in
    rw (good, lt-ltb (length (points zs)) (length (points ws)) (omega (arith, length-points zs, length-points ws)))

pub returns-else-first-second : goal.returns-else-first-second
unfolding part_of handed_back
returns-else-first-second c =
    let zs = c.args.first.now in
    let ws = c.args.second.now in
    let good : eqb (comparison_number zs ws) 0 ≡ true = not-false _ (tells c.either_refused.ensures c.if-either_refused.false) in
    rw (good, le-ltb (length (points zs)) (length (points ws)) (omega (arith, length-points zs, length-points ws)))
