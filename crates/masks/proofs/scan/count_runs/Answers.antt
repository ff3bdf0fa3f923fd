-- `masks::scan::count_runs` meets its contract: each turn takes one run from those that are left.
use mathlib.Core.Path.{ap, ◌∙◌}
use native.Mathlib.Omega.{arith}
use lib.ListN.{length}
use Rattle.masks.specs.private.Scan.{counted_runs}
use Rattle.masks.proofs.RunsLeft.{none_left, one_taken, first_position, all_left}
use Rattle.masks.proofs.scan.count_runs.Goals as goal

pub loop-count-init : goal.loop-count-init
loop-count-init c =
    let ws = c.args.mask.words.now in
    record { between = first_position ws; all = ap length (all_left ws c.args.mask.whole_rows) ∙ omega arith }

pub returns-in-None : goal.returns-in-None
unfolding counted_runs
returns-in-None c =
    let l = c.loop-count in
    let none = ap length (none_left c.args.mask.words.now l.at l.invariant.between c.in-None.ensures) in
    omega (arith, l.invariant.all, none, c.loop-count-test.true)

pub loop-count-preserved : goal.loop-count-preserved
loop-count-preserved c =
    let l = c.loop-count in
    let (taken, between) = one_taken c.args.mask.words.now l.at c.in-Some.found l.invariant.between c.in-Some.ensures in
    let one = ap length taken in
    record { between = between; all = omega (arith, l.invariant.all, one) }

pub returns : goal.returns
unfolding counted_runs
returns c = let l = c.loop-count in omega (arith, l.invariant.all, c.loop-count-test.false, l.auto.count-end)
