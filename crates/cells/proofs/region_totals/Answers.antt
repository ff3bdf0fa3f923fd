-- `cells::region_totals` meets its contract: the scan stands for the runs read so far, and at the end for all of them.
use Prim.Native.Nat.{◌<◌}
use native.Mathlib.Nat.{le_of_lt}
use native.Mathlib.Numerals.{add-one}
use native.Mathlib.Omega.{arith}
use lib.ListN.{length, get_or, take}
use lib.Seq.{take-suc, take_all, length-take-le}
use Rattle.cells.specs.RegionCall.{empty_run}
use Rattle.cells.proofs.ScanLaws.{at-start, one_more, sums_small, room, answered, too_many}
use Rattle.cells.proofs.region_totals.Goals as goal

pub returns-then-runs-gt4096 : goal.returns-then-runs-gt4096
returns-then-runs-gt4096 c = too_many c.args.runs.now c.if-runs-gt4096.true

pub loop-run-init : goal.loop-run-init
loop-run-init c = rw c.of_no_runs-scan.ensures at-start

pub with-scan-requires : goal.with-scan-requires
with-scan-requires c =
    let i = c.loop-run.run-index in
    let ys = c.args.runs.now in
    let below : i < length ys = omega arith in
    room (take i ys) c.loop-run.invariant (omega (arith, length-take-le i ys (le_of_lt below)))

pub loop-run-preserved : goal.loop-run-preserved
loop-run-preserved c =
    let i = c.loop-run.run-index in
    let ys = c.args.runs.now in
    let below : i < length ys = omega arith in
    rw (c.with-scan.ensures, add-one i, take-suc ys i empty_run below) (one_more (take i ys) (get_or ys i empty_run) c.loop-run.invariant)

pub answer-requires : goal.answer-requires
answer-requires c =
    let ys = c.args.runs.now in
    sums_small ys (rw (take_all c.loop-run.run-index ys (omega arith)) at c.loop-run.invariant) (omega arith)

pub returns : goal.returns
returns c =
    let ys = c.args.runs.now in
    rw c.answer.ensures (answered ys (rw (take_all c.loop-run.run-index ys (omega arith)) at c.loop-run.invariant) (omega arith))
