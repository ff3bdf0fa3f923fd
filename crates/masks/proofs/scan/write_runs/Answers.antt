-- `masks::scan::write_runs` meets its contract: each turn stores the first of the runs that are left.
use mathlib.Core.Path.{◌∙◌}
use native.Mathlib.Omega.{arith}
use Rattle.std.proofs.lemmas.List.{set-get_or}
use Rattle.masks.proofs.Written.{none_stored, one_stored, full, ended}
use Rattle.masks.proofs.scan.write_runs.Goals as goal

pub loop-run-init : goal.loop-run-init
loop-run-init c = none_stored c.args.mask.words.now c.args.runs.now c.args.mask.whole_rows

pub loop-run-preserved : goal.loop-run-preserved
loop-run-preserved c =
    let l = c.loop-run in
    one_stored c.args.mask.words.now c.args.runs.now l.runs l.run-index l.at l.invariant (omega (arith, c.loop-run-test.true)) c.in-Some.found c.in-Some.ensures

pub returns-in_default : goal.returns-in_default
returns-in_default c =
    let l = c.loop-run in
    set-get_or l.runs l.run-index _ ∙ ended c.args.mask.words.now c.args.runs.now l.runs l.run-index l.at l.invariant (omega (arith, c.loop-run-test.true)) c.in_default.ensures

pub returns : goal.returns
returns c =
    let l = c.loop-run in
    full c.args.mask.words.now c.args.runs.now l.runs l.run-index l.at l.invariant (omega (arith, c.loop-run-test.false)) (omega (arith, l.auto.run-index-end))
