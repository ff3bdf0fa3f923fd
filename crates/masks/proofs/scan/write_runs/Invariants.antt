-- `masks::scan::write_runs`: the first runs are stored, and the others are left from a position on.
use Rattle.masks.proofs.Written.{Stored}
use Rattle.masks.proofs.scan.write_runs.Given as goal

abbrev pub invariant-loop-run : goal.invariant-loop-run
invariant-loop-run l = Stored l.fn.mask.words.now l.fn.runs l.runs l.run-index l.at
