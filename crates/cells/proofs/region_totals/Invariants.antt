-- `cells::region_totals`: the scan stands for the runs before the index.
use lib.ListN.{take}
use Rattle.cells.proofs.ScanLaws.{Stands}
use Rattle.cells.proofs.region_totals.Given as goal

abbrev pub invariant-loop-run : goal.invariant-loop-run
invariant-loop-run l = Stands (take l.run-index l.runs) l.scan
