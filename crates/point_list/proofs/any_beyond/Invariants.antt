-- `any_beyond`: the answer is that for the numbers so far.
use mathlib.Core.Path.{◌≡◌}
use lib.ListN.{take}
use Rattle.std.specs.List.{list_any}
use Rattle.outline.specs.EdgeSums.{over}
use Rattle.point_list.proofs.any_beyond.Given as goal

abbrev pub invariant-loop-z : goal.invariant-loop-z
invariant-loop-z l = l.found ≡ list_any (over l.limit) (take l.z-index l.points)
