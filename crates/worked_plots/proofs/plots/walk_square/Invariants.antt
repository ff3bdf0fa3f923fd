-- `worked_plots::plots::walk_square` meets its contract. The invariant: the walk is the one begun, after the rounds counted.
use mathlib.Core.Path.{◌≡◌}
use Rattle.worked_plots.specs.Plots.{after_rounds}
use Rattle.worked_plots.proofs.plots.walk_square.Given as goal

abbrev pub invariant-loop-round : goal.invariant-loop-round
invariant-loop-round l = l.walk ≡ after_rounds l._round l.initial.walk
