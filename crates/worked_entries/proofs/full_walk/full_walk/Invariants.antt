-- `worked_entries::full_walk::full_walk` meets its contract. The invariant: the walk is the one begun, after the rounds so far.
use mathlib.Core.Path.{◌≡◌}
use Rattle.worked_entries.specs.FullWalk.{after_rounds}
use Rattle.worked_entries.proofs.full_walk.full_walk.Given as goal

abbrev pub invariant-loop-rounds : goal.invariant-loop-rounds
invariant-loop-rounds l = l.walk ≡ after_rounds l.rounds l.initial.walk
