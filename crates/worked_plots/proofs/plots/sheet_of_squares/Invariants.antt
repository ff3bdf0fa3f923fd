-- `worked_plots::plots::sheet_of_squares` meets its contract. The invariant: the reply is that of the end after the outlines counted.
use mathlib.Core.Path.{◌≡◌}
use Rattle.outline_answers.specs.WalkAnswers.{end_reading}
use Rattle.worked_plots.specs.Plots.{end_after}
use Rattle.worked_plots.proofs.plots.sheet_of_squares.Given as goal

abbrev pub invariant-loop-done : goal.invariant-loop-done
invariant-loop-done l = end_reading l.reply ≡ end_after l._done
