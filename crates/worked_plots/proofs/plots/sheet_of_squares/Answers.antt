use mathlib.Core.Path.{ap, ◌∙◌}
use native.Mathlib.Numerals.{add-one}
use native.Mathlib.Omega.{arith}
use Rattle.outline.specs.WalkCalls.{end_call}
use Rattle.worked_plots.specs.Plots.{walked_square, end_after}
use Rattle.worked_plots.proofs.plots.sheet_of_squares.Goals as goal

pub loop-done-init : goal.loop-done-init
unfolding end_after
loop-done-init c =
    let walk = c.walk_square.ensures ∙ ap walked_square c.new_walk.ensures in
    c.end-reply.ensures ∙ (λ i. end_call (walk i) (c.new_sheet.ensures i))

pub loop-done-preserved : goal.loop-done-preserved
unfolding end_after
loop-done-preserved c =
    let last = c.loop-done.invariant in
    let walk = c.walk_square-in-loop-done.ensures ∙ ap (λ r. walked_square r.walk) last in
    rw add-one (c.end-reply-in-loop-done.ensures ∙ (λ i. end_call (walk i) (last i).sheet))

pub returns : goal.returns
returns c = c.loop-done.invariant ∙ ap end_after (omega arith)
