use mathlib.Core.Path.{◌≡◌, refl, ap, ◌∙◌}
use native.Mathlib.Numerals.{add-one}
use native.Mathlib.Omega.{arith}
use Rattle.outline.specs.ListCall.{points}
use Rattle.worked_plots.specs.Plots.{square, after_points, after_rounds, walked_square}
use Rattle.worked_plots.proofs.plots.walk_square.Goals as goal

pub loop-round-init : goal.loop-round-init
unfolding after_rounds
loop-round-init c = refl

pub loop-round-preserved : goal.loop-round-preserved
unfolding after_rounds
loop-round-preserved c = rw add-one (c.walk_round-walk.ensures ∙ ap (λ w. after_points w (points square)) c.loop-round.invariant)

pub returns : goal.returns
unfolding walked_square
returns c =
    let at = c.loop-round in
    let all : at._round ≡ 256 = omega arith in
    at.invariant ∙ (λ i. after_rounds (all i) (c.begin.ensures i).walk)
