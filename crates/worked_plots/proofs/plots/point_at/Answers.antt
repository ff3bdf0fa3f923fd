-- `worked_plots::plots::point_at` meets its contract: x and y as the code reads them are those of the point.
use mathlib.Core.Path.{◌∙◌}
use borrow.Author.Rules.{rules}
use mir.Syntax.{w32}
use mir.Val.{SFits}
use mir.Facts.{to_z-of_z}
use Rattle.outline.specs.WalkCalls.{point_call}
use Rattle.worked_plots.proofs.plots.point_at.Goals as goal

pub returns : goal.returns
returns c =
    let x : SFits w32 c.args.p.x = search rules in
    let y : SFits w32 c.args.p.y = search rules in
    c.point.ensures ∙ (λ i. point_call c.args.w (record { x = to_z-of_z x i; y = to_z-of_z y i }))
