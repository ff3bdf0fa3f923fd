-- `comparison::figures::walk_figures` meets its contract, by what the call on a whole list answers for each walk.
use Rattle.outline.proofs.Limits.{accepted_within}
use mathlib.Core.Path.{sym}
use Rattle.std.proofs.lemmas.Result.{err_from_is_err_and}
use Rattle.comparison.proofs.FigureCases.{first-refused, second-refused, both_accepted, points_inside}
use Rattle.comparison.proofs.figures.walk_figures.Goals as goal

pub returns-in_err-s : goal.returns-in_err-s
returns-in_err-s c =
    let refusal = err_from_is_err_and c.from_residual.result c.from_residual.ensures.1 in
    rw (refusal.1, refusal.2) (first-refused c.args.first.now c.args.second.now _ c.in_err-s.ensures)

pub returns-in_err-t : goal.returns-in_err-t
returns-in_err-t c =
    let refusal = err_from_is_err_and c.from_residual-in_err-t.result c.from_residual-in_err-t.ensures.1 in
    rw (refusal.1, refusal.2) (second-refused c.args.first.now c.args.second.now _ c.in_ok-s.ensures c.in_err-t.ensures)

pub subtract-requires : goal.subtract-requires
subtract-requires c = record { s_value = accepted_within c.args.first.now _ (sym c.in_ok-s.ensures); t_value = accepted_within c.args.second.now _ (sym c.in_ok-t.ensures) }

pub invariant_of-first : goal.invariant_of-first
invariant_of-first c = let inside = points_inside c.args.first.now c.in_ok-s.ensures in record { some = inside.0; inside = inside.1 }

pub invariant_of-second : goal.invariant_of-second
invariant_of-second c = let inside = points_inside c.args.second.now c.in_ok-t.ensures in record { some = inside.0; inside = inside.1 }

pub returns : goal.returns
returns c = both_accepted c.args.first.now c.args.second.now c.in_ok-s.ensures c.in_ok-t.ensures c.subtract.ensures c.squared_hausdorff.ensures c.squared_hausdorff-2.ensures
