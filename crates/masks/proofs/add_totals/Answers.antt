-- `masks::add_totals` meets its contract: totals within the outline bounds are far below the limit of a sum that fits.
use mathlib.Core.Path.{◌≡◌}
use mathlib.Core.Bool.{false}
use Rattle.outline.specs.declared.Totals.{Totals}
use Rattle.outline.specs.EdgeSums.{exceed, outline_bounds}
use Rattle.outline.specs.MapCall.{total_limits}
use Rattle.outline.specs.private.Fit.{Fit}
use Rattle.outline.proofs.Limits.{exceed_fit, limits_fit}
use Rattle.outline.proofs.TotalsLaws.{totals_equal}
use Rattle.limits.proofs.TotalSums.{sum_fits, sum_is}
use Rattle.masks.proofs.add_totals.Goals as goal

fit : (s : Totals) → exceed outline_bounds s ≡ false → Fit total_limits s
fit s h = limits_fit s (exceed_fit outline_bounds s h)

pub overflow_add-result : goal.overflow_add-result
overflow_add-result c = let a = c.args in sum_fits a.s.a2 a.t.a2 (fit a.s c.requires.s_value).a2 (fit a.t c.requires.t_value).a2

pub overflow_add-result-2 : goal.overflow_add-result-2
overflow_add-result-2 c = let a = c.args in sum_fits a.s.x6 a.t.x6 (fit a.s c.requires.s_value).x6 (fit a.t c.requires.t_value).x6

pub overflow_add-result-3 : goal.overflow_add-result-3
overflow_add-result-3 c = let a = c.args in sum_fits a.s.y6 a.t.y6 (fit a.s c.requires.s_value).y6 (fit a.t c.requires.t_value).y6

pub overflow_add-result-4 : goal.overflow_add-result-4
overflow_add-result-4 c = let a = c.args in sum_fits a.s.xx12 a.t.xx12 (fit a.s c.requires.s_value).xx12 (fit a.t c.requires.t_value).xx12

pub overflow_add-result-5 : goal.overflow_add-result-5
overflow_add-result-5 c = let a = c.args in sum_fits a.s.xy24 a.t.xy24 (fit a.s c.requires.s_value).xy24 (fit a.t c.requires.t_value).xy24

pub overflow_add-result-6 : goal.overflow_add-result-6
overflow_add-result-6 c = let a = c.args in sum_fits a.s.yy12 a.t.yy12 (fit a.s c.requires.s_value).yy12 (fit a.t c.requires.t_value).yy12

pub returns : goal.returns
returns c =
    let s = c.args.s in
    let t = c.args.t in
    let p = fit s c.requires.s_value in
    let q = fit t c.requires.t_value in
    totals_equal
    (sum_is s.a2 t.a2 p.a2 q.a2)
    (sum_is s.x6 t.x6 p.x6 q.x6)
    (sum_is s.y6 t.y6 p.y6 q.y6)
    (sum_is s.xx12 t.xx12 p.xx12 q.xx12)
    (sum_is s.xy24 t.xy24 p.xy24 q.xy24)
    (sum_is s.yy12 t.yy12 p.yy12 q.yy12)
