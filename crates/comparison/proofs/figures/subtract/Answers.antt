-- `comparison::figures::subtract` meets its contract: two totals within the outline bounds have a difference that fits 64 bits.
use Rattle.outline.specs.declared.Totals.{Totals}
use mathlib.Core.Path.{◌≡◌}
use mathlib.Core.Bool.{false}
use Rattle.outline.specs.EdgeSums.{exceed, outline_bounds}
use Rattle.outline.specs.MapCall.{total_limits}
use Rattle.outline.specs.private.Fit.{Fit}
use Rattle.outline.proofs.Limits.{exceed_fit, limits_fit}
use Rattle.outline.proofs.TotalsLaws.{totals_equal}
use Rattle.limits.proofs.TotalSums.{difference_fits, difference_is}
use Rattle.comparison.proofs.figures.subtract.Goals as goal

fit : (t : Totals) → exceed outline_bounds t ≡ false → Fit total_limits t
fit t within = limits_fit t (exceed_fit outline_bounds t within)

pub overflow_sub-result : goal.overflow_sub-result
overflow_sub-result c =
    let s = c.args.s in
    let t = c.args.t in
    difference_fits s.a2 t.a2 (fit s c.requires.s_value).a2 (fit t c.requires.t_value).a2

pub overflow_sub-result-2 : goal.overflow_sub-result-2
overflow_sub-result-2 c =
    let s = c.args.s in
    let t = c.args.t in
    difference_fits s.x6 t.x6 (fit s c.requires.s_value).x6 (fit t c.requires.t_value).x6

pub overflow_sub-result-3 : goal.overflow_sub-result-3
overflow_sub-result-3 c =
    let s = c.args.s in
    let t = c.args.t in
    difference_fits s.y6 t.y6 (fit s c.requires.s_value).y6 (fit t c.requires.t_value).y6

pub overflow_sub-result-4 : goal.overflow_sub-result-4
overflow_sub-result-4 c =
    let s = c.args.s in
    let t = c.args.t in
    difference_fits s.xx12 t.xx12 (fit s c.requires.s_value).xx12 (fit t c.requires.t_value).xx12

pub overflow_sub-result-5 : goal.overflow_sub-result-5
overflow_sub-result-5 c =
    let s = c.args.s in
    let t = c.args.t in
    difference_fits s.xy24 t.xy24 (fit s c.requires.s_value).xy24 (fit t c.requires.t_value).xy24

pub overflow_sub-result-6 : goal.overflow_sub-result-6
overflow_sub-result-6 c =
    let s = c.args.s in
    let t = c.args.t in
    difference_fits s.yy12 t.yy12 (fit s c.requires.s_value).yy12 (fit t c.requires.t_value).yy12

pub returns : goal.returns
returns c =
    let s = c.args.s in
    let t = c.args.t in
    let fit_s = fit s c.requires.s_value in
    let fit_t = fit t c.requires.t_value in
    totals_equal
    (difference_is s.a2 t.a2 fit_s.a2 fit_t.a2)
    (difference_is s.x6 t.x6 fit_s.x6 fit_t.x6)
    (difference_is s.y6 t.y6 fit_s.y6 fit_t.y6)
    (difference_is s.xx12 t.xx12 fit_s.xx12 fit_t.xx12)
    (difference_is s.xy24 t.xy24 fit_s.xy24 fit_t.xy24)
    (difference_is s.yy12 t.yy12 fit_s.yy12 fit_t.yy12)
