-- `outline_calls::add` meets its contract: two numbers of at most 10^18 in size have a sum that fits 64 bits.
use Rattle.outline.specs.MapCall.{total_limits}
use Rattle.outline.specs.private.Fit.{Fit}
use Rattle.outline.proofs.Limits.{exceed_fit}
use Rattle.outline.proofs.TotalsLaws.{totals_equal}
use Rattle.limits.proofs.TotalSums.{sum_fits, sum_is}
use Rattle.outline_calls.proofs.add.Goals as goal

pub overflow_add-result : goal.overflow_add-result
overflow_add-result c = sum_fits c.args.s.a2 c.args.t.a2 (exceed_fit total_limits c.args.s c.requires.s_value).a2 (exceed_fit total_limits c.args.t c.requires.t_value).a2

pub overflow_add-result-2 : goal.overflow_add-result-2
overflow_add-result-2 c = sum_fits c.args.s.x6 c.args.t.x6 (exceed_fit total_limits c.args.s c.requires.s_value).x6 (exceed_fit total_limits c.args.t c.requires.t_value).x6

pub overflow_add-result-3 : goal.overflow_add-result-3
overflow_add-result-3 c = sum_fits c.args.s.y6 c.args.t.y6 (exceed_fit total_limits c.args.s c.requires.s_value).y6 (exceed_fit total_limits c.args.t c.requires.t_value).y6

pub overflow_add-result-4 : goal.overflow_add-result-4
overflow_add-result-4 c = sum_fits c.args.s.xx12 c.args.t.xx12 (exceed_fit total_limits c.args.s c.requires.s_value).xx12 (exceed_fit total_limits c.args.t c.requires.t_value).xx12

pub overflow_add-result-5 : goal.overflow_add-result-5
overflow_add-result-5 c = sum_fits c.args.s.xy24 c.args.t.xy24 (exceed_fit total_limits c.args.s c.requires.s_value).xy24 (exceed_fit total_limits c.args.t c.requires.t_value).xy24

pub overflow_add-result-6 : goal.overflow_add-result-6
overflow_add-result-6 c = sum_fits c.args.s.yy12 c.args.t.yy12 (exceed_fit total_limits c.args.s c.requires.s_value).yy12 (exceed_fit total_limits c.args.t c.requires.t_value).yy12

pub returns : goal.returns
returns c =
    let s = c.args.s in
    let t = c.args.t in
    let fit_s : Fit total_limits s = exceed_fit total_limits s c.requires.s_value in
    let fit_t : Fit total_limits t = exceed_fit total_limits t c.requires.t_value in
    totals_equal
    (sum_is s.a2 t.a2 fit_s.a2 fit_t.a2)
    (sum_is s.x6 t.x6 fit_s.x6 fit_t.x6)
    (sum_is s.y6 t.y6 fit_s.y6 fit_t.y6)
    (sum_is s.xx12 t.xx12 fit_s.xx12 fit_t.xx12)
    (sum_is s.xy24 t.xy24 fit_s.xy24 fit_t.xy24)
    (sum_is s.yy12 t.yy12 fit_s.yy12 fit_t.yy12)
