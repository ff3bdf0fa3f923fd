-- `masks::mask_runs` meets its contract: by each way out its answer and the list are the outcome of the call.
use mathlib.Core.Path.{sym, ap, ◌∙◌}
use mathlib.Core.List.{List}
use Prim.Native.Nat.{ℕ}
use borrow.Author.Tests.{not-false}
use Rattle.std.proofs.lemmas.Result.{err_from_is_err_and}
use Rattle.std.proofs.lemmas.List.{length-take-le}
use Rattle.mask_cells.specs.MaskCalls.{mask_runs_call}
use Rattle.masks.proofs.Written.{refused_31, refused_8, room, written}
use Rattle.masks.proofs.mask_runs.Goals as goal

pub returns-in_err-mask : goal.returns-in_err-mask
returns-in_err-mask c =
    let p = err_from_is_err_and c.from_residual.result c.from_residual.ensures.1 in
    rw (p.1, p.2) (refused_31 c.args.words.now c.args.runs.now (not-false _ (sym c.in_err-mask.ensures.test)))

pub returns-in_err-count : goal.returns-in_err-count
returns-in_err-count c =
    let p = err_from_is_err_and c.from_residual-in_err-count.result c.from_residual-in_err-count.ensures.1 in
    rw (p.1, p.2)
    (refused_8 c.in_ok-mask.mask.words.now c.args.runs.now c.in_ok-mask.mask.whole_rows c.in_err-count.field-0.0 c.in_err-count.ensures
    ∙ ap (λ (ws : List ℕ). mask_runs_call ws c.args.runs.now) c.in_ok-mask.ensures.same)

pub slice_bounds-write_runs-end : goal.slice_bounds-write_runs-end
slice_bounds-write_runs-end c = room c.in_ok-mask.mask.words.now c.args.runs.now c.in_ok-mask.mask.whole_rows c.in_ok-count.count c.in_ok-count.ensures

pub slice_bounds-write_runs-end-2 : goal.slice_bounds-write_runs-end-2
slice_bounds-write_runs-end-2 c =
    sym (length-take-le c.in_ok-count.count c.args.runs.now (room c.in_ok-mask.mask.words.now c.args.runs.now c.in_ok-mask.mask.whole_rows c.in_ok-count.count c.in_ok-count.ensures))

pub returns : goal.returns
returns c =
    written c.in_ok-mask.mask.words.now c.args.runs.now c.in_ok-mask.mask.whole_rows c.in_ok-count.count c.write_runs.new.runs c.in_ok-count.ensures c.write_runs.ensures
    ∙ ap (λ (ws : List ℕ). mask_runs_call ws c.args.runs.now) c.in_ok-mask.ensures.same
