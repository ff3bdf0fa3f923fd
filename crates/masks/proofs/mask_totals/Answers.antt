-- `masks::mask_totals` meets its contract: refusal 31, or the totals of the ground under the marked cells.
use mathlib.Core.Path.{◌≡◌, sym, ap, ◌∙◌}
use mathlib.Core.Bool.{true, false}
use mathlib.Core.List.{List}
use Prim.Native.Nat.{ℕ}
use borrow.Author.Tests.{not-false}
use lib.ListN.{length}
use Rattle.std.proofs.lemmas.Result.{err_from_is_err_and}
use Rattle.outline.specs.ListCall.{accepted, refused}
use Rattle.cell_ground.specs.Ground.{ground_of}
use Rattle.mask_cells.specs.MaskCells.{marked_cells}
use Rattle.mask_cells.specs.MaskCalls.{mask_totals_call, wrong_length}
use Rattle.masks.proofs.mask_totals.Goals as goal

wrong_refused : (ws : List ℕ) → wrong_length (length ws) ≡ true → refused 31 ≡ mask_totals_call ws
unfolding mask_totals_call
wrong_refused ws e = rw e

right_accepted : (ws : List ℕ) → wrong_length (length ws) ≡ false → accepted (ground_of (marked_cells ws)) ≡ mask_totals_call ws
unfolding mask_totals_call
right_accepted ws e = rw e

pub returns-in_err-mask : goal.returns-in_err-mask
returns-in_err-mask c =
    let p = err_from_is_err_and c.from_residual.result c.from_residual.ensures.1 in
    rw (p.1) (wrong_refused c.args.words.now (not-false _ (sym c.in_err-mask.ensures.test)))

pub returns : goal.returns
returns c =
    ap accepted c.ground.ensures
    ∙ right_accepted c.in_ok-mask.mask.words.now c.in_ok-mask.mask.whole_rows
    ∙ ap mask_totals_call c.in_ok-mask.ensures.same
