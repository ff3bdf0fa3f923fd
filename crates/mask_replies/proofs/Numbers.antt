-- 100 tells a short buffer from everything else: no call on a mask has an outcome with a number as high.
use Prim.Native.Nat.{ℕ, ◌<◌}
use mathlib.Core.Path.{◌≡◌}
use mathlib.Core.Bool.{Bool, true, false, cond}
use mathlib.Core.List.{List}
use native.Mathlib.Omega.{arith}
use lib.IntN.{ℤ}
use lib.ListN.{length}
use Rattle.outline.specs.declared.Totals.{Totals}
use Rattle.outline.specs.ListCall.{accepted, refused}
use Rattle.outline_replies.specs.OutlineReply.{totals_reply}
use Rattle.cells.specs.declared.Run.{Run}
use Rattle.mask_cells.specs.MaskCells.{longest_runs}
use Rattle.mask_cells.specs.MaskCalls.{wrong_length, mask_totals_call, nothing_written, too_many_for, mask_runs_call}
use Rattle.replies.specs.Reply.{short_buffer}
use Rattle.replies.proofs.ShortBuffer.{only_short}
use Rattle.mask_replies.specs.MaskReply.{mask_runs_reply}

totals-number : (ws : List ℕ) → (mask_totals_call ws).number < short_buffer
unfolding mask_totals_call
totals-number ws = by_test (wrong_length (length ws)) _
  where
    by_test : (wrong : Bool) (t : Totals) → (cond wrong (refused 31) (accepted t)).number < short_buffer
    by_test true t = omega arith
    by_test false t = omega arith

runs_number : (ws : List ℕ) (before : List Run) → (mask_runs_call ws before).number < short_buffer
unfolding mask_runs_call
runs_number ws before = by_tests (wrong_length (length ws)) (too_many_for before (longest_runs ws)) _ _
  where
    by_tests : (wrong many : Bool) (n : ℕ) (after : List Run)
        → (cond wrong (nothing_written 31 before) (cond many (nothing_written 8 before) (record { number = 0; index = 0; count = n; list = after }))).number < short_buffer
    by_tests true many n after = omega arith
    by_tests false true n after = omega arith
    by_tests false false n after = omega arith

pub mask_totals_short : (ws : List ℕ) (out : List ℤ) → (totals_reply (mask_totals_call ws) out).number ≡ short_buffer → length out < 6
mask_totals_short ws out = only_short (mask_totals_call ws).number _ out (totals-number ws)

pub mask_runs_short : (ws : List ℕ) (before : List Run) (out : List ℤ) → (mask_runs_reply (mask_runs_call ws before) before out).number ≡ short_buffer → length out < 1
unfolding mask_runs_reply
mask_runs_short ws before out = only_short (mask_runs_call ws before).number _ out (runs_number ws before)
