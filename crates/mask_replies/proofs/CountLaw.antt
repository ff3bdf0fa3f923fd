-- The call for the runs of a mask counts no more than 4,096 of them, so the count that is told is the call's own.
use Prim.Native.Nat.{ℕ, min, ◌≤◌}
use mathlib.Core.Path.{◌≡◌, refl, ap, ◌∙◌}
use mathlib.Core.Bool.{Bool, true, false, ◌||◌, cond}
use mathlib.Core.List.{List, [], ◌∷◌}
use native.Mathlib.Omega.{arith}
use borrow.Author.Tests.{ltb-false}
use lib.Dec.{ltb}
use lib.IntN.{ℤ, pos}
use lib.ListN.{length}
use Rattle.cells.specs.declared.Run.{Run}
use Rattle.cells.specs.RegionCall.{too_many}
use Rattle.mask_cells.specs.MaskCells.{longest_runs}
use Rattle.mask_cells.specs.MaskCalls.{wrong_length, MaskRunsOutcome, nothing_written, too_many_for, mask_runs_call}
use Rattle.std.specs.Prelude.{Result, Ok, Err}
use Rattle.masks.specs.declared.MaskRunsRefusal.{MaskRunsRefusal}
use Rattle.masks.specs.MaskAnswers.{runs_reading}
use Rattle.replies.specs.Reply.{reply}
use Rattle.mask_replies.specs.MaskReply.{count_reply, count_capped}

pub count_within : (ws : List ℕ) (before : List Run) → (mask_runs_call ws before).count ≤ 4096
unfolding mask_runs_call too_many_for too_many
count_within ws before = by_tests (wrong_length (length ws)) (ltb 4096 (length (longest_runs ws))) (ltb (length before) (length (longest_runs ws))) (length (longest_runs ws)) _ refl
  where
    by_tests : (wrong many short : Bool) (n : ℕ) (after : List Run) → ltb 4096 n ≡ many
        → (cond wrong (nothing_written 31 before) (cond (many || short) (nothing_written 8 before) (record { number = 0; index = 0; count = n; list = after }))).count ≤ 4096
    by_tests true many short n after m = omega arith
    by_tests false true short n after m = omega arith
    by_tests false false true n after m = omega arith
    by_tests false false false n after m = ltb-false 4096 n m

-- The number and the count of an answer do not depend on the list.
same_number : (a : Result ℕ MaskRunsRefusal) (l : List Run) → (runs_reading a []).number ≡ (runs_reading a l).number
same_number (Ok n) l = refl
same_number (Err r) l = refl

same_count : (a : Result ℕ MaskRunsRefusal) (l : List Run) → (runs_reading a []).count ≡ (runs_reading a l).count
same_count (Ok n) l = refl
same_count (Err r) l = refl

-- The reply to an answer of the call is the reply to the call's outcome.
pub count-told : (ws : List ℕ) (before : List Run) (a : Result ℕ MaskRunsRefusal) (after : List Run) (buffer : List ℤ) → runs_reading a after ≡ mask_runs_call ws before
    → count_reply (count_capped (runs_reading a [])) buffer ≡ count_reply (mask_runs_call ws before) buffer
count-told ws before a after buffer e =
    let number_is : (runs_reading a []).number ≡ (mask_runs_call ws before).number = same_number a after ∙ ap (λ (o : MaskRunsOutcome). o.number) e in
    let count_is : (runs_reading a []).count ≡ (mask_runs_call ws before).count = same_count a after ∙ ap (λ (o : MaskRunsOutcome). o.count) e in
    let capped : min (runs_reading a []).count 4096 ≡ (mask_runs_call ws before).count = omega (arith, count_is, count_within ws before) in
    λ i. reply (number_is i) (pos (capped i) ∷ []) buffer
