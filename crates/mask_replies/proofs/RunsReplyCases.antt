-- The reply to the call for the runs of a mask, by whether the buffer has room for the count.
use Prim.Native.Nat.{ℕ}
use mathlib.Core.Path.{◌≡◌, refl, ap, ◌∙◌}
use mathlib.Core.Bool.{true, false, cond}
use mathlib.Core.List.{List, []}
use lib.Dec.{ltb}
use lib.IntN.{ℤ}
use lib.ListN.{length}
use Rattle.cells.specs.declared.Run.{Run}
use Rattle.mask_cells.specs.MaskCalls.{MaskRunsOutcome, mask_runs_call}
use Rattle.std.specs.Prelude.{Result, Ok, Err}
use Rattle.masks.specs.declared.MaskRunsRefusal.{MaskRunsRefusal}
use Rattle.masks.specs.MaskAnswers.{runs_reading}
use Rattle.replies.specs.Reply.{Reply, short_buffer, reply}
use Rattle.mask_replies.specs.MaskReply.{count_reply, count_capped, mask_runs_reply}
use Rattle.mask_replies.proofs.CountLaw.{count-told}

-- Without room both lists stay as they are.
pub no_room : (o : MaskRunsOutcome) (runs : List Run) (buffer : List ℤ) → ltb (length buffer) 1 ≡ true → record { number = short_buffer; runs = runs; buffer = buffer } ≡ mask_runs_reply o runs buffer
unfolding mask_runs_reply reply
no_room o runs buffer short = rw short

same_list : (a : Result ℕ MaskRunsRefusal) (l : List Run) → l ≡ (runs_reading a l).list
same_list (Ok n) l = refl
same_list (Err r) l = refl

-- With room the reply is the one to the call's answer, and the list is the one that the call leaves.
pub with_room : (ws : List ℕ) (before : List Run) (a : Result ℕ MaskRunsRefusal) (after : List Run) (number : ℕ) (buffer last : List ℤ) → ltb (length buffer) 1 ≡ false
    → runs_reading a after ≡ mask_runs_call ws before → ◌≡◌ {A = Reply} (record { number = number; buffer = last }) (count_reply (count_capped (runs_reading a [])) buffer)
    → record { number = number; runs = after; buffer = last } ≡ mask_runs_reply (mask_runs_call ws before) before buffer
unfolding mask_runs_reply
with_room ws before a after number buffer last room e told =
    let whole : ◌≡◌ {A = Reply} (record { number = number; buffer = last }) (count_reply (mask_runs_call ws before) buffer) = told ∙ count-told ws before a after buffer e in
    let list_is : after ≡ (mask_runs_call ws before).list = same_list a after ∙ ap (λ (o : MaskRunsOutcome). o.list) e in
    let runs_are : after ≡ cond (ltb (length buffer) 1) before (mask_runs_call ws before).list = rw room list_is in
    λ i. record { number = (whole i).number; runs = runs_are i; buffer = (whole i).buffer }
