-- The outcome of the call for the runs of a mask as a reply: the count in the buffer, and the caller's list of runs afterwards. The totals of a mask are told as
-- those of an outline are (`totals_reply` of `outline_replies`).
use Rattle.std.specs.Prelude.{ℕ, min, cond, List, [], ◌∷◌, ltb, ℤ, pos, length}
use Rattle.cells.specs.declared.Run.{Run}
use Rattle.mask_cells.specs.MaskCalls.{MaskRunsOutcome}
use Rattle.replies.specs.Reply.{Reply, reply}

-- The number, and how many runs were written.
abbrev pub count_reply : MaskRunsOutcome → List ℤ → Reply
count_reply o buffer = reply o.number (pos o.count ∷ []) buffer

-- The outcome with no count above 4,096: an entry of the buffer holds it, whatever count the answer has. No answer of the call has a larger one
-- (proofs/CountLaw).
abbrev pub count_capped : MaskRunsOutcome → MaskRunsOutcome
count_capped o = record { number = o.number; index = o.index; count = min o.count 4096; list = o.list }

-- The number that the call for runs answers, and the caller's list of runs and buffer afterwards.
pub record RunsReply : Type 0 where
  pub number : ℕ
  pub runs : List Run
  pub buffer : List ℤ

-- The list is the one that the call leaves. Where the buffer has no room for the count, the list too stays as it was.
unfoldable pub mask_runs_reply : MaskRunsOutcome → List Run → List ℤ → RunsReply
mask_runs_reply o runs buffer =
    record {
      number = (count_reply o buffer).number;
      runs = cond (ltb (length buffer) 1) runs o.list;
      buffer = (count_reply o buffer).buffer;
    }
