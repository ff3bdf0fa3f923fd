-- What the parts of a step answer, and what the code counts.
use Rattle.std.specs.Prelude.{ℕ, ◌+◌, ◌≤◌, ◌<◌, true, []}
use Rattle.outline.specs.declared.Sheet.{Sheet}
use Rattle.text_program.specs.declared.State.{State}
use Rattle.text_program.specs.Stream.{Step, ending}
use Rattle.chunk_lines.specs.declared.Stepped.{Stepped}

-- What the code counts of a line stays within 10's limits, and so within its counters.
pub record Counts (st : State) (size : ℕ) : Type 0 where
  pub lines : st.lines < 1_000_000
  pub bytes : st.bytes + st.gone + size ≤ 33_000_000

-- The answer of a step that writes nothing.
abbrev pub silent : Step → ℕ → Stepped
silent q to = record { state = q.state; sheet = q.sheet; used = q.used; filled = to; more = q.more }

-- 10, where so many bytes are left of the chunk.
abbrev pub ending_over : State → Sheet → ℕ → Step
ending_over st s left = let e = ending st s [] in record { output = e.output; used = left; state = e.state; sheet = s; more = true }
