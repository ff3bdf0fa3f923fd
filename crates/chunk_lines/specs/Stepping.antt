-- What a step of the streaming core answers, in the terms of `text_program`'s definition of a step. Ours; document 01 speaks of the whole output.
use Rattle.std.specs.Prelude.{ℕ, ◌+◌, ◌≡◌, List, length}
use Rattle.decimals.specs.Buffer.{overwritten}
use Rattle.printing.specs.Buffer.{fitting}
use Rattle.text_program.specs.Stream.{Step}
use Rattle.chunk_lines.specs.declared.Stepped.{Stepped}

-- Its answer, and the whole buffer after it, with what it prints from `to` on.
pub record Steps (q : Step) (before : List ℕ) (to : ℕ) (after : List ℕ) (r : Stepped) : Type 0 where
  pub answer : r ≡ record { state = q.state; sheet = q.sheet; used = q.used; filled = to + length (fitting before to q.output); more = q.more }
  pub buffer : after ≡ overwritten before to (fitting before to q.output)
