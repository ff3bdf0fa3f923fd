-- What a call of the streaming core answers, in the terms of `text_program`'s definition of a call. Ours; document 01 speaks of the whole output.
use Rattle.std.specs.Prelude.{◌≡◌, List, ℕ, length}
use Rattle.decimals.specs.Buffer.{overwritten}
use Rattle.text_program.specs.Stream.{Step}
use Rattle.stream.specs.declared.Fed.{Fed}

-- Its answer, and the whole buffer after it.
pub record Feeds (q : Step) (before after : List ℕ) (r : Fed) : Type 0 where
  pub answer : r ≡ record { state = q.state; sheet = q.sheet; used = q.used; filled = length q.output }
  pub buffer : after ≡ overwritten before 0 q.output
