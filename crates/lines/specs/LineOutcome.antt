-- What a line that is carried out leaves, in the terms of text_program/Program: ours; document 01 speaks of whole inputs.
use Rattle.std.specs.Prelude.{ℕ, ◌≡◌, List}
use Rattle.printing.specs.Buffer.{fitting}
use Rattle.decimals.specs.Buffer.{Written}
use Rattle.text_program.specs.Program.{Carried}
use Rattle.lines.specs.declared.LineReply.{LineReply}

-- The walk and the sheet, and the whole buffer with what the line prints.
pub record Finished (c : Carried) (before : List ℕ) (at : ℕ) (after : List ℕ) (r : LineReply) : Type 0 where
  pub walk : r.walk ≡ c.walk
  pub sheet : r.sheet ≡ c.sheet
  pub text : Written before at (fitting before at c.output) after r.filled
