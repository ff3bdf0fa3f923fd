-- What is written of a line. Ours; document 01 speaks of the text alone.
use Rattle.std.specs.Prelude.{ℕ, List}
use Rattle.decimals.specs.Buffer.{if_room}

-- Room for the longest line of the output.
abbrev pub line_room : ℕ
line_room = 192

-- Nothing where the buffer has no room for the longest line.
unfoldable pub fitting : List ℕ → ℕ → List ℕ → List ℕ
fitting buffer at line = if_room line_room buffer at line
