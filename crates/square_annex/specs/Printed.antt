-- Document 02, CR 6: the annex as it is printed, one entry a line, as bytes.
use Rattle.std.specs.Prelude.{ℕ, List, [], ◌∷◌, ◌++◌}
use Rattle.decimals.specs.Decimal.{decimal}

-- An entry's line: its digits and a newline.
abbrev pub line_of : ℕ → List ℕ
line_of entry = decimal entry ++ 10 ∷ []

-- The lines of these entries, in order.
unfoldable pub lines_of : List ℕ → List ℕ
lines_of [] = []
lines_of (entry ∷ entries) = line_of entry ++ lines_of entries
