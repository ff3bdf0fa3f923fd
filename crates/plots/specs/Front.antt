-- Ours: what is written of a text where the program stops before its end.
use Rattle.std.specs.Prelude.{ℕ, ◌≡◌, ◌<◌, List, ◌++◌, Option, length}
use Rattle.std.specs.Io.KnownBytes.{Appends}

-- Known bytes grow by a front of the text, and not by all of it.
abbrev pub AppendsFront : Option (List ℕ) → Option (List ℕ) → List ℕ → Type 0
AppendsFront before after text = (front : List ℕ) × (rest : List ℕ) × Appends before after front × (front ++ rest ≡ text) × (0 < length rest)
