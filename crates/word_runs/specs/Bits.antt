-- Document 02, CR 1: the bits of a word, how many of them are set, and where the next set or clear one stands.
use Rattle.std.specs.Prelude.{ℕ, zero, suc, ◌+◌, ◌/◌, ◌%◌, ◌^◌, Bool, true, false, cond, eqb, ltb, Option, None, Some}
use Rattle.integers.specs.Search.{first_where}

-- Bit i of a word, counted from the lowest: 0 or 1.
abbrev pub bit : ℕ → ℕ → ℕ
bit w i = w / 2 ^ i % 2

-- The count of a word's ones: how many of the bits 0 to n - 1 are set.
unfoldable pub ones_below : ℕ → ℕ → ℕ
ones_below zero w = 0
ones_below (suc n) w = ones_below n w + bit w n

-- The first place of a word whose bit is v, among the n places from i on. A run begins at the first marked cell from a place on, and ends before the first cell from there that is not marked.
abbrev pub first_of : ℕ → ℕ → ℕ → ℕ → ℕ
first_of v n w i = first_where (λ (k : ℕ). eqb (bit w k) v) n i

-- What a search through a word has found: a place of the word, or nothing where it has gone past its last place.
abbrev pub place : ℕ → Option ℕ
place i = cond (ltb i 64) (Some i) None

-- The bit that is looked for: 1 where a run begins, 0 where it ends.
abbrev pub wanted : Bool → ℕ
wanted true = 1
wanted false = 0
