-- The bits of a list of words, counted through the list: how the code searches a mask.
use Rattle.std.specs.Prelude.{ℕ, ◌/◌, ◌%◌, List, get_or, eqb}
use Rattle.integers.specs.Search.{first_where}
use Rattle.word_runs.specs.Bits.{bit}

-- Bit i of the list, where word k has the bits from 64 k on. Past the list all bits are clear.
abbrev pub bit_at : List ℕ → ℕ → ℕ
bit_at ws i = bit (get_or ws (i / 64) 0) (i % 64)

-- The first place of the list whose bit is v, among the n places from i on; i + n where there is none.
abbrev pub first_bit : ℕ → List ℕ → ℕ → ℕ → ℕ
first_bit v ws n i = first_where (λ (k : ℕ). eqb (bit_at ws k) v) n i
