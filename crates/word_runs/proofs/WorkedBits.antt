-- Bits, counts and searches worked by computation. The words: 9223372036854775809 has bits 0 and 63 set alone, 13835058055282163713 also bit 62, 18446744073709551615 all, 6148914691236517205 every second one from bit 0 on.
use mathlib.Core.Path.{◌≡◌, refl}
use mathlib.Core.List.{[], ◌∷◌, map}
use mathlib.Core.Bool.{true, false}
use Prim.Native.Nat.{ℕ, ◌-◌}
use Rattle.integers.specs.Search.{first_where}
use Rattle.word_runs.specs.Bits.{bit, ones_below, first_of, wanted}
use Rattle.word_runs.specs.private.WordList.{bit_at, first_bit}

-- Bits are counted from the lowest: 0, 1, 62, 63.
bits : map (bit 13835058055282163713) (0 ∷ 1 ∷ 62 ∷ 63 ∷ []) ≡ 1 ∷ 0 ∷ 1 ∷ 1 ∷ []
bits = refl

-- All 64 count: none, all, every second one, the two at the ends.
counts : map (ones_below 64) (0 ∷ 18446744073709551615 ∷ 6148914691236517205 ∷ 9223372036854775809 ∷ []) ≡ 0 ∷ 64 ∷ 32 ∷ 2 ∷ []
unfolding ones_below
counts = refl

-- The first set bit from 0, 1, 63, 64 and 65 on.
first_set_bits : map (λ (i : ℕ). first_of (wanted true) (64 - i) 9223372036854775809 i) (0 ∷ 1 ∷ 63 ∷ 64 ∷ 65 ∷ []) ≡ 0 ∷ 63 ∷ 63 ∷ 64 ∷ 65 ∷ []
unfolding first_where
first_set_bits = refl

-- The first clear bit. From bit 62 on there is none.
first_clear_bits : map (λ (i : ℕ). first_of (wanted false) (64 - i) 13835058055282163713 i) (0 ∷ 1 ∷ 62 ∷ 63 ∷ 64 ∷ 65 ∷ []) ≡ 1 ∷ 1 ∷ 64 ∷ 64 ∷ 64 ∷ 65 ∷ []
unfolding first_where
first_clear_bits = refl

-- No bit set: none is found, and the first clear one at once. All set: the other way round.
none_set : map (λ (i : ℕ). first_of 1 (64 - i) 0 i) (0 ∷ 63 ∷ 64 ∷ 65 ∷ []) ≡ 64 ∷ 64 ∷ 64 ∷ 65 ∷ []
unfolding first_where
none_set = refl

none_set_clear : map (λ (i : ℕ). first_of 0 (64 - i) 0 i) (0 ∷ 63 ∷ 64 ∷ 65 ∷ []) ≡ 0 ∷ 63 ∷ 64 ∷ 65 ∷ []
unfolding first_where
none_set_clear = refl

all_set : map (λ (i : ℕ). first_of 1 (64 - i) 18446744073709551615 i) (0 ∷ 63 ∷ 64 ∷ 65 ∷ []) ≡ 0 ∷ 63 ∷ 64 ∷ 65 ∷ []
unfolding first_where
all_set = refl

all_set_clear : map (λ (i : ℕ). first_of 0 (64 - i) 18446744073709551615 i) (0 ∷ 63 ∷ 64 ∷ 65 ∷ []) ≡ 64 ∷ 64 ∷ 64 ∷ 65 ∷ []
unfolding first_where
all_set_clear = refl

-- ---- a list of words

-- Bit 63 is the top of the first word, bit 64 the lowest of the second; past the list all are clear.
bits_of_two : map (bit_at (9223372036854775808 ∷ 1 ∷ [])) (0 ∷ 63 ∷ 64 ∷ 65 ∷ 128 ∷ []) ≡ 0 ∷ 1 ∷ 1 ∷ 0 ∷ 0 ∷ []
bits_of_two = refl

-- A run over the border of two words begins at 63 and ends before 65; after it there is none.
run_over_border : map (λ (i : ℕ). first_bit 1 (9223372036854775808 ∷ 1 ∷ []) (128 - i) i) (0 ∷ 64 ∷ 65 ∷ []) ≡ 63 ∷ 64 ∷ 128 ∷ []
unfolding first_where
run_over_border = refl

run_end_over_border : first_bit 0 (9223372036854775808 ∷ 1 ∷ []) 65 63 ≡ 65
unfolding first_where
run_end_over_border = refl
