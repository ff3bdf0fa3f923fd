-- What the machine counts is what the definition counts: the ones of a word.
use mathlib.Core.Path.{◌≡◌, refl, sym, ap, ap₂, ◌∙◌}
use Prim.Native.Nat.{ℕ, zero, suc, ◌+◌, ◌%◌, ◌^◌, ◌<◌}
use native.Mathlib.Nat.{mod-lt, mod-one, mod-eq_of_lt, add_comm, le_of_suc-le-suc, not-suc-le-zero}
use native.Mathlib.Numerals.{one-add}
use lib.Pow.{pow_pos, mod-pow-add}
use lib.Count.{ones, ones_cat}
use Rattle.word_runs.specs.Bits.{ones_below, bit}

-- A bit is 0 or 1.
pub bit_below : (w i : ℕ) → bit w i < 2
bit_below w i = mod-lt _ (pow_pos 1)

ones_bit : (r : ℕ) → r < 2 → ones r ≡ r
unfolding ones
ones_bit zero h = refl
ones_bit (suc zero) h = refl
ones_bit (suc (suc r)) h = absurd (not-suc-le-zero (le_of_suc-le-suc (le_of_suc-le-suc h)))

-- Of the n lowest bits.
ones_of_low : (n w : ℕ) → ones (w % 2 ^ n) ≡ ones_below n w
unfolding ones_below
ones_of_low zero w = ap ones (mod-one w) ∙ ones_bit 0 (mod-lt 0 (pow_pos 1))
ones_of_low (suc n) w =
    ap (λ (k : ℕ). ones (w % 2 ^ k)) (sym (one-add n))
    ∙ ap ones (mod-pow-add w 1 n)
    ∙ ones_cat n (bit w n) (w % 2 ^ n) (mod-lt w (pow_pos n))
    ∙ ap₂ ◌+◌ (ones_bit (bit w n) (bit_below w n)) (ones_of_low n w)
    ∙ add_comm (bit w n) (ones_below n w)

pub ones_are : (n w : ℕ) → w < 2 ^ n → ones w ≡ ones_below n w
ones_are n w h = ap ones (sym (mod-eq_of_lt h)) ∙ ones_of_low n w
