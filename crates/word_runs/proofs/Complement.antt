-- The complement of a word is set where the word is clear.
use mathlib.Core.Path.{◌≡◌, refl, sym, ap, ap₂, ◌∙◌}
use Prim.Native.Nat.{ℕ, zero, suc, ◌+◌, ◌-◌, ◌*◌, ◌/◌, ◌%◌, ◌^◌, ◌<◌}
use native.Mathlib.Nat.{pow-suc}
use native.Mathlib.Numerals.{one-add}
use native.Mathlib.Omega.{arith}
use lib.Dec.{eqb}
use lib.Pow.{shr-shr}
use Rattle.word_runs.specs.Bits.{bit, first_of, place}
use Rattle.integers.proofs.Searches.{same_search}

-- The next bit is the same bit of half the number.
bit_of_half : (x i : ℕ) → bit (x / 2) i ≡ bit x (suc i)
bit_of_half x i = ap (λ (n : ℕ). n % 2) (shr-shr x 1 i ∙ ap (λ (k : ℕ). x / 2 ^ k) (one-add i))

-- The complement's lowest bit, and its others.
low_bit : (x p q : ℕ) → q ≡ p * 2 → x < q → (q - 1 - x) / 1 % 2 + x / 1 % 2 ≡ 1
low_bit x p q e h = omega arith

other_bits : (x p q : ℕ) → q ≡ p * 2 → x < q → (q - 1 - x) / 2 ≡ p - 1 - x / 2
other_bits x p q e h = omega arith

half_below : (x p q : ℕ) → q ≡ p * 2 → x < q → x / 2 < p
half_below x p q e h = omega arith

-- One of the two is 1 and the other is 0.
either : (k x i : ℕ) → x < 2 ^ k → i < k → bit (2 ^ k - 1 - x) i + bit x i ≡ 1
either zero x i h l = absurd (omega arith)
either (suc k) x zero h l = low_bit x (2 ^ k) (2 ^ suc k) (pow-suc 2 k) h
either (suc k) x (suc i) h l =
    let twice = pow-suc 2 k in
    ap₂ ◌+◌ (sym (bit_of_half (2 ^ suc k - 1 - x) i) ∙ ap (λ (y : ℕ). bit y i) (other_bits x (2 ^ k) (2 ^ suc k) twice h)) (sym (bit_of_half x i))
    ∙ either k (x / 2) i (half_below x (2 ^ k) (2 ^ suc k) twice h) (omega arith)

one_or_zero : (b c : ℕ) → b + c ≡ 1 → eqb b 1 ≡ eqb c 0
one_or_zero zero zero h = absurd (omega arith)
one_or_zero zero (suc zero) h = refl
one_or_zero zero (suc (suc c)) h = absurd (omega arith)
one_or_zero (suc zero) zero h = refl
one_or_zero (suc zero) (suc c) h = absurd (omega arith)
one_or_zero (suc (suc b)) c h = absurd (omega arith)

-- The first set bit of the complement is the first clear bit of the word.
pub clear_is : (w i : ℕ) → w < 2 ^ 64 → place (first_of 1 (64 - i) (2 ^ 64 - 1 - w) i) ≡ place (first_of 0 (64 - i) w i)
clear_is w i h =
    ap place
    (same_search (λ (k : ℕ). eqb (bit (2 ^ 64 - 1 - w) k) 1) (λ (k : ℕ). eqb (bit w k) 0) (64 - i) i
    (λ k l m. one_or_zero (bit (2 ^ 64 - 1 - w) k) (bit w k) (either 64 w k h (omega arith))))
