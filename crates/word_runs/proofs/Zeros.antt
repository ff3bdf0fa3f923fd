-- Trailing zeros, as the machine counts them, lead to the first set bit.
use mathlib.Core.Path.{◌≡◌, refl, sym, ap, ◌∙◌, subst}
use mathlib.Core.Bool.{cond}
use Prim.Native.Nat.{ℕ, zero, suc, ◌+◌, ◌-◌, ◌*◌, ◌/◌, ◌%◌, ◌^◌, ◌≤◌, ◌<◌}
use native.Mathlib.Nat.{pow-suc, add-zero, add-suc, suc-add, le_of_suc-le-suc, not-suc-le-zero}
use native.Mathlib.Numerals.{add-one}
use native.Mathlib.Omega.{arith}
use lib.Dec.{eqb}
use lib.Pow.{shr-shr, shr_lt}
use lib.Count.{count_trailing_zeros, under, trailing_of_zero, trailing_le}
use Rattle.integers.specs.Search.{first_where}
use Rattle.integers.proofs.Searches.{empty_search}
use Rattle.std.specs.Prelude.{None, Some}
use Rattle.word_runs.specs.Bits.{bit, first_of, place}
use Rattle.word_runs.proofs.Places.{some_place, no_place}
use Rattle.word_runs.proofs.Ones.{bit_below}

-- One place further is half the number.
halved : (w i : ℕ) → w / 2 ^ i / 2 ≡ w / 2 ^ suc i
halved w i = shr-shr w i 1 ∙ ap (λ (k : ℕ). w / 2 ^ k) (add-one i)

-- ---- the first set bit

-- One step of the count against one step of the search.
step-one : (b i t e : ℕ) → b < 2 → suc i + t ≡ e → i + under b t ≡ cond (eqb b 1) i e
step-one zero i t e h p = add-suc i t ∙ sym (suc-add i t) ∙ p
step-one (suc zero) i t e h p = add-zero i
step-one (suc (suc b)) i t e h p = absurd (not-suc-le-zero (le_of_suc-le-suc (le_of_suc-le-suc h)))

-- The zeros below the first set bit lead to it.
zeros_lead : (k w i : ℕ) → i + count_trailing_zeros k (w / 2 ^ i) ≡ first_of 1 k w i
unfolding count_trailing_zeros first_where
zeros_lead zero w i = add-zero i
zeros_lead (suc k) w i =
    step-one (bit w i) i (count_trailing_zeros k (w / 2 ^ i / 2)) (first_of 1 k w (suc i)) (bit_below w i)
    (ap (λ (x : ℕ). suc i + count_trailing_zeros k x) (halved w i) ∙ zeros_lead k w (suc i))

-- Places above a number's highest set bit do not matter.
enough : (j k n : ℕ) → 0 < n → n < 2 ^ j → count_trailing_zeros (j + k) n ≡ count_trailing_zeros j n
unfolding count_trailing_zeros
enough zero k n p h = absurd (omega arith)
enough (suc j) k n p h =
    ap (λ (d : ℕ). count_trailing_zeros d n) (suc-add j k) ∙ by_digit (n % 2) (λ (even : n % 2 ≡ 0). enough j k (n / 2) (omega arith) (half_lt (pow-suc 2 j)))
  where
    half_lt : 2 ^ suc j ≡ 2 ^ j * 2 → n / 2 < 2 ^ j
    half_lt e = omega arith

    by_digit : (b : ℕ) → (b ≡ 0 → count_trailing_zeros (j + k) (n / 2) ≡ count_trailing_zeros j (n / 2))
        → under b (count_trailing_zeros (j + k) (n / 2)) ≡ under b (count_trailing_zeros j (n / 2))
    by_digit zero e = ap suc (e refl)
    by_digit (suc b) e = refl

-- A number that is not 0 has fewer trailing zeros than places.
fewer : (k n : ℕ) → 0 < n → n < 2 ^ k → count_trailing_zeros k n < k
unfolding count_trailing_zeros
fewer zero n p h = absurd (omega arith)
fewer (suc k) n p h = by_digit (n % 2) (λ (even : n % 2 ≡ 0). fewer k (n / 2) (omega arith) (half_lt (pow-suc 2 k)))
  where
    half_lt : 2 ^ suc k ≡ 2 ^ k * 2 → n / 2 < 2 ^ k
    half_lt e = omega arith

    by_digit : (b : ℕ) → (b ≡ 0 → count_trailing_zeros k (n / 2) < k) → under b (count_trailing_zeros k (n / 2)) < suc k
    by_digit zero e = let less = e refl in omega arith
    by_digit (suc b) e = omega arith

-- ---- in a word

-- A place counted so is no larger than the machine's numbers.
pub place_fits : (i x : ℕ) → i ≤ 64 → i + count_trailing_zeros 64 x < 2 ^ 32
place_fits i x h = omega (arith, trailing_le 64 x)

-- Past the word there is none.
pub past_word : (w i : ℕ) → 64 ≤ i → None ≡ place (first_of 1 (64 - i) w i)
past_word w i h = no_place _ (omega (arith, empty_search (λ (k : ℕ). eqb (bit w k) 1) (64 - i) i))

-- No set bit from the place i on.
pub none_set : (w i : ℕ) → i ≤ 64 → w / 2 ^ i ≡ 0 → None ≡ place (first_of 1 (64 - i) w i)
none_set w i h e =
    let all : count_trailing_zeros (64 - i) (w / 2 ^ i) ≡ 64 - i = ap (count_trailing_zeros (64 - i)) e ∙ trailing_of_zero (64 - i) in
    no_place (first_of 1 (64 - i) w i) (omega (arith, zeros_lead (64 - i) w i))

-- There is one: the trailing zeros of what is left lead to it.
pub set_is : (w i : ℕ) → w < 2 ^ 64 → i ≤ 64 → 0 < w / 2 ^ i → Some (i + count_trailing_zeros 64 (w / 2 ^ i)) ≡ place (first_of 1 (64 - i) w i)
set_is w i f h p =
    let whole : 64 - i + i ≡ 64 = omega arith in
    let less : w / 2 ^ i < 2 ^ (64 - i) = shr_lt (64 - i) i (subst (λ (k : ℕ). w < 2 ^ k) (sym whole) f) in
    let zeros : count_trailing_zeros 64 (w / 2 ^ i) ≡ count_trailing_zeros (64 - i) (w / 2 ^ i) = ap (λ (k : ℕ). count_trailing_zeros k (w / 2 ^ i)) (sym whole) ∙ enough (64 - i) i (w / 2 ^ i) p less in
    some_place _ (first_of 1 (64 - i) w i) (ap (λ (t : ℕ). i + t) zeros ∙ zeros_lead (64 - i) w i) (omega (arith, zeros_lead (64 - i) w i, fewer (64 - i) (w / 2 ^ i) p less))
