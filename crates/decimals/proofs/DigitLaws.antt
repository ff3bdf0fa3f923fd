-- The digits of a number, cut in two, and what is written of the two pieces.
use Prim.Native.Nat.{ℕ, zero, suc, ◌+◌, ◌*◌, ◌/◌, ◌%◌, ◌^◌, ◌≤◌, ◌<◌}
use mathlib.Core.Path.{◌≡◌, refl, sym, ap, ap₂, ◌∙◌}
use mathlib.Core.List.{List, [], ◌∷◌, ◌++◌, append_assoc, append-nil}
use native.Mathlib.Omega.{arith}
use native.Mathlib.Nat.{mul_assoc, mod-add-div', mod-lt, pow-suc}
use native.Mathlib.Numerals.{add-one}
use lib.ListN.{length, set, length-append}
use lib.Dec.{ltb}
use borrow.Author.Tests.{lt-ltb, le-ltb, ltb-false}
use Rattle.integers.proofs.Cases.{both_cond}
use Rattle.decimals.specs.Decimal.{digits, decimal}
use Rattle.decimals.specs.private.Digits.{last_digits}
use Rattle.decimals.specs.Buffer.{Written}
use Rattle.decimals.proofs.BufferLaws.{SoFar, none_yet, and_text, and_byte, room_left, then}

-- ---- one digit

-- More than enough digits are the same digits.
enough : (p q n : ℕ) → n < p → n < q → digits p n ≡ digits q n
unfolding digits
enough zero q n h k = absurd (omega arith)
enough (suc p) zero n h k = absurd (omega arith)
enough (suc p) (suc q) n h k = both_cond (λ l. l) (ltb n 10) (λ e. refl) (λ e. let b = ltb-false n 10 e in ap (λ l. l ++ (48 + n % 10) ∷ []) (enough p q (n / 10) (omega arith) (omega arith)))

pub one_digit : (n : ℕ) → n < 10 → decimal n ≡ (48 + n) ∷ []
unfolding decimal digits
one_digit n h = rw (lt-ltb n 10 h)

more-digits : (n : ℕ) → 10 ≤ n → decimal n ≡ decimal (n / 10) ++ (48 + n % 10) ∷ []
unfolding decimal digits
more-digits n h = rw (le-ltb n 10 h) (ap (λ l. l ++ (48 + n % 10) ∷ []) (enough n (suc (n / 10)) (n / 10) (omega arith) (omega arith)))

pub last-length : (count n : ℕ) → length (last_digits count n) ≡ count
unfolding last_digits
last-length zero n = refl
last-length (suc count) n = length-append (last_digits count (n / 10)) ((48 + n % 10) ∷ []) ∙ add-one (length (last_digits count (n / 10))) ∙ ap suc (last-length count (n / 10))

pub last_two : (n : ℕ) → n < 100 → last_digits 2 n ≡ (48 + n / 10) ∷ (48 + n % 10) ∷ []
unfolding last_digits
last_two n h = let e : n / 10 % 10 ≡ n / 10 = omega arith in ap (λ d. (48 + d) ∷ (48 + n % 10) ∷ []) e

pub two_digits : (n : ℕ) → 10 ≤ n → n < 100 → decimal n ≡ last_digits 2 n
two_digits n h k = more-digits n h ∙ ap (λ l. l ++ (48 + n % 10) ∷ []) (one_digit (n / 10) (omega arith)) ∙ sym (last_two n k)

-- ---- the last k digits, and those before them

-- q with zeros behind it, one zero more.
one_zero_more : (k q : ℕ) → q * 10 ^ suc k ≡ 10 * (q * 10 ^ k)
one_zero_more k q = omega (arith, ap (λ m. q * m) (pow-suc 10 k), mul_assoc q (10 ^ k) 10)

zeros_behind : (k q : ℕ) → 0 < q → 0 < q * 10 ^ k
zeros_behind zero q h = omega arith
zeros_behind (suc k) q h = omega (arith, one_zero_more k q, zeros_behind k q h)

module _ (k q r : ℕ) where
  without_last : (q * 10 ^ suc k + r) / 10 ≡ q * 10 ^ k + r / 10
  without_last = omega (arith, one_zero_more k q)

  last : (q * 10 ^ suc k + r) % 10 ≡ r % 10
  last = omega (arith, one_zero_more k q)

decimal-cut : (k q r : ℕ) → 0 < q → r < 10 ^ k → decimal (q * 10 ^ k + r) ≡ decimal q ++ last_digits k r
unfolding last_digits
decimal-cut zero q r h l = let e : q * 1 + r ≡ q = omega arith in ap decimal e ∙ sym (append-nil (decimal q))
decimal-cut (suc k) q r h l =
    more-digits (q * 10 ^ suc k + r) (omega (arith, one_zero_more k q, zeros_behind k q h))
    ∙ ap₂ (λ m d. decimal m ++ (48 + d) ∷ []) (without_last k q r) (last k q r)
    ∙ ap (λ l. l ++ (48 + r % 10) ∷ []) (decimal-cut k q (r / 10) h (omega arith))
    ∙ append_assoc (decimal q) (last_digits k (r / 10)) ((48 + r % 10) ∷ [])

last-cut : (j k q r : ℕ) → r < 10 ^ k → last_digits (j + k) (q * 10 ^ k + r) ≡ last_digits j q ++ last_digits k r
unfolding last_digits
last-cut j zero q r l = let e : q * 1 + r ≡ q = omega arith in let z : j + 0 ≡ j = omega arith in ap₂ last_digits z e ∙ sym (append-nil (last_digits j q))
last-cut j (suc k) q r l =
    let n : j + suc k ≡ suc (j + k) = omega arith in
    rw n
    (ap₂ (λ m d. last_digits (j + k) m ++ (48 + d) ∷ []) (without_last k q r) (last k q r)
    ∙ ap (λ l. l ++ (48 + r % 10) ∷ []) (last-cut j k q (r / 10) (omega arith))
    ∙ append_assoc (last_digits j q) (last_digits k (r / 10)) ((48 + r % 10) ∷ []))

-- A number by the power of ten at which the code cuts it.
power : (k : ℕ) → 0 < 10 ^ k
power zero = omega arith
power (suc k) = omega (arith, power k)

some_before : (q m r n : ℕ) → r + q * m ≡ n → r < m → m ≤ n → 0 < q
some_before zero m r n e l h = absurd (omega arith)
some_before (suc q) m r n e l h = omega arith

module _ (k n : ℕ) where
  abbrev before : ℕ
  before = n / 10 ^ k

  abbrev rest : ℕ
  rest = n % 10 ^ k

  small : rest < 10 ^ k
  small = mod-lt n (power k)

  whole : n ≡ before * 10 ^ k + rest
  whole = omega (arith, mod-add-div' n (10 ^ k))

  pub decimal_pieces : 10 ^ k ≤ n → decimal n ≡ decimal before ++ last_digits k rest
  decimal_pieces h = ap decimal whole ∙ decimal-cut k before rest (some_before before (10 ^ k) rest n (mod-add-div' n (10 ^ k)) small h) small

  pub last_pieces : (j : ℕ) → last_digits (j + k) n ≡ last_digits j before ++ last_digits k rest
  last_pieces j = ap (last_digits (j + k)) whole ∙ last-cut j k before rest small

-- ---- what is written of a number, one piece after the other

-- Its two digits.
pub pair_written : (o : List ℕ) (at n : ℕ) → n < 100 → at + 2 ≤ length o → Written o at (last_digits 2 n) (set (set o at (48 + n / 10)) (at + 1) (48 + n % 10)) (at + 2)
pair_written o at n h room = let e : at + 1 + 1 ≡ at + 2 = omega arith in rw (last_two n h) (rw e at (and_byte 0 (and_byte 1 (none_yet o at 2 room) (48 + n / 10)) (48 + n % 10)).written)

-- So many digits, and then as many.
module _ (k n : ℕ) {o p : List ℕ} {at a : ℕ} (room : at + (k + k) ≤ length o) (v : Written o at (last_digits k (before k n)) p a) where
  half_written : SoFar o at (last_digits k (before k n)) p a k
  half_written = and_text k k (none_yet o at (k + k) room) (omega (arith, last-length k (before k n))) v

  pub half_fits : a + k ≤ length p
  half_fits = room_left half_written

  pub halves_written : {q : List ℕ} {b : ℕ} → Written p a (last_digits k (rest k n)) q b → Written o at (last_digits (k + k) n) q b
  halves_written w = rw (last_pieces k n k) (then (omega arith) v w)

-- All digits but the last k, and then those.
pub shorter : (k n : ℕ) → 10 ^ k ≤ n → length (decimal n) ≡ length (decimal (before k n)) + k
shorter k n h = ap length (decimal_pieces k n h) ∙ length-append (decimal (before k n)) (last_digits k (rest k n)) ∙ ap (λ m. length (decimal (before k n)) + m) (last-length k (rest k n))

module _ (k n : ℕ) (h : 10 ^ k ≤ n) {o p : List ℕ} {at a : ℕ} (room : at + length (decimal n) ≤ length o) (v : Written o at (decimal (before k n)) p a) where
  begun : SoFar o at (decimal (before k n)) p a k
  begun = and_text (length (decimal (before k n))) k (none_yet o at (length (decimal (before k n)) + k) (omega (arith, shorter k n h))) (omega arith) v

  pub rest_fits : a + k ≤ length p
  rest_fits = room_left begun

  pub number_written : {q : List ℕ} {b : ℕ} → Written p a (last_digits k (rest k n)) q b → Written o at (decimal n) q b
  number_written w = rw (decimal_pieces k n h) (then (omega arith) v w)
