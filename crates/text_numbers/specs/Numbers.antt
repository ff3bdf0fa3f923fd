-- Document 01, "The text program": the numbers of a line. A number is a list of bytes.
use Rattle.std.specs.Prelude.{ℕ, ◌+◌, ◌-◌, ◌*◌, Bool, true, false, not, ◌&&◌, cond, List, [], ◌∷◌, leb, eqb, length, ℤ, pos, neg_ℤ}

-- The bytes 0 to 9.
abbrev pub is_digit : ℕ → Bool
is_digit b = leb 48 b && leb b 57

unfoldable pub all_digits : List ℕ → Bool
all_digits [] = true
all_digits (b ∷ bs) = is_digit b && all_digits bs

-- The value of digits, after digits of the value v.
unfoldable pub value_from : ℕ → List ℕ → ℕ
value_from v [] = v
value_from v (b ∷ bs) = value_from (v * 10 + (b - 48)) bs

-- A zero with a byte behind it.
unfoldable pub leading_zero : List ℕ → Bool
leading_zero [] = false
leading_zero (b ∷ []) = false
leading_zero (b ∷ c ∷ bs) = eqb b 48

-- One to four digits, with no leading zero but 0 itself.
unfoldable pub is_natural : List ℕ → Bool
is_natural bs = all_digits bs && leb 1 (length bs) && leb (length bs) 4 && not (leading_zero bs)

pub data Number : Type 0 where
  number : ℤ → Number
  malformed : Number

-- An optional minus and a natural; there is no -0.
unfoldable pub negative_of : List ℕ → Number
negative_of bs = cond (is_natural bs && not (eqb (value_from 0 bs) 0)) (number (neg_ℤ (pos (value_from 0 bs)))) malformed

unfoldable pub natural_of : List ℕ → Number
natural_of bs = cond (is_natural bs) (number (pos (value_from 0 bs))) malformed

unfoldable pub number_of : List ℕ → Number
number_of [] = malformed
number_of (b ∷ bs) = cond (eqb b 45) (negative_of bs) (natural_of (b ∷ bs))
