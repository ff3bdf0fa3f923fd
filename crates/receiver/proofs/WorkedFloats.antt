-- Floats by their bits, computed from the definitions: what each rounds to, on both sides of the halves and of the limits of a coordinate; and which ones 33 and 34 refuse.
use Prim.Native.Nat.{ℕ, ◌-◌, ◌*◌, ◌^◌}
use mathlib.Core.Path.{◌≡◌, refl, sym}
use mathlib.Core.Bool.{true, false}
use mathlib.Core.List.{[], ◌∷◌, map}
use lib.Count.{count_trailing_zeros}
use lib.IntN.{ℤ, pos, negsuc}
use lib.Ieee.{Float, binary32, of_bits, of_fields, odd, lt, add, sum, round, size, span, climb, units}
use Rattle.integers.specs.Rounding.{rounds_to}
use Rattle.receiver.specs.Floats.{not_finite, numerator, denominator, rounded, below_zero}
use Rattle.receiver.proofs.RoundedLaws.{rounded-only}

abbrev pub float : ℕ → Float
float bits = of_bits binary32 bits

-- The bits are those of a finite float that rounds to k.
pub record Rounds (bits : ℕ) (k : ℤ) : Type 0 where
  pub finite : not_finite (float bits) ≡ false
  pub rounds : rounded (float bits) ≡ k

-- The search behind `rounded` is too long to compute. A row computes the rule of rounding instead, which holds of one number only.
row : {bits : ℕ} {k : ℤ} → not_finite (float bits) ≡ false → rounds_to (numerator (float bits)) (denominator (float bits)) k ≡ true → Rounds bits k
row {bits} {k} f e = record { finite = f; rounds = sym (rounded-only (float bits) k e) }

-- ---- at the limits of a coordinate

pub record AtLimits : Type 0 where
  -- -2000.5, a half, goes up to the limit
  pub low_half : Rounds 0xC4FA1000 (negsuc 1999)
  -- -2000.50012 is the next below
  pub below_low_half : Rounds 0xC4FA1001 (negsuc 2000)
  -- 2000.5 goes up and past the limit
  pub high_half : Rounds 0x44FA1000 (pos 2001)
  -- 2000.49988 is the next below
  pub below_high_half : Rounds 0x44FA0FFF (pos 2000)
  -- 2000
  pub highest : Rounds 0x44FA0000 (pos 2000)
  -- -2000
  pub lowest : Rounds 0xC4FA0000 (negsuc 1999)
  -- 2000.25
  pub above_highest : Rounds 0x44FA0800 (pos 2000)
  -- -2001
  pub past_lowest : Rounds 0xC4FA2000 (negsuc 2000)

pub at_limits : AtLimits
unfolding not_finite rounds_to of_bits of_fields odd count_trailing_zeros
at_limits = record {
  low_half = row refl refl;
  below_low_half = row refl refl;
  high_half = row refl refl;
  below_high_half = row refl refl;
  highest = row refl refl;
  lowest = row refl refl;
  above_highest = row refl refl;
  past_lowest = row refl refl;
}

-- ---- about zero

pub record AboutZero : Type 0 where
  pub plus_zero_lem : Rounds 0x00000000 (pos 0)
  pub minus_zero : Rounds 0x80000000 (pos 0)
  -- -2^-149, the number next to zero from below
  pub just_below_zero : Rounds 0x80000001 (pos 0)
  -- 0.5
  pub half : Rounds 0x3F000000 (pos 1)
  -- 0.49999997
  pub below_half : Rounds 0x3EFFFFFF (pos 0)
  -- -0.5
  pub minus_half : Rounds 0xBF000000 (pos 0)
  -- -0.50000006
  pub below_minus_half : Rounds 0xBF000001 (negsuc 0)
  -- -1.5
  pub minus_one_and_a_half : Rounds 0xBFC00000 (negsuc 0)

pub about_zero : AboutZero
unfolding not_finite rounds_to of_bits of_fields odd count_trailing_zeros
about_zero = record {
  plus_zero_lem = row refl refl;
  minus_zero = row refl refl;
  just_below_zero = row refl refl;
  half = row refl refl;
  below_half = row refl refl;
  minus_half = row refl refl;
  below_minus_half = row refl refl;
  minus_one_and_a_half = row refl refl;
}

-- As a sum of floats, 0.49999997 and 0.5 make 1: rounding by such a sum would give 1 where 0 is right.
wrong_by_a_float_sum : add binary32 (float 0x3EFFFFFF) (float 0x3F000000) ≡ float 0x3F800000
unfolding add sum round size span climb units of_bits of_fields odd count_trailing_zeros
wrong_by_a_float_sum = refl

-- ---- the ends: the greatest float, about 3.4 × 10^38, has a whole value and rounds to it; past it are infinity, and what is no number

pub record GreatestFloat : Type 0 where
  pub value : numerator (float 0x7F7FFFFF) ≡ pos ((2 ^ 24 - 1) * 2 ^ 104)
  pub whole : denominator (float 0x7F7FFFFF) ≡ pos 1
  pub itself : Rounds 0x7F7FFFFF (pos ((2 ^ 24 - 1) * 2 ^ 104))

pub greatest : GreatestFloat
unfolding not_finite rounds_to of_bits of_fields odd count_trailing_zeros
greatest = record { value = refl; whole = refl; itself = row refl refl }

-- plus infinity, minus infinity, not a number, and another of its patterns, with a sign
refused_33 : map (λ bits. not_finite (float bits)) (0x7F800000 ∷ 0xFF800000 ∷ 0x7FC00000 ∷ 0xFF800001 ∷ []) ≡ true ∷ true ∷ true ∷ true ∷ []
unfolding not_finite of_bits of_fields
refused_33 = refl

-- ---- 34: minus zero and plus zero are not below zero, nor is what is no number

record BelowZero : Type 0 where
  plus_zero_lem : below_zero (float 0x00000000) ≡ false
  minus_zero : below_zero (float 0x80000000) ≡ false
  -- 2^-149 and its negative
  just_above : below_zero (float 0x00000001) ≡ false
  just_below : below_zero (float 0x80000001) ≡ true
  minus_infinity : below_zero (float 0xFF800000) ≡ true
  plus_infinity : below_zero (float 0x7F800000) ≡ false
  no_number : below_zero (float 0x7FC00000) ≡ false

refused_34 : BelowZero
unfolding below_zero lt of_bits of_fields odd count_trailing_zeros
refused_34 = record { plus_zero_lem = refl; minus_zero = refl; just_above = refl; just_below = refl; minus_infinity = refl; plus_infinity = refl; no_number = refl }
