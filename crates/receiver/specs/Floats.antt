-- Document 02, CR 9: a float's exact value rounded to a whole number, and the refusals 33 and 34 of one float. A float is the kit's (lib.Ieee): not a number, an infinity, or
-- `fin s m e`, the number m × 2^e, negative where s is true; so minus zero is `fin true 0 (pos 0)`.
use Rattle.std.specs.Prelude.{◌*◌, Bool, true, false, cond, ℤ, pos, neg_ℤ, Float}
use Rattle.std.specs.Float.{nan, inf, fin}
use Rattle.std.specs.Float.Ieee.{up, down, lt}
use Rattle.integers.specs.Rounding.{round_half_up}

-- Refusal 33: infinite, or not a number.
unfoldable pub not_finite : Float → Bool
not_finite nan = true
not_finite (inf s) = true
not_finite (fin s m e) = false

-- The exact value as a fraction: 2^e is up e / down e. What is not finite has no value, and stands as 0 / 1.
abbrev pub numerator : Float → ℤ
numerator nan = pos 0
numerator (inf s) = pos 0
numerator (fin s m e) = cond s (neg_ℤ (pos (m * up e))) (pos (m * up e))

abbrev pub denominator : Float → ℤ
denominator nan = pos 1
denominator (inf s) = pos 1
denominator (fin s m e) = pos (down e)

-- The exact value rounded to a whole number, halves up, as a centre is.
unfoldable pub rounded : Float → ℤ
rounded x = round_half_up (numerator x) (denominator x)

-- Plus zero: the longest outage of a walk just begun, or closed.
abbrev pub plus_zero : Float
plus_zero = fin false 0 (pos 0)

-- Refusal 34: below zero. Minus zero is not.
unfoldable pub below_zero : Float → Bool
below_zero x = lt x plus_zero
