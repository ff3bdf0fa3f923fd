-- Floats by their bits, for the program that tells entries of a receiver by them.
use Rattle.std.specs.Prelude.{ℕ, ◌%◌, cond, ltb, Float}
use Rattle.std.specs.Float.{binary32}
use Rattle.std.specs.Float.Ieee.{is_nan, of_bits, to_bits}
use Rattle.receiver.specs.Floats.{plus_zero}
use Rattle.receiver.specs.declared.Fix.{Fix}

-- The float with these bits. Those past infinity's, but for the sign, are of what is not a number, and stand for zero.
unfoldable pub float_of : ℕ → Float
float_of bits = cond (ltb 0x7F800000 (bits % 0x80000000)) plus_zero (of_bits binary32 bits)

-- The bits of a float; one pattern for what is not a number.
unfoldable pub bits_of : Float → ℕ
bits_of f = cond (is_nan f) 0x7FC00000 (to_bits binary32 f)

-- The fix with the bits of its east and of its north.
abbrev pub fix_of : ℕ → ℕ → Fix
fix_of east north = record { east = float_of east; north = float_of north }
