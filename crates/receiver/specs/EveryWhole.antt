-- A receiver can record every point: each whole number that a coordinate may be is the exact value of a float, and that float rounds to it. proofs/EveryWhole has the proof.
use Rattle.std.specs.Prelude.{◌≤◌, ◌≡◌, true, false, ℤ, nat_abs, ◌*ℤ◌, Float}
use Rattle.std.specs.Float.{binary32}
use Rattle.std.specs.Float.Ieee.{fits, of_int}
use Rattle.receiver.specs.Floats.{not_finite, numerator, denominator, rounded}

-- What is claimed of a float x and a whole number z.
pub record IsFloatOf (x : Float) (z : ℤ) : Type 0 where
  -- A float of 32 bits holds x.
  pub held : fits binary32 x ≡ true
  -- 33 does not refuse it.
  pub finite : not_finite x ≡ false
  -- Its exact value is z,
  pub exact : numerator x ≡ z *ℤ denominator x
  -- and so it rounds to z.
  pub rounds : rounded x ≡ z

abbrev pub EveryWhole : Type 0
EveryWhole =
    -- For every whole number
    (z : ℤ)
    -- from -2,000 to 2,000:
    → nat_abs z ≤ 2000
    -- the float that the kit converts it to (lib.Ieee) is as claimed.
    → IsFloatOf (of_int binary32 z) z
