-- The steps of the code from a float's bits to a coordinate.
use Rattle.std.specs.Prelude.{ℕ, ◌+◌, ◌-◌, ◌/◌, ◌^◌, Bool, cond, ℤ, Float, Result, Ok, Err}
use Rattle.receiver.specs.Floats.{rounded}
use Rattle.receiver.specs.private.Signed.{signed}
use Rattle.outline.specs.EdgeSums.{over}
use Rattle.fixes.specs.declared.FixRefusal.{FixRefusal}
use Rattle.fixes.specs.declared.FixRefusal.TheVariants.{OutsideLimits}

-- The size of ± q / 2^d rounded: where the number is negative a half goes towards 0.
unfoldable pub rounded_size : Bool → ℕ → ℕ → ℕ
rounded_size negative q d = cond negative ((q + 2 ^ (d - 1) - 1) / 2 ^ d) ((q + 2 ^ (d - 1)) / 2 ^ d)

-- A whole number as a coordinate.
unfoldable pub coordinate_at : ℤ → Result ℤ FixRefusal
coordinate_at k = cond (over 2000 k) (Err OutsideLimits) (Ok k)

-- The same by its sign and its size.
unfoldable pub sized_coordinate : Bool → ℕ → Result ℤ FixRefusal
sized_coordinate negative n = coordinate_at (signed negative n)

-- A float that 33 takes as a coordinate.
unfoldable pub coordinate_of : Float → Result ℤ FixRefusal
coordinate_of x = coordinate_at (rounded x)
