-- The bounds that the private functions rely on, once 3 has been excluded.
use Rattle.std.specs.Prelude.{ℕ, ◌≤◌, ℤ, nat_abs}
use Rattle.outline.specs.declared.AffineMap.{AffineMap}
use Rattle.outline.specs.MapCall.{coefficient_limit, shift_limit}

-- z is at most n in size.
pub record AtMost (n : ℕ) (z : ℤ) : Type 0 where
  pub size : nat_abs z ≤ n

-- The two coefficients and the shift of one coordinate are within the limits of 3.
pub record RowWithin (a b e : ℤ) : Type 0 where
  pub first : nat_abs a ≤ coefficient_limit
  pub second : nat_abs b ≤ coefficient_limit
  pub shift : nat_abs e ≤ shift_limit

pub record MapWithin (m : AffineMap) : Type 0 where
  pub u : RowWithin m.a m.b m.e
  pub v : RowWithin m.g m.h m.f
