-- `column_sums::index_sum` meets its contract: every step fits, and the division by 2 leaves no remainder.
use Prim.Native.Nat.{ℕ, ◌*◌, ◌-◌, ◌/◌, ◌≤◌, ◌^◌}
use native.Mathlib.Omega.{arith}
use Rattle.column_sums.proofs.ClosedFormula.{index-closed, square-below, cast_is}
use Rattle.column_sums.proofs.index_sum.Goals.{Start}
use Rattle.column_sums.proofs.index_sum.Goals as goal

module _ (c : Start) where
  abbrev k : ℕ
  k = c.args.k

  square_small : k * k ≤ 2 ^ 32
  square_small = square-below (omega (arith, c.ranges.k))

pub returns : goal.returns
returns c = cast_is {n = (k c * k c - k c) / 2} (omega (arith, square_small c)) (omega (arith, index-closed (k c)))
