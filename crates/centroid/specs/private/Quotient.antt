-- What the private functions of a quotient rely on.
use Rattle.std.specs.Prelude.{◌≤◌, ◌*◌, ℤ, pos, nat_abs, ◌<ℤ◌}
use Rattle.outline.specs.MapCall.{total_limit}

-- Of N and D: sizes at which 2×N + D and 2×D fit 64 bits, and a D above 0.
-- All totals that 11 and 27 do not refuse meet it (proofs/Limits).
pub record QuotientBounds (n d : ℤ) : Type 0 where
  pub dividend : nat_abs n ≤ total_limit
  pub divisor : nat_abs d ≤ 3 * total_limit
  pub above : pos 0 <ℤ d
