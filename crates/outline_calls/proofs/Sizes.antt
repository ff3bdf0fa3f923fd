-- Totals that are small enough to be added.
use mathlib.Core.Path.{◌≡◌}
use mathlib.Core.Bool.{false}
use Prim.Native.Nat.{ℕ, ◌≤◌}
use native.Mathlib.Omega.{arith}
use Rattle.outline.specs.declared.Position.{Position}
use Rattle.outline.specs.declared.Totals.{Totals}
use Rattle.outline.specs.EdgeSums.{exceed}
use Rattle.outline.specs.ListCall.{outside}
use Rattle.outline.specs.MapCall.{total_limits}
use Rattle.outline.specs.WalkCalls.{edge_totals, share}
use Rattle.outline.specs.private.Fit.{Fit}
use Rattle.outline.proofs.Limits.{beyond_not, fit_exceed, six_fit}

-- What 1,025 edges add at most is within the limits of a sheet's total.
pub share_within : (n : ℕ) (t : Totals) → n ≤ 1025 → Fit (share n) t → exceed total_limits t ≡ false
share_within n t h f = fit_exceed total_limits t (record { a2 = omega arith; x6 = omega arith; y6 = omega arith; xx12 = omega arith; xy24 = omega arith; yy12 = omega arith })

pub edge_fit : (a b : Position) → outside a ≡ false → outside b ≡ false → Fit (share 1) (edge_totals a b)
edge_fit a b e f = six_fit 1 (λ t. t a b) (λ t K s. omega (arith, s a b (beyond_not a e) (beyond_not b f)))

pub edge_within : (a b : Position) → outside a ≡ false → outside b ≡ false → exceed total_limits (edge_totals a b) ≡ false
edge_within a b e f = share_within 1 (edge_totals a b) (omega arith) (edge_fit a b e f)
