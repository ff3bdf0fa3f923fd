-- A list that the call accepts, and sums over its first edges.
use mathlib.Core.Path.{◌≡◌}
use mathlib.Core.Bool.{false}
use mathlib.Core.List.{List}
use Prim.Native.Nat.{ℕ, ◌≤◌}
use native.Mathlib.Omega.{arith}
use lib.ListN.{length, take}
use lib.IntN.{ℤ}
use Rattle.outline.specs.declared.Totals.{Totals}
use Rattle.outline.specs.EdgeSums.{open_edges, totals_over, outline_totals, exceed}
use Rattle.outline.specs.ListCall.{points, wrong_length, any_outside, list_call}
use Rattle.outline.specs.MapCall.{total_limits}
use Rattle.outline.proofs.Limits.{OutlineList, accepts_only_outlines, first_fit}
use Rattle.outline_calls.proofs.Sizes.{share_within}

pub outline-list : (zs : List ℤ) → wrong_length zs ≡ false → any_outside (points zs) ≡ false → OutlineList zs
unfolding list_call
outline-list zs e f = (accepts_only_outlines zs (outline_totals (points zs)) (rw (e, f))).0

-- The sum of the first edges can be added to.
pub sum_within : (zs : List ℤ) (k : ℕ) {t : Totals} → OutlineList zs → k ≤ length (points zs) → t ≡ totals_over (open_edges (take k (points zs))) → exceed total_limits t ≡ false
sum_within zs k {t} o h e = let few = o.outline.few in rw e (share_within k (totals_over (open_edges (take k (points zs)))) (omega arith) (first_fit k (points zs) h o.outline.inside))
