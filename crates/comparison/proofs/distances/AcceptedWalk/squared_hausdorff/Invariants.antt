-- `comparison::distances::AcceptedWalk::squared_hausdorff` meets its contract. The invariant: the greatest of what the first k points have to the nearest is held.
use mathlib.Core.Path.{◌≡◌}
use mathlib.Core.List.{List, map}
use Prim.Native.Nat.{ℕ, ◌≤◌}
use lib.IntN.{ℤ, pos}
use lib.ListN.{length, take}
use Rattle.outline.specs.declared.Position.{Position}
use Rattle.outline.specs.ListCall.{points as points_of}
use Rattle.two_walks.specs.Distances.{greatest_of, to_nearest}
use Rattle.comparison.proofs.distances.AcceptedWalk.squared_hausdorff.Given as goal

-- Of the points ps, the first k are looked at.
pub record LookedAt (ps qs : List Position) (greatest : ℤ) (k : ℕ) : Type 0 where
  pub is : greatest ≡ pos (greatest_of (map (to_nearest qs) (take k ps)))
  pub most : k ≤ length ps

abbrev pub invariant-loop-k : goal.invariant-loop-k
invariant-loop-k l = LookedAt (points_of l.self.points.now) (points_of l.other.points.now) l.greatest l.k
