-- `comparison::distances::AcceptedWalk::to_nearest` meets its contract. The invariant: the least of the distances to the first k points is held.
use mathlib.Core.Path.{◌≡◌}
use mathlib.Core.List.{List, map}
use Prim.Native.Nat.{ℕ, ◌<◌, ◌≤◌}
use lib.IntN.{ℤ, pos}
use lib.ListN.{length, take}
use Rattle.outline.specs.declared.Position.{Position}
use Rattle.outline.specs.ListCall.{points as points_of}
use Rattle.two_walks.specs.Distances.{squared_distance, least_of}
use Rattle.comparison.proofs.distances.AcceptedWalk.to_nearest.Given as goal

-- Of the points qs, the first k are looked at.
pub record LookedAt (qs : List Position) (p : Position) (least : ℤ) (k : ℕ) : Type 0 where
  pub is : least ≡ pos (least_of (map (squared_distance p) (take k qs)))
  pub some : 0 < k
  pub most : k ≤ length qs

abbrev pub invariant-loop-k : goal.invariant-loop-k
invariant-loop-k l = LookedAt (points_of l.self.points.now) l.p l.least l.k
