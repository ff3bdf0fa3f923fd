-- Document 02, CR 5: what the distance from some points to others means, that no other number means it, and where it is 0.
use Prim.Native.Nat.{ℕ, ◌≤◌, ◌<◌}
use mathlib.Core.Path.{◌∙◌, subst}
use mathlib.Core.List.Memᴰ
use mathlib.Core.List.{List, Memᴰ}
use native.Mathlib.Nat.{le_antisymm}
use native.Mathlib.Omega.{arith}
use lib.ListN.{length}
use Rattle.outline.specs.declared.Position.{Position}
use Rattle.outline.proofs.Every.{All, all_member}
use Rattle.outline.proofs.Limits.{Inside}
use Rattle.two_walks.specs.Distances.{squared_distance, to_nearest, squared_hausdorff}
use Rattle.two_walks.specs.ComparisonLaws.{FarthestOff, DistanceMeans, ZeroDistance}
use Rattle.two_walks.proofs.Distances.{distance_itself, distance_zero, distance_size}
use Rattle.two_walks.proofs.Extremes.{Reached, least_at_most, least_reached, greatest_at_least, greatest_at_most, greatest_reached}

-- ---- the nearest point

nearest_at_most : (qs : List Position) (p q : Position) → Memᴰ q qs → to_nearest qs p ≤ squared_distance p q
unfolding to_nearest
nearest_at_most qs p = least_at_most (squared_distance p) qs

nearest-reached : (qs : List Position) (p : Position) → 0 < length qs → Reached (squared_distance p) qs (to_nearest qs p)
unfolding to_nearest
nearest-reached qs p = least_reached (squared_distance p) qs

-- ---- the meaning

means : (ps qs : List Position) → 0 < length ps → 0 < length qs → FarthestOff ps qs (squared_hausdorff ps qs)
unfolding squared_hausdorff
means ps qs some-ps some-qs =
    let far = greatest_reached (to_nearest qs) ps some-ps in
    let near = nearest-reached qs far.0 some-qs in
    record {
      farthest = far.0;
      is_point = far.1;
      nearest = near.0;
      is_other = near.1;
      apart = near.2 ∙ far.2;
      none_nearer = λ q m. omega (arith, far.2, nearest_at_most qs far.0 q m);
      all_within = λ p m. let r = nearest-reached qs p some-qs in (r.0, r.1, omega (arith, r.2, greatest_at_least (to_nearest qs) ps p m));
    }

-- The point that lies d off has, by e's meaning, a point no farther off than e: so d is at most e.
at_most_other : (ps qs : List Position) (d e : ℕ) → FarthestOff ps qs d → FarthestOff ps qs e → d ≤ e
at_most_other ps qs d e f g = let w = g.all_within f.farthest f.is_point in omega (arith, f.none_nearer w.0 w.1, w.2)

pub distance_means : DistanceMeans
distance_means ps some-ps qs some-qs d = (
  λ e. subst (FarthestOff ps qs) e m,
  λ f. le_antisymm (at_most_other ps qs (squared_hausdorff ps qs) d m f) (at_most_other ps qs d (squared_hausdorff ps qs) f m),
)
  where
    m : FarthestOff ps qs (squared_hausdorff ps qs)
    m = means ps qs some-ps some-qs

-- ---- distance 0

pub zero_distance : ZeroDistance
unfolding squared_hausdorff
zero_distance ps qs some-qs = (
  λ e p m. let r = nearest-reached qs p some-qs in Memᴰ.cast (distance_zero p r.0 (omega (arith, r.2, greatest_at_least (to_nearest qs) ps p m))) r.1,
  λ f. let most = greatest_at_most (to_nearest qs) ps 0 (λ p m. omega (arith, nearest_at_most qs p p (f p m), distance_itself p)) in omega arith,
)

-- ---- sizes

pub hausdorff_size : (ps qs : List Position) → All Inside ps → All Inside qs → 0 < length qs → squared_hausdorff ps qs ≤ 32_000_000
unfolding squared_hausdorff
hausdorff_size ps qs h k some-qs = greatest_at_most (to_nearest qs) ps 32_000_000 (λ p m.
    let r = nearest-reached qs p some-qs in
    omega (arith, r.2, distance_size p r.0 (all_member Inside ps h p m) (all_member Inside qs k r.0 r.1)))
