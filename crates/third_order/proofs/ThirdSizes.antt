-- Document 02, CR 10: how large the four totals get: specs/ThirdLaws.
use mathlib.Core.Path.{◌≡◌, refl}
use mathlib.Core.Bool.{Bool, true, false, cond}
use mathlib.Core.List.{List}
use Prim.Native.Nat.{ℕ, ◌*◌, ◌≤◌}
use native.Mathlib.Omega.{arith}
use lib.IntN.{ℤ, nat_abs}
use lib.ListN.{length, take}
use lib.Seq.{length-take-le}
use Rattle.integers.proofs.Ring.{quote}
use Rattle.outline.specs.declared.Position.{Position}
use Rattle.outline.specs.EdgeSums.{Term, edges, sum_over}
use Rattle.outline.specs.ListCall.{points, any_beyond, any_outside, wrong_length}
use Rattle.outline.proofs.Every.{all_take}
use Rattle.outline.proofs.EdgeSumLaws.{path}
use Rattle.outline.proofs.Limits.{InsideOf, SmallWithin, small, open_small, around_small}
use Rattle.third_order.specs.ThirdTerms.{xxx20, xxy60, xyy60, yyy20, four, third_totals, no_thirds}
use Rattle.third_order.specs.ThirdCall.{accepted_thirds, refused_thirds, third_limit, third_call}
use Rattle.third_order.specs.ThirdLaws.{SmallThirds, ThirdSizes}
use Rattle.third_order.proofs.Accepted.{SmallOutline, accepts_only_small}

-- What each term of an edge adds at most.
four_small : (n : ℕ) (f : Term → ℤ) → n ≤ 1024 → ((t : Term) (K : ℕ) → SmallWithin third_limit t K → nat_abs (f t) ≤ n * K) → SmallThirds (four f)
four_small n f few s =
    record {
      xxx20 = omega (arith, few, s xxx20 250_000_000_000_000 (λ a b h k. small xxx20 a b h k (search quote depth 20) tt));
      xxy60 = omega (arith, few, s xxy60 750_000_000_000_000 (λ a b h k. small xxy60 a b h k (search quote depth 20) tt));
      xyy60 = omega (arith, few, s xyy60 750_000_000_000_000 (λ a b h k. small xyy60 a b h k (search quote depth 20) tt));
      yyy20 = omega (arith, few, s yyy20 250_000_000_000_000 (λ a b h k. small yyy20 a b h k (search quote depth 20) tt));
    }

-- The open edges of the first k points, as a loop has them.
pub small_open : (ps : List Position) (k : ℕ) → SmallOutline ps → k ≤ length ps → SmallThirds (four (λ t. path t (take k ps)))
small_open ps k o h = four_small k (λ t. path t (take k ps)) (omega (arith, h, o.few)) (λ t K s. rw (length-take-le k ps h) at (open_small (take k ps) (all_take (InsideOf third_limit) k ps o.inside) t K s))

small_sums : (ps : List Position) → SmallOutline ps → SmallThirds (third_totals ps)
small_sums ps o = four_small (length ps) (λ t. sum_over t (edges ps)) o.few (around_small ps o.inside)

zeros_small : SmallThirds no_thirds
zeros_small = omega arith

pub third_sizes : ThirdSizes
unfolding third_call
third_sizes zs = go (wrong_length zs) (any_outside (points zs)) (any_beyond third_limit (points zs)) refl refl refl
  where
    go : (a b c : Bool) → wrong_length zs ≡ a → any_outside (points zs) ≡ b → any_beyond third_limit (points zs) ≡ c → SmallThirds (cond a (refused_thirds 2) (cond b (refused_thirds 1) (cond c (refused_thirds 35) (accepted_thirds (third_totals (points zs)))))).totals
    go true b c f g h = zeros_small
    go false true c f g h = zeros_small
    go false false true f g h = zeros_small
    go false false false f g h = small_sums (points zs) (accepts_only_small zs (third_totals (points zs)) (rw (f, g, h))).0
