-- The six terms of the table change sign with their edge, so what holds of every such term holds of the six.
use mathlib.Core.Path.{◌≡◌}
use lib.IntN.{ℤ}
use Rattle.integers.proofs.Ring.{ring, quote}
use Rattle.outline.specs.EdgeSums.{Term, a2, x6, y6, xx12, xy24, yy12, six}
use Rattle.outline.specs.OddTerms.{Odd}
use Rattle.outline.proofs.EdgeSumLaws.{coordinates}

pub for_six : (f g : Term → ℤ) → ((t : Term) → Odd t → f t ≡ g t) → six f ≡ six g
for_six f g h =
    λ i. record {
      a2 = h a2 (λ a b. ring (coordinates a b) (search quote depth 12) (search quote depth 12) tt) i;
      x6 = h x6 (λ a b. ring (coordinates a b) (search quote depth 12) (search quote depth 12) tt) i;
      y6 = h y6 (λ a b. ring (coordinates a b) (search quote depth 12) (search quote depth 12) tt) i;
      xx12 = h xx12 (λ a b. ring (coordinates a b) (search quote depth 12) (search quote depth 12) tt) i;
      xy24 = h xy24 (λ a b. ring (coordinates a b) (search quote depth 12) (search quote depth 12) tt) i;
      yy12 = h yy12 (λ a b. ring (coordinates a b) (search quote depth 12) (search quote depth 12) tt) i;
    }
