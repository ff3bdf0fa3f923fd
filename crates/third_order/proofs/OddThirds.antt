-- The four edge terms change sign with their edge, so what holds of every such term holds of the four. c does, and a bracket stays as it is when its two ends change places.
use mathlib.Core.Path.{◌≡◌}
use mathlib.Core.List.{[], ◌∷◌}
use lib.IntN.{ℤ, ◌*ℤ◌}
use Rattle.integers.proofs.Ring.{ring, quote}
use Rattle.outline.specs.declared.Position.{Position}
use Rattle.outline.specs.EdgeSums.{Term, cross}
use Rattle.outline.specs.OddTerms.{Odd}
use Rattle.third_order.specs.declared.ThirdTotals.{ThirdTotals}
use Rattle.third_order.specs.ThirdTerms.{cubic, mixed, xxx20, xxy60, xyy60, yyy20, four}

cubic_symmetric : (x p : ℤ) → cubic p x ≡ cubic x p
cubic_symmetric x p = ring (x ∷ p ∷ []) (search quote depth 20) (search quote depth 20) tt

mixed_symmetric : (x y p q : ℤ) → mixed p q x y ≡ mixed x y p q
mixed_symmetric x y p q = ring (x ∷ y ∷ p ∷ q ∷ []) (search quote depth 20) (search quote depth 20) tt

bracket_odd : (bracket : Term) → ((a b : Position) → bracket b a ≡ bracket a b) → Odd (λ a b. cross a b *ℤ bracket a b)
bracket_odd bracket symmetric a b = rw (symmetric a b) (ring (a.x ∷ a.y ∷ b.x ∷ b.y ∷ bracket a b ∷ []) (search quote depth 20) (search quote depth 20) tt)

-- Four totals are equal where each is.
pub thirds_equal : {s t : ThirdTotals} → s.xxx20 ≡ t.xxx20 → s.xxy60 ≡ t.xxy60 → s.xyy60 ≡ t.xyy60 → s.yyy20 ≡ t.yyy20 → s ≡ t
thirds_equal a b c d = λ i. record { xxx20 = a i; xxy60 = b i; xyy60 = c i; yyy20 = d i }

pub for_four : (f g : Term → ℤ) → ((t : Term) → Odd t → f t ≡ g t) → four f ≡ four g
for_four f g h =
    thirds_equal
    (h xxx20 (bracket_odd (λ a b. cubic a.x b.x) (λ a b. cubic_symmetric a.x b.x)))
    (h xxy60 (bracket_odd (λ a b. mixed a.x a.y b.x b.y) (λ a b. mixed_symmetric a.x a.y b.x b.y)))
    (h xyy60 (bracket_odd (λ a b. mixed a.y a.x b.y b.x) (λ a b. mixed_symmetric a.y a.x b.y b.x)))
    (h yyy20 (bracket_odd (λ a b. cubic a.y b.y) (λ a b. cubic_symmetric a.y b.y)))
