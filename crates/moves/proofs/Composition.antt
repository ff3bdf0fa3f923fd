-- Document 02, CR 7: the composition moves every point as the first map and then the second do, and no other map does; and its six formulas are those of the first and
-- then of the second.
use mathlib.Core.Path.{◌≡◌, refl, sym, ◌∙◌, ap}
use mathlib.Core.List.{List, [], ◌∷◌, ◌++◌}
use lib.IntN.{ℤ, pos, negsuc, ◌+ℤ◌, ◌*ℤ◌}
use Rattle.integers.proofs.Laws.{mul_assoc}
use Rattle.integers.proofs.Ring.{ring, quote, given}
use Rattle.outline.specs.declared.Position.{Position}
use Rattle.outline.specs.declared.Totals.{Totals}
use Rattle.outline.specs.declared.AffineMap.{AffineMap}
use Rattle.outline.specs.MapCall.{move_point, determinant, first_moment, second_moment, brackets, scaled}
use Rattle.outline.proofs.TotalsLaws.{totals_equal}
use Rattle.moves.specs.Composition.{composed}
use Rattle.moves.specs.MovedTwice.{CompositionMeans, FormulasTwice}

-- The six numbers of a map.
abbrev numbers_of : AffineMap → List ℤ
numbers_of m = m.a ∷ m.b ∷ m.g ∷ m.h ∷ m.e ∷ m.f ∷ []

-- ---- points

composed-point : (first second : AffineMap) (p : Position) → move_point (composed first second) p ≡ move_point second (move_point first p)
composed-point first second p = λ i. record { x = east i; y = north i }
  where
    east : (move_point (composed first second) p).x ≡ (move_point second (move_point first p)).x
    east = ring (p.x ∷ p.y ∷ numbers_of first ++ numbers_of second) (search quote depth 60 fits 20000) (search quote depth 60 fits 20000) tt

    north : (move_point (composed first second) p).y ≡ (move_point second (move_point first p)).y
    north = ring (p.x ∷ p.y ∷ numbers_of first ++ numbers_of second) (search quote depth 60 fits 20000) (search quote depth 60 fits 20000) tt

-- The three numbers of a row are told by what it makes of (0, 0), (1, 0) and (0, 1).
record SameRow (a b e a' b' e' : ℤ) : Type 0 where
  same_a : a ≡ a'
  same_b : b ≡ b'
  same_e : e ≡ e'

same_row : (a b e a' b' e' : ℤ) → ((x y : ℤ) → a *ℤ x +ℤ b *ℤ y +ℤ e ≡ a' *ℤ x +ℤ b' *ℤ y +ℤ e') → SameRow a b e a' b' e'
same_row a b e a' b' e' h =
    let at-origin : e ≡ e' = given (pos 1) (h (pos 0) (pos 0)) (ring (a ∷ b ∷ e ∷ a' ∷ b' ∷ e' ∷ []) (search quote depth 20) (search quote depth 20) tt) in
    record {
      same_a = given (pos 1) (h (pos 1) (pos 0)) (given (negsuc 0) at-origin (ring (a ∷ b ∷ e ∷ a' ∷ b' ∷ e' ∷ []) (search quote depth 20) (search quote depth 20) tt));
      same_b = given (pos 1) (h (pos 0) (pos 1)) (given (negsuc 0) at-origin (ring (a ∷ b ∷ e ∷ a' ∷ b' ∷ e' ∷ []) (search quote depth 20) (search quote depth 20) tt));
      same_e = at-origin;
    }

-- Two maps that move every point alike are one map.
same_map : (m n : AffineMap) → ((p : Position) → move_point m p ≡ move_point n p) → m ≡ n
same_map m n h =
    let u = same_row m.a m.b m.e n.a n.b n.e (λ x y. ap (λ q. q.x) (h (record { x = x; y = y }))) in
    let v = same_row m.g m.h m.f n.g n.h n.f (λ x y. ap (λ q. q.y) (h (record { x = x; y = y }))) in
    λ i. record { a = u.same_a i; b = u.same_b i; g = v.same_a i; h = v.same_b i; e = u.same_e i; f = v.same_e i }

pub composition_means : CompositionMeans
composition_means first second m = (λ e p. ap (λ n. move_point n p) e ∙ composed-point first second p, λ h. same_map m (composed first second) (λ p. h p ∙ sym (composed-point first second p)))

-- ---- the six formulas

determinants : (first second : AffineMap) → determinant second *ℤ determinant first ≡ determinant (composed first second)
determinants first second = ring (numbers_of first ++ numbers_of second) (search quote depth 60 fits 20000) (search quote depth 60 fits 20000) tt

-- Any number times the first map's brackets, put into the second's.
module _ (first : AffineMap) (d : ℤ) (t : Totals) where
  abbrev numbers : List ℤ
  numbers = t.a2 ∷ t.x6 ∷ t.y6 ∷ t.xx12 ∷ t.xy24 ∷ t.yy12 ∷ d ∷ numbers_of first

  -- What a row of the second map, with a, b, e, makes of them.
  module _ (a b e : ℤ) where
    first_moment_lem : first_moment a b e (scaled d (brackets first t)) ≡ d *ℤ first_moment (a *ℤ first.a +ℤ b *ℤ first.g) (a *ℤ first.b +ℤ b *ℤ first.h) (a *ℤ first.e +ℤ b *ℤ first.f +ℤ e) t
    first_moment_lem = ring (numbers ++ a ∷ b ∷ e ∷ []) (search quote depth 60 fits 20000) (search quote depth 60 fits 20000) tt

    second_moment_lem : second_moment a b e (scaled d (brackets first t)) ≡ d *ℤ second_moment (a *ℤ first.a +ℤ b *ℤ first.g) (a *ℤ first.b +ℤ b *ℤ first.h) (a *ℤ first.e +ℤ b *ℤ first.f +ℤ e) t
    second_moment_lem = ring (numbers ++ a ∷ b ∷ e ∷ []) (search quote depth 60 fits 20000) (search quote depth 60 fits 20000) tt

  composed-brackets : (second : AffineMap) → brackets second (scaled d (brackets first t)) ≡ scaled d (brackets (composed first second) t)
  composed-brackets second =
      totals_equal
      refl
      (first_moment_lem second.a second.b second.e)
      (first_moment_lem second.g second.h second.f)
      (second_moment_lem second.a second.b second.e)
      (ring (numbers ++ numbers_of second) (search quote depth 60 fits 20000) (search quote depth 60 fits 20000) tt)
      (second_moment_lem second.g second.h second.f)

scaled_twice : (c d : ℤ) (t : Totals) → scaled c (scaled d t) ≡ scaled (c *ℤ d) t
scaled_twice c d t = simp mul_assoc

pub formulas_twice : FormulasTwice
formulas_twice first second t =
    let d = determinant first in
    let both = brackets (composed first second) t in
    ap (scaled (determinant second)) (composed-brackets first d t second)
    ∙ scaled_twice (determinant second) d both
    ∙ ap (λ k. scaled k both) (determinants first second)
