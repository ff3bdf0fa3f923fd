-- Document 01, "Maps" and "Cuts, starts and moves": the totals of the moved points are the map's formulas of the totals, whatever the map. On one edge the
-- two differ by what the term from a moved end to the image of (0, 0) loses along it, and around an outline that cancels.
use mathlib.Core.Path.{◌≡◌, refl, sym, ◌∙◌, ap}
use mathlib.Core.Bool.{false}
use mathlib.Core.List.{List, [], ◌∷◌}
use lib.ListN.{length-map}
use lib.IntN.{ℤ, pos, negsuc, ◌+ℤ◌, ◌-ℤ◌, ◌*ℤ◌}
use Rattle.integers.proofs.Laws.{mul_add, sums}
use Rattle.integers.proofs.Ring.{Quote, ring, quote, given}
use Rattle.outline.specs.declared.Position.{Position}
use Rattle.outline.specs.declared.Totals.{Totals}
use Rattle.outline.specs.declared.AffineMap.{AffineMap}
use Rattle.outline.specs.EdgeSums.{Term, cross, a2, x6, y6, xx12, xy24, yy12, Edge, edges, sum_over, totals_over, outline_totals, zeros, plus, outline_bounds}
use Rattle.outline.specs.ListCall.{accepted, any_outside}
use Rattle.outline.specs.MapCall.{move_point, moved, disallowed, determinant, mapped, total_limits, map_call}
use Rattle.outline.specs.WalkCalls.{edge_totals}
use Rattle.outline.proofs.Every.{all_map, map_all}
use Rattle.outline.proofs.EdgeSumLaws.{around, around_map, around_potential}
use Rattle.outline.proofs.TotalsLaws.{totals_equal}
use Rattle.outline.proofs.Limits.{Inside, all_inside, OutlineIn, Outline, fit_exceed, limits_fit, outline_fit}

-- ---- the formulas are linear

-- c is a + b because it is made of sums as a and b are made of their parts.
data Split : ℤ → ℤ → ℤ → Type 0 where
  part : {a b : ℤ} → Split (a +ℤ b) a b
  scaled : (k : ℤ) {a b c : ℤ} → Split c a b → Split (k *ℤ c) (k *ℤ a) (k *ℤ b)
  added : {a b c p q r : ℤ} → Split c a b → Split r p q → Split (c +ℤ r) (a +ℤ p) (b +ℤ q)

split : {a b c : ℤ} → Split c a b → c ≡ a +ℤ b
split part = refl
split (scaled k {a} {b} s) = rw (split s) (mul_add k a b)
split (added s r) = rw (split s, split r) (simp sums)

ruleset linear = (part, scaled, added)

-- A number got from six totals that adds up as they do: summed edge by edge it is the number got from the sums.
module _ (f : Totals → ℤ) (h : (s t : Totals) → Split (f (plus s t)) (f s) (f t)) where
  none : f zeros ≡ pos 0
  none = given {u = f zeros} {v = f zeros +ℤ f zeros} (negsuc 0) (split (h zeros zeros)) (ring (f zeros ∷ []) (search quote depth 20) (search quote depth 20) tt)

  edge_by_edge : (es : List Edge) → sum_over (λ a b. f (edge_totals a b)) es ≡ f (totals_over es)
  unfolding sum_over
  edge_by_edge [] = sym none
  edge_by_edge (e ∷ es) = ap (λ z. f (edge_totals e.start e.end) +ℤ z) (edge_by_edge es) ∙ sym (split (h (edge_totals e.start e.end) (totals_over es)))

module _ (m : AffineMap) where
  -- Where the map puts (0, 0).
  abbrev image : Position
  image = record { x = m.e; y = m.f }

  one_total : (t : Term) (row : Totals → ℤ) → ((s u : Totals) → Split (row (mapped m (plus s u))) (row (mapped m s)) (row (mapped m u))) → ((p q : Position) → t (move_point m p) (move_point m q) ≡ row (mapped m (edge_totals p q)) +ℤ (t (move_point m p) image -ℤ t (move_point m q) image)) → (ps : List Position) → around t (moved m ps) ≡ row (mapped m (outline_totals ps))
  one_total t row h e ps =
      around_map t (move_point m) ps
      ∙ around_potential (λ p q. t (move_point m p) (move_point m q)) (λ p q. row (mapped m (edge_totals p q))) (λ p. t (move_point m p) image) e ps
      ∙ edge_by_edge (λ s. row (mapped m s)) h (edges ps)

  abbrev numbers_of : Position → Position → List ℤ
  numbers_of p q = m.a ∷ m.b ∷ m.g ∷ m.h ∷ m.e ∷ m.f ∷ p.x ∷ p.y ∷ q.x ∷ q.y ∷ []

  -- How the coordinates of a moved edge are made of these, found once.
  module _ (p q : Position) where
    unfoldable start-x : Quote (numbers_of p q) (move_point m p).x
    start-x = search quote depth 30

    unfoldable start-y : Quote (numbers_of p q) (move_point m p).y
    start-y = search quote depth 30

    unfoldable end-x : Quote (numbers_of p q) (move_point m q).x
    end-x = search quote depth 30

    unfoldable end-y : Quote (numbers_of p q) (move_point m q).y
    end-y = search quote depth 30

    unfoldable by_cross : Quote (numbers_of p q) (cross p q)
    by_cross = search quote depth 30

    unfoldable by_determinant : Quote (numbers_of p q) (determinant m)
    by_determinant = search quote depth 30

  ruleset moving = (start-x, start-y, end-x, end-y, by_cross, by_determinant, quote)

  pub map_law : (ps : List Position) → outline_totals (moved m ps) ≡ mapped m (outline_totals ps)
  unfolding start-x start-y end-x end-y by_cross by_determinant
  map_law ps =
      totals_equal
      (one_total a2 (λ s. s.a2) (λ s u. search linear depth 20) (λ p q. ring (numbers_of p q) (search moving depth 60 fits 20000) (search moving depth 60 fits 20000) tt) ps)
      (one_total x6 (λ s. s.x6) (λ s u. search linear depth 20) (λ p q. ring (numbers_of p q) (search moving depth 60 fits 20000) (search moving depth 60 fits 20000) tt) ps)
      (one_total y6 (λ s. s.y6) (λ s u. search linear depth 20) (λ p q. ring (numbers_of p q) (search moving depth 60 fits 20000) (search moving depth 60 fits 20000) tt) ps)
      (one_total xx12 (λ s. s.xx12) (λ s u. search linear depth 20) (λ p q. ring (numbers_of p q) (search moving depth 60 fits 20000) (search moving depth 60 fits 20000) tt) ps)
      (one_total xy24 (λ s. s.xy24) (λ s u. search linear depth 20) (λ p q. ring (numbers_of p q) (search moving depth 60 fits 20000) (search moving depth 60 fits 20000) tt) ps)
      (one_total yy12 (λ s. s.yy12) (λ s u. search linear depth 20) (λ p q. ring (numbers_of p q) (search moving depth 60 fits 20000) (search moving depth 60 fits 20000) tt) ps)

  -- ---- the map call

  -- The map keeps the point within the limits.
  abbrev pub Stays : Position → Type 0
  Stays p = Inside (move_point m p)

  pub all_stay : (ps : List Position) → Outline ps → any_outside (moved m ps) ≡ false → OutlineIn Stays ps
  all_stay ps o h = record { enough = o.enough; few = o.few; inside = map_all Inside (move_point m) ps (all_inside 2000 (moved m ps) h) }

  pub moved-outline : (ps : List Position) → OutlineIn Stays ps → Outline (moved m ps)
  moved-outline ps o = record { enough = rw (length-map ps (move_point m)) o.enough; few = rw (length-map ps (move_point m)) o.few; inside = all_map Stays Inside (move_point m) (λ p h. h) ps o.inside }

  -- The map call accepts the totals of an outline that an allowed map keeps within the limits, and answers those of the moved one.
  pub map-accepts : (ps : List Position) → Outline ps → disallowed m ≡ false → any_outside (moved m ps) ≡ false → map_call m (outline_totals ps) ≡ accepted (outline_totals (moved m ps))
  unfolding map_call
  map-accepts ps o d h = rw (d, fit_exceed outline_bounds (outline_totals ps) (outline_fit ps o), ← map_law ps, fit_exceed total_limits (outline_totals (moved m ps)) (limits_fit (outline_totals (moved m ps)) (outline_fit (moved m ps) (moved-outline ps (all_stay ps o h)))))
