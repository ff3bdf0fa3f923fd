-- Sums of a term along a polyline and around an outline: joined at a point, moved, and changed by a potential.
use mathlib.Core.Path.{◌≡◌, refl, sym, ◌∙◌}
use mathlib.Core.List.{List, [], ◌∷◌, ◌++◌, map, append_assoc}
use lib.IntN.{ℤ, ◌+ℤ◌, ◌-ℤ◌, +ℤ_idl, +ℤ_idr, +ℤ_assoc}
use Rattle.integers.proofs.Ring.{ring, quote}
use Rattle.outline.specs.declared.Position.{Position}
use Rattle.outline.specs.EdgeSums.{Term, open_edges, edges, sum_over}

-- The numbers that a term of an edge is made of.
abbrev pub coordinates : Position → Position → List ℤ
coordinates a b = a.x ∷ a.y ∷ b.x ∷ b.y ∷ []

-- The sum along the points, and the sum around them with the closing edge.
abbrev pub path : Term → List Position → ℤ
path t ps = sum_over t (open_edges ps)

abbrev pub around : Term → List Position → ℤ
around t ps = sum_over t (edges ps)

pub one_edge : (t : Term) (a b : Position) → path t (a ∷ b ∷ []) ≡ t a b
unfolding open_edges sum_over
one_edge t a b = +ℤ_idr (t a b)

-- A path through a is the path to a and the path from a.
pub join : (t : Term) (ps : List Position) (a : Position) (qs : List Position) → path t (ps ++ a ∷ qs) ≡ path t (ps ++ a ∷ []) +ℤ path t (a ∷ qs)
unfolding open_edges sum_over
join t [] a qs = sym (+ℤ_idl (path t (a ∷ qs)))
join t (p ∷ []) a qs = rw (+ℤ_idr (t p a))
join t (p ∷ q ∷ ps) a qs = rw (join t (q ∷ ps) a qs, +ℤ_assoc)

-- An outline in two parts, each with both its ends.
pub around_two : (t : Term) (a : Position) (u : List Position) (b : Position) (v : List Position) → around t (a ∷ u ++ b ∷ v) ≡ path t (a ∷ u ++ b ∷ []) +ℤ path t (b ∷ v ++ a ∷ [])
unfolding edges
around_two t a u b v = rw (append_assoc u (b ∷ v) (a ∷ [])) (join t (a ∷ u) b (v ++ a ∷ []))

-- Points moved by f: the sums of the term between moved ends.
pub path_map : (t : Term) (f : Position → Position) (ps : List Position) → path t (map f ps) ≡ path (λ a b. t (f a) (f b)) ps
unfolding open_edges sum_over
path_map t f [] = refl
path_map t f (a ∷ []) = refl
path_map t f (a ∷ b ∷ ps) = rw (path_map t f (b ∷ ps))

map-append : (f : Position → Position) (ps qs : List Position) → map f (ps ++ qs) ≡ map f ps ++ map f qs
map-append f [] qs = refl
map-append f (p ∷ ps) qs = rw (map-append f ps qs)

pub around_map : (t : Term) (f : Position → Position) (ps : List Position) → around t (map f ps) ≡ around (λ a b. t (f a) (f b)) ps
unfolding edges sum_over
around_map t f [] = refl
around_map t f (a ∷ ps) = rw (← map-append f ps (a ∷ [])) (path_map t f (a ∷ ps ++ a ∷ []))

-- Two terms that differ on each edge by what a potential G loses along it have the same sum around every outline.
module _ (t s : Term) (G : Position → ℤ) (h : (a b : Position) → t a b ≡ s a b +ℤ (G a -ℤ G b)) where
  path_potential : (a : Position) (ps : List Position) (b : Position) → path t (a ∷ ps ++ b ∷ []) ≡ path s (a ∷ ps ++ b ∷ []) +ℤ (G a -ℤ G b)
  unfolding open_edges sum_over
  path_potential a [] b = rw (h a b) (ring (s a b ∷ G a ∷ G b ∷ []) (search quote depth 12) (search quote depth 12) tt)
  path_potential a (p ∷ ps) b = rw (h a p, path_potential p ps b) (ring (s a p ∷ G a ∷ G p ∷ G b ∷ path s (p ∷ ps ++ b ∷ []) ∷ []) (search quote depth 12) (search quote depth 12) tt)

  pub around_potential : (ps : List Position) → around t ps ≡ around s ps
  unfolding edges sum_over
  around_potential [] = refl
  around_potential (a ∷ ps) = path_potential a ps a ∙ ring (path s (a ∷ ps ++ a ∷ []) ∷ G a ∷ []) (search quote depth 12) (search quote depth 12) tt
