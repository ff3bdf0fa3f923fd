-- The totals of the ground under two lists of cells add up, and are those of the cells' corners.
use mathlib.Core.Path.{◌≡◌, refl, sym, ap, ap₂, ◌∙◌}
use mathlib.Core.List.{List, [], ◌∷◌, ◌++◌}
use Prim.Native.Nat.{suc}
use native.Mathlib.Omega.{arith}
use lib.IntN.{ℤ, pos, ◌+ℤ◌, ◌*ℤ◌}
use Rattle.integers.proofs.Ring.{ring, quote}
use Rattle.outline.specs.declared.Position.{Position}
use Rattle.outline.specs.EdgeSums.{plus, open_edges, edges, sum_over, outline_totals}
use Rattle.outline.specs.ListCall.{points, numbers, wrong_length, list_call, accepted}
use Rattle.outline.proofs.Every.{All}
use Rattle.outline.proofs.Limits.{Inside, none-beyond}
use Rattle.outline.proofs.TotalsLaws.{totals_equal}
use Rattle.cell_ground.specs.CellSums.{Cell, CellSums, cell_terms, plus_sums, sums_over}
use Rattle.cell_ground.specs.Ground.{first_total, second_total, mixed_total, ground_totals, ground_of, corners, squares_added}
use Rattle.cell_ground.specs.GroundLaws.{InGrid, OneCell, CellByCell}
use Rattle.cell_ground.proofs.SumLaws.{sums-append}

-- ---- two lists

module _ (a b s t : ℤ) where
  first-plus : first_total (a +ℤ b) (s +ℤ t) ≡ first_total a s +ℤ first_total b t
  first-plus = ring (a ∷ b ∷ s ∷ t ∷ []) (search quote depth 20) (search quote depth 20) tt

  second-plus : (p q : ℤ) → second_total (a +ℤ b) (s +ℤ t) (p +ℤ q) ≡ second_total a s p +ℤ second_total b t q
  second-plus p q = ring (a ∷ b ∷ s ∷ t ∷ p ∷ q ∷ []) (search quote depth 20) (search quote depth 20) tt

  mixed-plus : (u v p q : ℤ) → mixed_total (a +ℤ b) (s +ℤ t) (u +ℤ v) (p +ℤ q) ≡ mixed_total a s u p +ℤ mixed_total b t v q
  mixed-plus u v p q = ring (a ∷ b ∷ s ∷ t ∷ u ∷ v ∷ p ∷ q ∷ []) (search quote depth 20) (search quote depth 20) tt

pub ground_plus : (s t : CellSums) → ground_totals (plus_sums s t) ≡ plus (ground_totals s) (ground_totals t)
ground_plus s t =
    totals_equal
    (ring (s.count ∷ t.count ∷ []) (search quote depth 20) (search quote depth 20) tt)
    (first-plus s.count t.count s.x t.x)
    (first-plus s.count t.count s.y t.y)
    (second-plus s.count t.count s.x t.x s.xx t.xx)
    (mixed-plus s.count t.count s.x t.x s.y t.y s.xy t.xy)
    (second-plus s.count t.count s.y t.y s.yy t.yy)

pub ground_append : (cs ds : List Cell) → ground_of (cs ++ ds) ≡ plus (ground_of cs) (ground_of ds)
unfolding ground_of
ground_append cs ds = ap ground_totals (sums-append cs ds) ∙ ground_plus (sums_over cs) (sums_over ds)

-- ---- corners

-- The square from (x, y) to (x + 1, y + 1), wherever it lies: its edge sums.
module _ (x y : ℤ) where
  abbrev square : List Position
  square = record { x = x; y = y } ∷ record { x = x +ℤ pos 1; y = y } ∷ record { x = x +ℤ pos 1; y = y +ℤ pos 1 } ∷ record { x = x; y = y +ℤ pos 1 } ∷ []

  square-totals : outline_totals square ≡ ground_totals (record { count = pos 1; x = x; y = y; xx = x *ℤ x; xy = x *ℤ y; yy = y *ℤ y })
  unfolding open_edges edges sum_over
  square-totals =
      totals_equal
      (ring (x ∷ y ∷ []) (search quote depth 60 fits 20000) (search quote depth 60 fits 20000) tt)
      (ring (x ∷ y ∷ []) (search quote depth 60 fits 20000) (search quote depth 60 fits 20000) tt)
      (ring (x ∷ y ∷ []) (search quote depth 60 fits 20000) (search quote depth 60 fits 20000) tt)
      (ring (x ∷ y ∷ []) (search quote depth 60 fits 20000) (search quote depth 60 fits 20000) tt)
      (ring (x ∷ y ∷ []) (search quote depth 60 fits 20000) (search quote depth 60 fits 20000) tt)
      (ring (x ∷ y ∷ []) (search quote depth 60 fits 20000) (search quote depth 60 fits 20000) tt)

corners_inside : (c : Cell) → InGrid c → All Inside (corners c)
corners_inside c g = ((omega (arith, g.column), omega (arith, g.row)), ((omega (arith, g.column), omega (arith, g.row)), ((omega (arith, g.column), omega (arith, g.row)), ((omega (arith, g.column), omega (arith, g.row)), tt))))

pub one_cell : OneCell
unfolding wrong_length points numbers list_call
one_cell c g = rw (none-beyond 2000 (corners c) (corners_inside c g)) (ap accepted (square-totals (pos c.x) (pos c.y)))

pub cell_by_cell : CellByCell
unfolding ground_of sums_over squares_added
cell_by_cell [] all = refl
cell_by_cell (c ∷ cs) all =
    ground_plus (cell_terms c) (sums_over cs)
    ∙ ap₂ plus (ap (λ o. o.totals) (sym (one_cell c (all 0 (omega arith))))) (cell_by_cell cs (λ i h. all (suc i) (omega arith)))
