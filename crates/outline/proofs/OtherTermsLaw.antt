-- Source document 002's edge terms give the table's totals around every list of points, since on one edge the two differ by what a potential loses along it;
-- on an open walk they do not.
use mathlib.Core.Path.{◌≡◌, refl}
use mathlib.Core.List.{List, [], ◌∷◌}
use lib.IntN.{pos, negsuc, neg_ℤ, ◌*ℤ◌}
use Rattle.integers.proofs.Ring.{ring, quote}
use Rattle.outline.specs.declared.Position.{Position}
use Rattle.outline.specs.declared.Totals.{Totals}
use Rattle.outline.specs.EdgeSums.{a2, x6, y6, xx12, xy24, yy12, Edge, open_edges, edges, sum_over, outline_totals}
use Rattle.outline.specs.OtherTerms.{x6_002, y6_002, xx12_002, yy12_002}
use Rattle.outline.proofs.EdgeSumLaws.{coordinates, around_potential}
use Rattle.outline.proofs.TotalsLaws.{totals_equal}

-- The six totals by source 002, whose A2 and XY24 are the table's.
abbrev pub totals_002 : List Edge → Totals
totals_002 es =
    record {
      a2 = sum_over a2 es;
      x6 = sum_over x6_002 es;
      y6 = sum_over y6_002 es;
      xx12 = sum_over xx12_002 es;
      xy24 = sum_over xy24 es;
      yy12 = sum_over yy12_002 es;
    }

-- The potentials are -x²y, xy², -x³y and xy³.
pub other_terms_law : (ps : List Position) → totals_002 (edges ps) ≡ outline_totals ps
other_terms_law ps =
    totals_equal
    refl
    (around_potential x6_002 x6 (λ a. neg_ℤ (a.x *ℤ a.x *ℤ a.y)) (λ a b. ring (coordinates a b) (search quote depth 20) (search quote depth 20) tt) ps)
    (around_potential y6_002 y6 (λ a. a.x *ℤ a.y *ℤ a.y) (λ a b. ring (coordinates a b) (search quote depth 20) (search quote depth 20) tt) ps)
    (around_potential xx12_002 xx12 (λ a. neg_ℤ (a.x *ℤ a.x *ℤ a.x *ℤ a.y)) (λ a b. ring (coordinates a b) (search quote depth 20) (search quote depth 20) tt) ps)
    refl
    (around_potential yy12_002 yy12 (λ a. a.x *ℤ a.y *ℤ a.y *ℤ a.y) (λ a b. ring (coordinates a b) (search quote depth 20) (search quote depth 20) tt) ps)

-- The edge from (2, 3) to (7, 11) by source 002.
one_edge_002 : totals_002 (record { start = record { x = pos 2; y = pos 3 }; end = record { x = pos 7; y = pos 11 } } ∷ []) ≡ record { a2 = pos 1; x6 = pos 536; y6 = negsuc 814; xx12 = pos 3816; xy24 = pos 209; yy12 = negsuc 9099 }
unfolding sum_over
one_edge_002 = refl

-- From (2, 0) to (10, 4), still open: X6 is 96 by the table and 496 by source 002.
abbrev two_points : List Edge
two_points = open_edges (record { x = pos 2; y = pos 0 } ∷ record { x = pos 10; y = pos 4 } ∷ [])

pub open_walk_differs : (sum_over x6 two_points ≡ pos 96) × ((totals_002 two_points).x6 ≡ pos 496)
unfolding open_edges sum_over
open_walk_differs = (refl, refl)
