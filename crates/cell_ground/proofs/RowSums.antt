-- The sums over cells of one row: their number and the sums of x and of x² give the other three.
use mathlib.Core.Path.{◌≡◌, ap, ◌∙◌}
use mathlib.Core.List.{List, [], ◌∷◌}
use Prim.Native.Nat.{ℕ, ◌*◌}
use lib.IntN.{ℤ, pos, ◌+ℤ◌, ◌*ℤ◌}
use Rattle.integers.proofs.Ring.{ring, quote}
use Rattle.outline.proofs.Every.{All}
use Rattle.cell_ground.specs.CellSums.{Cell, CellSums, cell_terms, no_sums, plus_sums, sums_over}
use Rattle.cell_ground.specs.Ground.{row_sums}

no_cells : (y : ℤ) → no_sums ≡ row_sums y (pos 0) (pos 0) (pos 0)
no_cells y =
    λ i. record {
      count = pos 0;
      x = pos 0;
      y = ring (y ∷ []) {a = pos 0} {b = pos 0 *ℤ y} (search quote depth 20) (search quote depth 20) tt i;
      xx = pos 0;
      xy = ring (y ∷ []) {a = pos 0} {b = pos 0 *ℤ y} (search quote depth 20) (search quote depth 20) tt i;
      yy = ring (y ∷ []) {a = pos 0} {b = pos 0 *ℤ y *ℤ y} (search quote depth 20) (search quote depth 20) tt i;
    }

-- One cell more, at column c.
one_more : (c y n x xx : ℤ) → plus_sums (record { count = pos 1; x = c; y = y; xx = c *ℤ c; xy = c *ℤ y; yy = y *ℤ y }) (row_sums y n x xx) ≡ row_sums y (pos 1 +ℤ n) (c +ℤ x) (c *ℤ c +ℤ xx)
one_more c y n x xx =
    λ i. record {
      count = pos 1 +ℤ n;
      x = c +ℤ x;
      y = ring (n ∷ y ∷ []) {a = y +ℤ n *ℤ y} {b = (pos 1 +ℤ n) *ℤ y} (search quote depth 20) (search quote depth 20) tt i;
      xx = c *ℤ c +ℤ xx;
      xy = ring (c ∷ x ∷ y ∷ []) {a = c *ℤ y +ℤ x *ℤ y} {b = (c +ℤ x) *ℤ y} (search quote depth 20) (search quote depth 20) tt i;
      yy = ring (n ∷ y ∷ []) {a = y *ℤ y +ℤ n *ℤ y *ℤ y} {b = (pos 1 +ℤ n) *ℤ y *ℤ y} (search quote depth 20) (search quote depth 20) tt i;
    }

abbrev pub InRow : ℕ → Cell → Type 0
InRow y c = c.y ≡ y

abbrev pub of_row : ℕ → CellSums → CellSums
of_row y s = row_sums (pos y) s.count s.x s.xx

pub one-row : (y : ℕ) (cs : List Cell) → All (InRow y) cs → sums_over cs ≡ of_row y (sums_over cs)
unfolding sums_over
one-row y [] h = no_cells (pos y)
one-row y (c ∷ cs) h =
    ap (plus_sums (cell_terms c)) (one-row y cs h.1)
    ∙ (λ i. plus_sums (record { count = pos 1; x = pos c.x; y = pos (h.0 i); xx = pos (c.x * c.x); xy = pos (c.x * h.0 i); yy = pos (h.0 i * h.0 i) }) (of_row y (sums_over cs)))
    ∙ one_more (pos c.x) (pos y) (sums_over cs).count (sums_over cs).x (sums_over cs).xx
