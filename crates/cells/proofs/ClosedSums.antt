-- A run's sums in closed form: its columns and their squares sum to the sums below its end less those below its first column.
use mathlib.Core.Path.{◌≡◌, refl, sym, ◌∙◌, ap}
use mathlib.Core.List.{[], ◌∷◌}
use Prim.Native.Nat.{ℕ, zero, suc, ◌+◌, ◌*◌}
use native.Mathlib.Nat.{add-zero}
use native.Mathlib.Omega.{arith}
use lib.IntN.{ℤ, pos, ◌+ℤ◌, ◌-ℤ◌, +ℤ_invr}
use Rattle.integers.proofs.Ring.{ring, quote}
use Rattle.outline.proofs.Every.{All}
use Rattle.column_sums.specs.SumsBelow.{index_sum, square_sum}
use Rattle.cell_ground.specs.CellSums.{sums_over}
use Rattle.cell_ground.specs.Ground.{row_sums}
use Rattle.cell_ground.proofs.SumLaws.{count_cells}
use Rattle.cell_ground.proofs.RowSums.{InRow, one-row}
use Rattle.cells.specs.RunCells.{cells_from}
use Rattle.cells.proofs.GridLaws.{from-length}

-- The sums below the end and below the first number, of any terms.
abbrev pub between : ℕ → ℕ → ℤ
between end first = pos end -ℤ pos first

-- One term more in front.
one_more : (t s e : ℤ) → t +ℤ (e -ℤ (s +ℤ t)) ≡ e -ℤ s
one_more t s e = ring (t ∷ s ∷ e ∷ []) (search quote depth 20) (search quote depth 20) tt

none_between : (S : ℕ → ℕ) (x : ℕ) → pos 0 ≡ between (S (x + 0)) (S x)
none_between S x = sym (+ℤ_invr (pos (S x))) ∙ ap (λ k. between (S k) (S x)) (sym (add-zero x))

module _ (y : ℕ) where
  columns : (x n : ℕ) → (sums_over (cells_from y x n)).x ≡ between (index_sum (x + n)) (index_sum x)
  unfolding sums_over cells_from index_sum
  columns x zero = none_between index_sum x
  columns x (suc n) =
      let e : suc x + n ≡ x + suc n = omega arith in
      ap (λ z. pos x +ℤ z) (columns (suc x) n) ∙ one_more (pos x) (pos (index_sum x)) (pos (index_sum (suc x + n))) ∙ ap (λ k. between (index_sum k) (index_sum x)) e

  squares : (x n : ℕ) → (sums_over (cells_from y x n)).xx ≡ between (square_sum (x + n)) (square_sum x)
  unfolding sums_over cells_from square_sum
  squares x zero = none_between square_sum x
  squares x (suc n) =
      let e : suc x + n ≡ x + suc n = omega arith in
      ap (λ z. pos (x * x) +ℤ z) (squares (suc x) n) ∙ one_more (pos (x * x)) (pos (square_sum x)) (pos (square_sum (suc x + n))) ∙ ap (λ k. between (square_sum k) (square_sum x)) e

  in_row : (x n : ℕ) → All (InRow y) (cells_from y x n)
  unfolding cells_from
  in_row x zero = tt
  in_row x (suc n) = (refl, in_row (suc x) n)

  pub run-closed : (x n : ℕ) → sums_over (cells_from y x n) ≡ row_sums (pos y) (pos n) (between (index_sum (x + n)) (index_sum x)) (between (square_sum (x + n)) (square_sum x))
  run-closed x n = one-row y (cells_from y x n) (in_row x n) ∙ (λ i. row_sums (pos y) ((count_cells (cells_from y x n) ∙ ap pos (from-length y x n)) i) (columns x n i) (squares x n i))
