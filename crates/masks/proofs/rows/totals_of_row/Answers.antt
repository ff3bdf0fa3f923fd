-- `masks::rows::totals_of_row` meets its contract: a row has at most 1,024 cells, so its sums fit the smaller types, and are handed on as they are.
use mathlib.Core.Path.{◌≡◌, sym, ap, ◌∙◌, subst}
use mathlib.Core.List.{List, [], ◌∷◌}
use Prim.Native.Nat.{ℕ, ◌≤◌, ◌^◌}
use native.Mathlib.Omega.{arith}
use lib.Dec.{T}
use lib.IntN.{ℤ, pos, nat_abs}
use lib.ListN.{length}
use lib.Signed.{non_neg}
use mir.Syntax.{w16, w32}
use mir.Val.{Fits, SFits, to_z, of_z}
use Rattle.integers.proofs.SignedCode.{code}
use Rattle.integers.proofs.SizedNumbers.{i64, Sized, sized, fits, is_plain}
use Rattle.cell_ground.specs.CellSums.{Cell, CellSums, sums_over}
use Rattle.cell_ground.specs.Ground.{ground_totals, row_sums}
use Rattle.cell_ground.specs.private.SumBounds.{SumsWithin}
use Rattle.cell_ground.proofs.SumLaws.{count_cells}
use Rattle.mask_cells.specs.private.WordCells.{row_cells}
use Rattle.mask_cells.proofs.WordGround.{row_within}
use Rattle.masks.specs.declared.rows.RowSums.{RowSums}
use Rattle.masks.specs.private.Rows.{three_of}
use Rattle.masks.proofs.Kept.{kept}
use Rattle.masks.proofs.rows.totals_of_row.Goals as goal

-- ---- a sum of x or of x² fits an i32, and is handed on as it is

module _ (z : ℤ) (h : nat_abs z ≤ 2 ^ 30) where
  abbrev operands : List Sized
  operands = sized z h ∷ []

  passed_fits : SFits w32 (i64 z)
  passed_fits = fits operands (search code depth 40) tt

  passed_is : to_z w32 (of_z w32 (i64 z)) ≡ z
  passed_is = is_plain operands (search code depth 40) tt

-- ---- the sums of this row

module _ (ws : List ℕ) (found : RowSums) (is : found ≡ three_of (sums_over (row_cells ws 0))) where
  abbrev cells : List Cell
  cells = row_cells ws 0

  abbrev sums : CellSums
  sums = sums_over cells

  row_small : SumsWithin 1024 sums
  row_small = row_within ws 0 (omega arith)

  few : length cells ≤ 1024
  few = omega (arith, row_small.count, ap nat_abs (count_cells cells))

  -- The number as the code reads it.
  count_is : i64 found.count ≡ pos (length cells)
  count_is = ap (λ s. i64 s.count) is ∙ ap i64 (count_cells cells) ∙ kept (pos (length cells)) (omega (arith, few))

  x_small : nat_abs found.x ≤ 2 ^ 30
  x_small = omega (arith, row_small.x, ap (λ s. nat_abs s.x) is)

  xx_small : nat_abs found.xx ≤ 2 ^ 30
  xx_small = omega (arith, row_small.xx, ap (λ s. nat_abs s.xx) is)

  n_is : pos (nat_abs (i64 found.count)) ≡ sums.count
  n_is = ap (λ z. pos (nat_abs z)) count_is ∙ sym (count_cells cells)

  x_is : to_z w32 (of_z w32 (i64 found.x)) ≡ sums.x
  x_is = passed_is found.x x_small ∙ ap (λ s. s.x) is

  xx_is : to_z w32 (of_z w32 (i64 found.xx)) ≡ sums.xx
  xx_is = passed_is found.xx xx_small ∙ ap (λ s. s.xx) is

-- ---- the answers

pub overflow_cast-sums : goal.overflow_cast-sums
overflow_cast-sums c =
    let s = c.of_row-sums in
    let ws = c.args.words.now in
    subst (λ z. T (non_neg z) × Fits w16 (nat_abs z)) (sym (count_is ws s.result s.ensures)) (tt, omega (arith, few ws s.result s.ensures))

pub overflow_cast-sums-2 : goal.overflow_cast-sums-2
overflow_cast-sums-2 c = let s = c.of_row-sums in passed_fits s.result.x (x_small c.args.words.now s.result s.ensures)

pub overflow_cast-sums-3 : goal.overflow_cast-sums-3
overflow_cast-sums-3 c = let s = c.of_row-sums in passed_fits s.result.xx (xx_small c.args.words.now s.result s.ensures)

pub returns : goal.returns
returns c =
    let s = c.of_row-sums in
    let ws = c.args.words.now in
    c.row_totals.ensures ∙ (λ i. ground_totals (row_sums (pos c.args.y) (n_is ws s.result s.ensures i) (x_is ws s.result s.ensures i) (xx_is ws s.result s.ensures i)))
