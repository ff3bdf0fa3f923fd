-- `cell_ground::row_totals` meets its contract: every step fits, and what it computes is CR 2's formulas of the sums of a row.
use mathlib.Core.Path.{◌≡◌, ◌∙◌}
use mathlib.Core.List.{List, [], ◌∷◌}
use Prim.Native.Nat.{◌≤◌, ◌^◌}
use native.Mathlib.Omega.{arith}
use lib.IntN.{ℤ, pos, ◌+ℤ◌, ◌*ℤ◌}
use Rattle.integers.proofs.Ring.{ring, quote}
use Rattle.integers.proofs.SignedCode.{code, casts, fit32, sfits_nat_abs}
use Rattle.integers.proofs.SizedNumbers.{Sized, sized, numbers, fits, is_plain}
use Rattle.outline.specs.declared.Totals.{Totals}
use Rattle.outline.proofs.TotalsLaws.{totals_equal}
use Rattle.cell_ground.specs.Ground.{ground_totals, row_sums}
use Rattle.cell_ground.proofs.row_totals.Goals.{Start}
use Rattle.cell_ground.proofs.row_totals.Goals as goal

-- ---- the code's products are the formulas, of any numbers

module _ (y n x xx : ℤ) where
  abbrev sums : Totals
  sums = ground_totals (row_sums y n x xx)

  abbrev middle : ℤ
  middle = pos 2 *ℤ y +ℤ pos 1

  y6_is : pos 3 *ℤ n *ℤ middle ≡ sums.y6
  y6_is = ring (y ∷ n ∷ []) {a = pos 3 *ℤ n *ℤ middle} {b = sums.y6} (search quote depth 60 fits 20000) (search quote depth 60 fits 20000) tt

  xx12_is : pos 12 *ℤ (xx +ℤ x) +ℤ pos 4 *ℤ n ≡ sums.xx12
  xx12_is = ring (n ∷ x ∷ xx ∷ []) {a = pos 12 *ℤ (xx +ℤ x) +ℤ pos 4 *ℤ n} {b = sums.xx12} (search quote depth 60 fits 20000) (search quote depth 60 fits 20000) tt

  xy24_is : pos 2 *ℤ (pos 6 *ℤ x +ℤ pos 3 *ℤ n) *ℤ middle ≡ sums.xy24
  xy24_is = ring (y ∷ n ∷ x ∷ []) {a = pos 2 *ℤ (pos 6 *ℤ x +ℤ pos 3 *ℤ n) *ℤ middle} {b = sums.xy24} (search quote depth 60 fits 20000) (search quote depth 60 fits 20000) tt

  yy12_is : pos 3 *ℤ n *ℤ middle *ℤ middle +ℤ n ≡ sums.yy12
  yy12_is = ring (y ∷ n ∷ []) {a = pos 3 *ℤ n *ℤ middle *ℤ middle +ℤ n} {b = sums.yy12} (search quote depth 60 fits 20000) (search quote depth 60 fits 20000) tt

-- ---- the numbers of a call, each with a bound

module _ (c : Start) where
  abbrev y : ℤ
  y = pos c.args.row

  abbrev n : ℤ
  n = pos c.args.count

  abbrev x : ℤ
  x = c.args.x

  abbrev xx : ℤ
  xx = c.args.xx

  row_small : c.args.row ≤ 2 ^ 16
  row_small = omega (arith, c.ranges.row)

  count_small : c.args.count ≤ 2 ^ 16
  count_small = omega (arith, c.ranges.count)

  abbrev operands : List Sized
  operands = sized y row_small ∷ sized n count_small ∷ sized x (sfits_nat_abs c.ranges.x) ∷ sized xx (sfits_nat_abs c.ranges.xx) ∷ []

  abbrev values : List ℤ
  values = numbers operands

pub returns : goal.returns
returns c =
    totals_equal
    (is_plain (operands c) (search (casts, code) depth 40) tt)
    (is_plain (operands c) (search (fit32 (values c) c.ranges.x, casts, code) depth 40) tt)
    (is_plain (operands c) (search (casts, code) depth 40) tt ∙ y6_is (y c) (n c) (x c) (xx c))
    (is_plain (operands c) (search (fit32 (values c) c.ranges.x, fit32 (values c) c.ranges.xx, casts, code) depth 40) tt ∙ xx12_is (y c) (n c) (x c) (xx c))
    (is_plain (operands c) (search (fit32 (values c) c.ranges.x, casts, code) depth 40) tt ∙ xy24_is (y c) (n c) (x c) (xx c))
    (is_plain (operands c) (search (casts, code) depth 40) tt ∙ yy12_is (y c) (n c) (x c) (xx c))

-- ---- the products of three numbers fit too

pub overflow_mul-result-5 : goal.overflow_mul-result-5
overflow_mul-result-5 c = fits (operands c) (search (fit32 (values c) c.ranges.x, casts, code) depth 40) tt

pub overflow_mul-result-6 : goal.overflow_mul-result-6
overflow_mul-result-6 c = fits (operands c) (search (casts, code) depth 40) tt

pub overflow_add-result-3 : goal.overflow_add-result-3
overflow_add-result-3 c = fits (operands c) (search (casts, code) depth 40) tt
