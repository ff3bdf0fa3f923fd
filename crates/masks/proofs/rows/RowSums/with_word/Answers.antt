-- `masks::rows::RowSums::with_word` meets its contract: the word's ones are as many as its marked cells, and their number fits.
use mathlib.Core.Path.{◌≡◌, sym, ap, ◌∙◌, subst}
use Prim.Native.Nat.{ℕ, ◌≤◌, ◌<◌}
use native.Mathlib.Omega.{arith}
use lib.IntN.{pos, nat_abs, ◌+ℤ◌}
use Rattle.integers.proofs.Order.{nat_abs_add}
use Rattle.integers.proofs.SizedNumbers.{i64}
use Rattle.outline.specs.MapCall.{total_limit}
use Rattle.limits.proofs.TotalSums.{sum_fits, sum_is}
use Rattle.word_runs.specs.Bits.{ones_below}
use Rattle.cell_ground.specs.CellSums.{CellSums, sums_over}
use Rattle.cell_ground.proofs.SumLaws.{count_cells}
use Rattle.mask_cells.specs.private.WordCells.{word_cells}
use Rattle.mask_cells.proofs.WordCells.{counted}
use Rattle.mask_cells.proofs.WordGround.{word_within}
use Rattle.masks.specs.declared.rows.RowSums.{RowSums}
use Rattle.masks.specs.private.Rows.{with_columns, RowWithin}
use Rattle.masks.proofs.Kept.{kept}
use Rattle.masks.proofs.rows.RowSums.with_word.Goals as goal

-- ---- the sums of this word, and those before

module _ (word k : ℕ) (before : RowSums) (within : RowWithin 1024 before) (below : k < 16384) (ones : ℕ) (are : ones ≡ ones_below 64 word) where
  abbrev sums : CellSums
  sums = sums_over (word_cells word k 64)

  ones_are : pos ones ≡ sums.count
  ones_are =
      ap pos are
      ∙ sym (count_cells (word_cells word k 64) ∙ ap pos (counted word k 64 (omega arith)))

  few : nat_abs (pos ones) ≤ 64
  few = subst (λ z. nat_abs z ≤ 64) (sym ones_are) (word_within word k 64 below (omega arith)).count

  before_small : nat_abs before.count ≤ total_limit
  before_small = omega (arith, within.count)

  ones_small : nat_abs (pos ones) ≤ total_limit
  ones_small = omega (arith, few)

  -- What is handed on, as the code computes it, and what it is.
  abbrev computed : RowSums
  computed = record { count = i64 (i64 before.count +ℤ i64 (pos ones)); x = i64 before.x; xx = i64 before.xx }

  abbrev recounted : RowSums
  recounted = record { count = before.count +ℤ sums.count; x = before.x; xx = before.xx }

  computed_is : computed ≡ recounted
  computed_is =
      λ i. record {
        count = (sum_is before.count (pos ones) before_small ones_small ∙ ap (λ z. before.count +ℤ z) ones_are) i;
        x = kept before.x (omega (arith, within.x)) i;
        xx = kept before.xx (omega (arith, within.xx)) i;
      }

  recounted_within : RowWithin 1088 recounted
  recounted_within =
      record {
        count = omega (arith, within.count, few, ap nat_abs ones_are, nat_abs_add before.count sums.count);
        x = omega (arith, within.x);
        xx = omega (arith, within.xx);
      }

-- ---- the answers

pub overflow_add-counted : goal.overflow_add-counted
overflow_add-counted c =
    let a = c.args in
    let n = c.filled in
    sum_fits a.self.count (pos n.result) (before_small a.word a.k a.self c.requires.sums (omega (arith, c.requires.k_bound)) n.result n.ensures) (ones_small a.word a.k a.self c.requires.sums (omega (arith, c.requires.k_bound)) n.result n.ensures)

pub with_columns-requires : goal.with_columns-requires
with_columns-requires c =
    let a = c.args in
    let n = c.filled in
    record {
      sums = subst (RowWithin 1088) (sym (computed_is a.word a.k a.self c.requires.sums (omega (arith, c.requires.k_bound)) n.result n.ensures)) (recounted_within a.word a.k a.self c.requires.sums (omega (arith, c.requires.k_bound)) n.result n.ensures);
      k_bound = c.requires.k_bound;
    }

pub returns : goal.returns
returns c =
    let a = c.args in
    let n = c.filled in
    c.with_columns.ensures ∙ ap (λ s. with_columns s (sums_over (word_cells a.word a.k 64))) (computed_is a.word a.k a.self c.requires.sums (omega (arith, c.requires.k_bound)) n.result n.ensures)
