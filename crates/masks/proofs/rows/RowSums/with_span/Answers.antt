-- `masks::rows::RowSums::with_span` meets its contract: every step fits, whatever the table has.
use mathlib.Core.Path.{◌≡◌, ◌∙◌}
use mathlib.Core.List.{List, [], ◌∷◌}
use Prim.Native.Nat.{ℕ, ◌≤◌, ◌<◌, ◌^◌}
use native.Mathlib.Omega.{arith}
use lib.IntN.{ℤ, pos, nat_abs, ◌+ℤ◌, ◌-ℤ◌}
use mir.Syntax.{w64}
use mir.Val.{SFits}
use Rattle.integers.proofs.SignedCode.{code}
use Rattle.integers.proofs.SizedNumbers.{i64, Sized, sized, fits, is_plain}
use Rattle.column_sums.specs.SumsBelow.{index_sum}
use Rattle.column_sums.proofs.SumBounds.{index-sized, entry-sized}
use Rattle.masks.specs.declared.rows.RowSums.{RowSums}
use Rattle.masks.specs.private.Rows.{RowWithin}
use Rattle.masks.proofs.Kept.{kept}
use Rattle.masks.proofs.rows.RowSums.with_span.Goals as goal

-- A sum, and two others whose difference is added to it.
record Numbers : Type 0 where
  s : ℤ
  e : ℤ
  a : ℤ
  s_small : nat_abs s ≤ 2 ^ 31
  e_small : nat_abs e ≤ 2 ^ 32
  a_small : nat_abs a ≤ 2 ^ 32

module _ (v : Numbers) where
  abbrev operands : List Sized
  operands = sized v.s v.s_small ∷ sized v.e v.e_small ∷ sized v.a v.a_small ∷ []

  abbrev difference : ℤ
  difference = i64 v.e -ℤ i64 v.a

  sum_fits : SFits w64 (i64 v.s +ℤ i64 difference)
  sum_fits = fits operands (search code depth 40) tt

  sum_is : i64 (i64 v.s +ℤ i64 difference) ≡ v.s +ℤ (v.e -ℤ v.a)
  sum_is = is_plain operands (search code depth 40) tt

-- The sum of x, and the sums of indices below the end and below the first column; the sum of x², and the two entries that are read.
module _ (sums : RowSums) (within : RowWithin 2048 sums) {e a : ℤ} where
  abbrev indices : {first end : ℕ} → end ≤ 1024 → first ≤ 1024 → e ≡ pos (index_sum end) → a ≡ pos (index_sum first) → Numbers
  indices {first} {end} l k e_is a_is =
      record {
        s = sums.x;
        e = e;
        a = a;
        s_small = omega (arith, within.x);
        e_small = omega (arith, index-sized end l e_is);
        a_small = omega (arith, index-sized first k a_is);
      }

  abbrev squares : {m n : ℕ} → e ≡ pos m → m < 2 ^ 32 → a ≡ pos n → n < 2 ^ 32 → Numbers
  squares e_is m_below a_is n_below =
      record {
        s = sums.xx;
        e = e;
        a = a;
        s_small = omega (arith, within.xx);
        e_small = entry-sized e_is m_below;
        a_small = entry-sized a_is n_below;
      }

pub overflow_add-result : goal.overflow_add-result
overflow_add-result c = sum_fits (indices c.args.self c.requires.sums c.requires.end_bound c.requires.first_bound c.index_sum.ensures c.index_sum-2.ensures)

pub returns : goal.returns
returns c =
    let sums = c.args.self in
    let within = c.requires.sums in
    let x = indices sums within c.requires.end_bound c.requires.first_bound c.index_sum.ensures c.index_sum-2.ensures in
    let xx = squares sums within c.entry_at.ensures (c.type_inv.squares _).fits c.entry_at-2.ensures (c.type_inv.squares _).fits in
    (λ i. record { count = kept sums.count (omega (arith, within.count)) i; x = sum_is x i; xx = sum_is xx i })
    ∙ (λ i. record { count = sums.count; x = sums.x +ℤ (c.index_sum.ensures i -ℤ c.index_sum-2.ensures i); xx = sums.xx +ℤ (c.entry_at.ensures i -ℤ c.entry_at-2.ensures i) })
