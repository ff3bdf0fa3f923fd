-- `masks::rows::RowSums::with_columns` meets its contract: at each turn the columns of one run of set bits are added.
use mathlib.Core.Path.{◌≡◌, sym, ap, ap₂, ◌∙◌, subst}
use mathlib.Core.List.{List}
use Prim.Native.Nat.{ℕ, ◌+◌, ◌*◌, ◌≤◌, ◌<◌}
use native.Mathlib.Omega.{arith}
use lib.IntN.{pos, ◌+ℤ◌, ◌-ℤ◌}
use lib.ListN.{get_or}
use Rattle.std.specs.Option.{unwrap_or}
use Rattle.integers.proofs.Order.{nat_abs_add}
use Rattle.column_sums.specs.SumsBelow.{index_sum, square_sum}
use Rattle.column_sums.specs.Annex.{square_sums}
use Rattle.column_sums.proofs.Entries.{difference_is}
use Rattle.cell_ground.specs.CellSums.{sums_over}
use Rattle.mask_cells.specs.private.WordCells.{word_cells}
use Rattle.mask_cells.proofs.WordCells.{column}
use Rattle.mask_cells.proofs.WordGround.{word_within}
use Rattle.masks.specs.declared.rows.RowSums.{RowSums}
use Rattle.masks.specs.private.Rows.{with_span, with_columns, RowWithin}
use Rattle.masks.proofs.RunsOfWord.{no_run, run_starts, run_ends, run_later, after_run, no_columns}
use Rattle.masks.proofs.rows.RowSums.with_columns.Goals as goal

pub loop-start-init : goal.loop-start-init
loop-start-init c = record { below = omega arith; columns = no_columns c.args.word c.args.k c.args.self }

-- The sums of a row with the columns of some cells of a word are small.
small : (w k n : ℕ) (before sums : RowSums) → k < 16 → n ≤ 64 → RowWithin 1088 before → sums ≡ with_columns before (sums_over (word_cells w k n)) → RowWithin 2048 sums
small w k n before sums h l need is =
    let more = sums_over (word_cells w k n) in
    let little = word_within w k n (omega arith) l in
    subst (RowWithin 2048) (sym is)
    (record {
      count = omega (arith, need.count);
      x = omega (arith, need.x, little.x, nat_abs_add before.x more.x);
      xx = omega (arith, need.xx, little.xx, nat_abs_add before.xx more.xx);
    })

-- What is read from the annex are the sums of squares.
from_annex : {table : List ℕ} (s : RowSums) (first end : ℕ) → table ≡ square_sums → first ≤ 1024 → end ≤ 1024 → with_span (λ k. get_or table k 0) s first end ≡ with_span square_sum s first end
from_annex s first end annex f e = λ i. record { count = s.count; x = s.x +ℤ (pos (index_sum end) -ℤ pos (index_sum first)); xx = s.xx +ℤ difference_is first end annex f e i }

pub with_span-sums-requires : goal.with_span-sums-requires
with_span-sums-requires c =
    let a = c.args in
    let l = c.loop-start in
    let inv = l.invariant in
    let end = c.unwrap_or-end.ensures ∙ ap (λ o. unwrap_or o 64) c.first_clear.ensures in
    record {
      sums = small a.word a.k l.end a.self l.sums c.requires.k_bound inv.below c.requires.sums inv.columns;
      first_bound = omega (arith, c.requires.k_bound, run_starts a.word a.k l.end a.self l.sums inv.below inv.columns c.in-Some.start c.unwrap_or-end.result c.in-Some.ensures end);
      end_bound = omega (arith, c.requires.k_bound, run_ends a.word a.k l.end a.self l.sums inv.below inv.columns c.in-Some.start c.unwrap_or-end.result c.in-Some.ensures end);
    }

pub loop-start-smaller : goal.loop-start-smaller
loop-start-smaller c =
    let a = c.args in
    let l = c.loop-start in
    let inv = l.invariant in
    let end = c.unwrap_or-end.ensures ∙ ap (λ o. unwrap_or o 64) c.first_clear.ensures in
    omega
    (arith, run_ends a.word a.k l.end a.self l.sums inv.below inv.columns c.in-Some.start c.unwrap_or-end.result c.in-Some.ensures end, run_later a.word a.k l.end a.self l.sums inv.below inv.columns c.in-Some.start c.unwrap_or-end.result c.in-Some.ensures end)

pub loop-start-preserved : goal.loop-start-preserved
loop-start-preserved c =
    let a = c.args in
    let l = c.loop-start in
    let inv = l.invariant in
    let end = c.unwrap_or-end.ensures ∙ ap (λ o. unwrap_or o 64) c.first_clear.ensures in
    let first : a.k * 64 + c.in-Some.start ≤ 1024 = omega (arith, c.requires.k_bound, run_starts a.word a.k l.end a.self l.sums inv.below inv.columns c.in-Some.start c.unwrap_or-end.result c.in-Some.ensures end) in
    let end_bound : a.k * 64 + c.unwrap_or-end.result ≤ 1024 = omega (arith, c.requires.k_bound, run_ends a.word a.k l.end a.self l.sums inv.below inv.columns c.in-Some.start c.unwrap_or-end.result c.in-Some.ensures end) in
    -- The column of a place of the word, as the code computes it.
    let columns : (i : ℕ) → a.k * 64 + i ≡ column a.k i = λ i. omega (arith, c.requires.k_bound) in
    record {
      below = run_ends a.word a.k l.end a.self l.sums inv.below inv.columns c.in-Some.start c.unwrap_or-end.result c.in-Some.ensures end;
      columns =
          c.with_span-sums.ensures
          ∙ from_annex l.sums _ _ c.table-table.ensures first end_bound
          ∙ ap₂ (with_span square_sum l.sums) (columns c.in-Some.start) (columns c.unwrap_or-end.result)
          ∙ after_run a.word a.k l.end a.self l.sums inv.below inv.columns c.in-Some.start c.unwrap_or-end.result c.in-Some.ensures end;
    }

pub returns : goal.returns
returns c =
    let l = c.loop-start in
    no_run c.args.word c.args.k l.end c.args.self l.sums l.invariant.below l.invariant.columns c.in_default.ensures
