-- The sums of x and of x² over the marked cells of a word, one run of set bits after another.
use mathlib.Core.Path.{◌≡◌, refl, sym, ap, ◌∙◌}
use mathlib.Core.Bool.{Bool, true, false, cond}
use mathlib.Core.List.{List, ◌++◌, append-nil}
use Prim.Native.Nat.{ℕ, suc, ◌+◌, ◌-◌, ◌/◌, ◌%◌, ◌^◌, ◌≤◌, ◌<◌}
use native.Mathlib.Nat.{mod-lt, zero-div}
use native.Mathlib.Omega.{arith}
use borrow.Author.Tests.{eqb-true, eqb-false, eq-eqb, ne_eqb}
use lib.Dec.{eqb}
use lib.IntN.{+ℤ_idr, +ℤ_assoc}
use lib.Pow.{pow_pos}
use Rattle.integers.specs.Search.{first_where}
use Rattle.std.specs.Prelude.{None, Some}
use Rattle.std.specs.Option.{unwrap_or}
use Rattle.word_runs.specs.Bits.{bit, first_of, place}
use Rattle.word_runs.proofs.Places.{place_of, past_places, place_or_64}
use Rattle.integers.proofs.Searches.{found_bounds, found_holds, none_before}
use Rattle.word_runs.proofs.WordSearch.{within_word}
use Rattle.column_sums.specs.SumsBelow.{square_sum}
use Rattle.cell_ground.specs.CellSums.{Cell, CellSums, no_sums, plus_sums, sums_over}
use Rattle.cell_ground.proofs.SumLaws.{sums-append}
use Rattle.cells.specs.RunCells.{cells_from}
use Rattle.cells.proofs.ClosedSums.{run-closed}
use Rattle.mask_cells.specs.MaskCells.{those}
use Rattle.mask_cells.specs.private.Positions.{cells_on}
use Rattle.mask_cells.specs.private.WordCells.{word_cells}
use Rattle.mask_cells.proofs.WordCells.{column, span}
use Rattle.masks.specs.declared.rows.RowSums.{RowSums}
use Rattle.masks.specs.private.Rows.{with_span, with_columns, with_cells}

columns_assoc : (s : RowSums) (t u : CellSums) → with_columns (with_columns s t) u ≡ with_columns s (plus_sums t u)
columns_assoc s t u = λ i. record { count = s.count; x = +ℤ_assoc s.x t.x u.x i; xx = +ℤ_assoc s.xx t.xx u.xx i }

-- ---- a bit is set or clear

set_if_not_clear : (b : ℕ) → b < 2 → eqb b 0 ≡ false → eqb b 1 ≡ true
set_if_not_clear b h e = let other : b ≡ 0 → ⊥ = eqb-false b 0 e in eq-eqb b 1 (omega arith)

not_clear_if_set : (b : ℕ) → eqb b 1 ≡ true → eqb b 0 ≡ false
not_clear_if_set b e = ne_eqb b 0 (λ clear. omega (arith, eqb-true b 1 e))

bit_below : (w i : ℕ) → bit w i < 2
bit_below w i = mod-lt (w / 2 ^ i) (pow_pos 1)

-- ---- up to the next set bit no cell is marked

no_more_cells : (cs : List Cell) (y x n : ℕ) → n ≡ 0 → cs ++ cells_from y x n ≡ cs
unfolding cells_from
no_more_cells cs y x n e = ap (λ m. cs ++ cells_from y x m) e ∙ append-nil cs

clear_span : (w k a s : ℕ) → a ≤ s → s ≤ 64 → ((i : ℕ) → a ≤ i → i < s → eqb (bit w i) 1 ≡ false) → word_cells w k s ≡ word_cells w k a
clear_span w k a s h l clear =
    span w k a s s h (omega arith) l clear (λ i m n. absurd (omega arith))
    ∙ no_more_cells (word_cells w k a) (k / 16) (column k s) (s - s) (omega arith)

module _ (w k a s : ℕ) (h : a ≤ 64) (found : s ≡ first_of 1 (64 - a) w a) where
  set_from : a ≤ s
  set_from = omega (arith, (found_bounds (λ (i : ℕ). eqb (bit w i) 1) (64 - a) a).0)

  set_below : s ≤ 64
  set_below = omega (arith, within_word 1 w a h)

  clear_cells : word_cells w k s ≡ word_cells w k a
  clear_cells = clear_span w k a s set_from set_below (λ i l m. none_before (λ (j : ℕ). eqb (bit w j) 1) (64 - a) a i l (omega arith))

  set_there : s < 64 → eqb (bit w s) 1 ≡ true
  set_there l = ap (λ i. eqb (bit w i) 1) found ∙ found_holds (λ (i : ℕ). eqb (bit w i) 1) (64 - a) a (omega arith)

-- ---- from there up to the next clear bit all are

module _ (w k s e : ℕ) (h : s ≤ 64) (found : e ≡ first_of 0 (64 - s) w s) where
  end-from : s ≤ e
  end-from = omega (arith, (found_bounds (λ (i : ℕ). eqb (bit w i) 0) (64 - s) s).0)

  end_below : e ≤ 64
  end_below = omega (arith, within_word 0 w s h)

  set_cells : word_cells w k e ≡ word_cells w k s ++ cells_from (k / 16) (column k s) (e - s)
  set_cells =
      span w k s s e (omega arith) end-from end_below
      (λ i l m. absurd (omega arith))
      (λ i l m. set_if_not_clear (bit w i) (bit_below w i) (none_before (λ (j : ℕ). eqb (bit w j) 0) (64 - s) s i l (omega arith)))

  with_run : (sums : RowSums) → with_columns sums (sums_over (word_cells w k e)) ≡ with_span square_sum (with_columns sums (sums_over (word_cells w k s))) (column k s) (column k e)
  with_run sums =
      let before = sums_over (word_cells w k s) in
      let last : column k s + (e - s) ≡ column k e = omega (arith, end-from) in
      ap (λ cs. with_columns sums (sums_over cs)) set_cells
      ∙ ap (with_columns sums) (sums-append (word_cells w k s) (cells_from (k / 16) (column k s) (e - s)))
      ∙ sym (columns_assoc sums before (sums_over (cells_from (k / 16) (column k s) (e - s))))
      ∙ ap (with_columns (with_columns sums before)) (run-closed (k / 16) (column k s) (e - s))
      ∙ ap (with_span square_sum (with_columns sums before) (column k s)) last

  run_not_empty : s < 64 → eqb (bit w s) 1 ≡ true → s < e
  unfolding first_where
  run_not_empty l set =
      let p : ℕ → Bool = λ (i : ℕ). eqb (bit w i) 0 in
      let more : 64 - s ≡ suc (63 - s) = omega arith in
      let later : e ≡ first_where p (63 - s) (suc s) = found ∙ ap (λ n. first_where p n s) more ∙ ap (λ (b : Bool). cond b s (first_where p (63 - s) (suc s))) (not_clear_if_set (bit w s) set) in
      omega (arith, later, (found_bounds p (63 - s) (suc s)).0)

-- ---- one run more, from the place where the search for it begins

module _ (w k a : ℕ) (before sums : RowSums) (below : a ≤ 64) (columns : sums ≡ with_columns before (sums_over (word_cells w k a))) where
  -- The sums below the next set bit, or below the end of the word, are the same.
  below_next : (s : ℕ) → s ≡ first_of 1 (64 - a) w a → sums ≡ with_columns before (sums_over (word_cells w k s))
  below_next s found = columns ∙ ap (λ cs. with_columns before (sums_over cs)) (sym (clear_cells w k a s below found))

  pub no_run : None ≡ place (first_of 1 (64 - a) w a) → sums ≡ with_columns before (sums_over (word_cells w k 64))
  no_run none =
      let s = first_of 1 (64 - a) w a in
      let last : s ≡ 64 = omega (arith, past_places s none, set_below w k a s below refl) in
      below_next s refl ∙ ap (λ n. with_columns before (sums_over (word_cells w k n))) last

  module _ (s e : ℕ) (start : Some s ≡ place (first_of 1 (64 - a) w a)) (end : e ≡ unwrap_or (place (first_of 0 (64 - s) w s)) 64) where
    start_is : s ≡ first_of 1 (64 - a) w a
    start_is = (place_of s _ start).0

    inside : s < 64
    inside = (place_of s _ start).1

    end_is : e ≡ first_of 0 (64 - s) w s
    end_is = end ∙ place_or_64 _ (within_word 0 w s (omega (arith, inside)))

    pub run_starts : s ≤ 64
    run_starts = omega (arith, inside)

    pub run_ends : e ≤ 64
    run_ends = end_below w k s e run_starts end_is

    pub run_later : a < e
    run_later = omega (arith, set_from w k a s below start_is, run_not_empty w k s e run_starts end_is inside (set_there w k a s below start_is inside))

    -- The sums with the columns below the start, which the code adds the run to.
    pub before_run : sums ≡ with_columns before (sums_over (word_cells w k s))
    before_run = below_next s start_is

    pub after_run : with_span square_sum sums (column k s) (column k e) ≡ with_columns before (sums_over (word_cells w k e))
    after_run = ap (λ m. with_span square_sum m (column k s) (column k e)) before_run ∙ sym (with_run w k s e run_starts end_is before)

no_sums_lem : (w k : ℕ) → sums_over (word_cells w k 0) ≡ no_sums
unfolding word_cells those cells_on sums_over
no_sums_lem w k = refl

pub no_columns : (w k : ℕ) (sums : RowSums) → sums ≡ with_columns sums (sums_over (word_cells w k 0))
no_columns w k sums = sym (ap (with_columns sums) (no_sums_lem w k) ∙ (λ i. record { count = sums.count; x = +ℤ_idr sums.x i; xx = +ℤ_idr sums.xx i }))

-- ---- a word of clear bits

bit_of_zero : (i : ℕ) → bit 0 i ≡ 0
bit_of_zero i = ap (λ n. n % 2) (zero-div (2 ^ i))

pub zero_word : (w k : ℕ) (sums : RowSums) → w ≡ 0 → sums ≡ with_cells sums (sums_over (word_cells w k 64))
zero_word w k sums e =
    let none : sums_over (word_cells w k 64) ≡ no_sums =
    ap (λ v. sums_over (word_cells v k 64)) e ∙ ap sums_over (clear_span 0 k 0 64 (omega arith) (omega arith) (λ i l m. ap (λ b. eqb b 1) (bit_of_zero i))) ∙ no_sums_lem 0 k
    in sym (ap (with_cells sums) none ∙ (λ i. record { count = +ℤ_idr sums.count i; x = +ℤ_idr sums.x i; xx = +ℤ_idr sums.xx i }))
