-- The next run of a mask from a position on: it begins at the first set bit, and ends at the first clear bit from there or at the end of the row.
use mathlib.Core.Path.{◌≡◌, sym, ◌∙◌, subst}
use mathlib.Core.Bool.{Bool, true, false}
use mathlib.Core.List.{List}
use mathlib.Core.Logic.{◌⊎◌, inl, inr}
use Prim.Native.Nat.{ℕ, ◌-◌, ◌%◌, ◌≤◌, ◌<◌}
use native.Mathlib.Nat.{eq-or-lt_of_le}
use native.Mathlib.Omega.{arith}
use lib.Dec.{eqb}
use borrow.Author.Tests.{eqb-true, eqb-false, eq-eqb, ne_eqb}
use Rattle.word_runs.specs.private.WordList.{bit_at, first_bit}
use Rattle.integers.proofs.Searches.{found_bounds, found_holds, none_before}
use Rattle.mask_cells.specs.MaskCells.{is_marked}
use Rattle.mask_cells.specs.private.Positions.{cell_of, row_end}
use Rattle.mask_cells.proofs.Positions.{marked-at}
use Rattle.mask_cells.proofs.Those.{Throughout}
use Rattle.mask_cells.proofs.RunSteps.{NextRun}

module _ (ws : List ℕ) where
  -- A clear bit marks no cell, and a bit that is not clear marks one.
  clear_unmarked : (k : ℕ) → eqb (bit_at ws k) 0 ≡ true → is_marked ws (cell_of k) ≡ false
  clear_unmarked k e = let clear = eqb-true (bit_at ws k) 0 e in marked-at ws k ∙ ne_eqb (bit_at ws k) 1 (λ set. omega arith)

  set_marked : (k : ℕ) → eqb (bit_at ws k) 0 ≡ false → is_marked ws (cell_of k) ≡ true
  set_marked k e = let set : bit_at ws k ≡ 1 = go (eqb-false (bit_at ws k) 0 e) in marked-at ws k ∙ eq-eqb (bit_at ws k) 1 set
    where
      go : (bit_at ws k ≡ 0 → ⊥) → bit_at ws k ≡ 1
      go not_clear = omega arith

  -- The positions before the first set bit.
  none-marked : (g n : ℕ) → Throughout (is_marked ws) false g (first_bit 1 ws n g - g)
  none-marked g n k l h = marked-at ws k ∙ none_before (λ j. eqb (bit_at ws j) 1) n g k l (omega (arith, found_bounds (λ j. eqb (bit_at ws j) 1) n g))

  -- No set bit below the end: no marked position.
  pub none-next : (g end : ℕ) → g ≤ end → end ≤ first_bit 1 ws (end - g) g → Throughout (is_marked ws) false g (end - g)
  none-next g end h none k l m = none-marked g (end - g) k l (omega arith)

  -- A set bit below the end, of a mask of whole rows: the run from there up to the first clear bit, or up to the end of the row.
  pub next_found : (g s e end : ℕ) → end % 1024 ≡ 0 → s ≡ first_bit 1 ws (end - g) g → s < end → e ≡ first_bit 0 ws (row_end s - s) s → NextRun ws g s e end
  next_found g s e end whole at-s below at-e =
      record {
        from = from;
        nonempty = go (eq-or-lt_of_le start);
        in_row = in_row;
        within = omega (arith, in_row);
        unmarked = subst (λ t. Throughout (is_marked ws) false g (t - g)) (sym at-s) (none-marked g (end - g));
        marked = λ k l h. set_marked k (none_before clear (row_end s - s) s k l (omega arith));
        stops = by_end (eq-or-lt_of_le in_row);
      }
    where
      clear : ℕ → Bool
      clear k = eqb (bit_at ws k) 0

      from : g ≤ s
      from = omega (arith, found_bounds (λ k. eqb (bit_at ws k) 1) (end - g) g)

      start : s ≤ e
      start = omega (arith, found_bounds clear (row_end s - s) s)

      in_row : e ≤ row_end s
      in_row = omega (arith, found_bounds clear (row_end s - s) s)

      clear_there : e < row_end s → clear e ≡ true
      clear_there h = subst (λ t. clear t ≡ true) (sym at-e) (found_holds clear (row_end s - s) s (omega arith))

      set_there : eqb (bit_at ws s) 1 ≡ true
      set_there = subst (λ t. eqb (bit_at ws t) 1 ≡ true) (sym at-s) (found_holds (λ k. eqb (bit_at ws k) 1) (end - g) g (omega arith))

      not_clear : clear s ≡ true → ⊥
      not_clear h = let set = eqb-true (bit_at ws s) 1 set_there in let unset = eqb-true (bit_at ws s) 0 h in omega arith

      go : (s ≡ e) ⊎ (s < e) → s < e
      go (inl h) = absurd (not_clear (subst (λ t. clear t ≡ true) (sym h) (clear_there (omega arith))))
      go (inr h) = h

      by_end : (e ≡ row_end s) ⊎ (e < row_end s) → (e ≡ row_end s) ⊎ (is_marked ws (cell_of e) ≡ false)
      by_end (inl h) = inl h
      by_end (inr h) = inr (clear_unmarked e (clear_there h))
