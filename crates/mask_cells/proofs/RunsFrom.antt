-- The longest runs of a mask in turn: each is the next from where the one before ends, and behind the last no cell is marked. The laws of the runs go by induction over this.
use mathlib.Core.Path.{◌≡◌, refl, sym, ap, ◌∙◌, subst}
use mathlib.Core.Bool.{false}
use mathlib.Core.List.{List, [], ◌∷◌, map}
use mathlib.Core.Logic.{◌⊎◌, inl, inr}
use Prim.Native.Nat.{ℕ, zero, suc, ◌+◌, ◌-◌, ◌*◌, ◌/◌, ◌%◌, ◌≤◌, ◌<◌}
use native.Mathlib.Nat.{eq-or-lt_of_le}
use native.Mathlib.Omega.{arith}
use lib.Dec.{eqb}
use Rattle.word_runs.specs.private.WordList.{bit_at, first_bit}
use Rattle.integers.proofs.Searches.{found_bounds}
use Rattle.cells.specs.declared.Run.{Run}
use Rattle.mask_cells.specs.MaskCells.{is_marked, those, begins_run, run_from, longest_runs}
use Rattle.mask_cells.specs.private.Positions.{cells_on, row_end, run_between}
use Rattle.mask_cells.proofs.Positions.{positions, grid_cells}
use Rattle.mask_cells.proofs.Those.{Throughout}
use Rattle.mask_cells.proofs.RunSteps.{Outside, outside-row, outside-next, NextRun, runs_on, runs-step, runs_none}
use Rattle.mask_cells.proofs.NextRuns.{next_found, none-next}

-- The position of a run's first cell, and the position behind its last.
abbrev pub start_of : Run → ℕ
start_of r = 1024 * r.row + r.first

abbrev pub end_of : Run → ℕ
end_of r = start_of r + r.length

module _ (ws : List ℕ) (end : ℕ) where
  -- The runs of a list, one after another, are the longest from position g on.
  abbrev pub RunsFrom : ℕ → List Run → Type 0
  RunsFrom g [] = Throughout (is_marked ws) false g (end - g)
  RunsFrom g (r ∷ rs) = (r.first + r.length ≤ 1024) × NextRun ws g (start_of r) (end_of r) end × RunsFrom (end_of r) rs

  -- A next run by positions is one by its row, column and length.
  by_row : {g s e : ℕ} → NextRun ws g s e end → NextRun ws g (start_of (run_between s e)) (end_of (run_between s e)) end
  by_row {g} {s} {e} r =
      let start : s ≡ 1024 * (s / 1024) + s % 1024 = omega arith in
      let behind : e ≡ 1024 * (s / 1024) + s % 1024 + (e - s) = omega (arith, r.nonempty) in
      subst (λ t. NextRun ws g (1024 * (s / 1024) + s % 1024) t end) behind (subst (λ t. NextRun ws g t e end) start r)

  pub first_runs : (n g : ℕ) → end % 1024 ≡ 0 → end - g ≤ n → g ≤ end → Outside ws g → RunsFrom g (runs_on ws g end)
  first_runs zero g whole bound h out = subst (RunsFrom g) (sym (runs_none ws g end none)) none
    where
      none : Throughout (is_marked ws) false g (end - g)
      none k l m = absurd (omega arith)
  first_runs (suc n) g whole bound h out = go (eq-or-lt_of_le (found_bounds (λ k. eqb (bit_at ws k) 1) (end - g) g).1) (λ p. first_runs n p whole)
    where
      s : ℕ
      s = first_bit 1 ws (end - g) g

      go : (s ≡ g + (end - g)) ⊎ (s < g + (end - g)) → ((p : ℕ) → end - p ≤ n → p ≤ end → Outside ws p → RunsFrom p (runs_on ws p end)) → RunsFrom g (runs_on ws g end)
      go (inl none) behind = let unmarked = none-next ws g end h (omega arith) in subst (RunsFrom g) (sym (runs_none ws g end unmarked)) unmarked
      go (inr below) behind =
          let e = first_bit 0 ws (row_end s - s) s in
          let next : NextRun ws g s e end = next_found ws g s e end whole refl (omega arith) refl in
          let place : e ≡ end_of (run_between s e) = omega (arith, next.nonempty) in
          let rest = behind e (omega (arith, next.from, next.nonempty)) next.within (outside-next ws next) in
          subst (RunsFrom g) (sym (runs-step ws out next)) (omega (arith, next.in_row), by_row next, subst (λ p. RunsFrom p (runs_on ws e end)) place rest)

-- The longest runs of a mask, from its first position on.
pub longest_first : (ws : List ℕ) → RunsFrom ws (positions ws) 0 (longest_runs ws)
unfolding longest_runs
longest_first ws =
    let all : positions ws ≡ positions ws - 0 = omega arith in
    let same : longest_runs ws ≡ runs_on ws 0 (positions ws) = ap (λ cs. map (run_from ws) (those (begins_run ws) cs)) (grid_cells ws ∙ ap (cells_on 0) all) in
    subst (RunsFrom ws (positions ws) 0) (sym same) (first_runs ws (positions ws) (positions ws) 0 (omega arith) (omega arith) (omega arith) (outside-row ws 0 (omega arith)))
