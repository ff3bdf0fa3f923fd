-- The longest runs that are left from a position on, as the next run is taken from them: what the count and the writer go by.
use mathlib.Core.Path.{◌≡◌, refl, sym, ap, ◌∙◌, subst}
use mathlib.Core.Bool.{Bool, true, false}
use mathlib.Core.List.{List, [], ◌∷◌, map}
use Prim.Native.Nat.{ℕ, ◌-◌, ◌*◌, ◌/◌, ◌≤◌, min}
use native.Mathlib.Omega.{arith}
use lib.Dec.{ltb}
use lib.ListN.{length}
use borrow.Author.Tests.{ltb-true, ltb-false}
use Rattle.std.specs.Prelude.{Option, None, Some}
use Rattle.cells.specs.declared.Run.{Run}
use Rattle.mask_cells.specs.MaskCells.{those, begins_run, run_from, longest_runs}
use Rattle.mask_cells.specs.private.Positions.{cells_on}
use Rattle.mask_cells.proofs.Positions.{positions, grid_cells}
use Rattle.mask_cells.proofs.RunSteps.{Outside, outside-row, outside-next, NextRun, runs_on, runs-step, runs_none}
use Rattle.mask_cells.proofs.NextRuns.{next_found, none-next}
use Rattle.mask_cells.specs.MaskCalls.{wrong_length}
use Rattle.masks.specs.declared.scan.Found.{Found}
use Rattle.masks.specs.private.Scan.{scanned, next_run}
use Rattle.mask_cells.proofs.Lengths.{rows_in_grid}
use Rattle.masks.proofs.NextRun.{row_of_positions, start_from, end_from, none_found, run_found}

module _ (ws : List ℕ) where
  abbrev pub left : ℕ → List Run
  left at = runs_on ws at (scanned (length ws))

  -- A position where no run goes on.
  pub record Between (at : ℕ) : Type 0 where
    pub outside : Outside ws at
    pub within : at ≤ scanned (length ws)

  -- What is found next: nothing, and no run is left; or the first of the runs that are left, and where the others are.
  abbrev Steps : ℕ → Option Found → Type 0
  Steps at None = left at ≡ []
  Steps at (Some f) = (left at ≡ f.run ∷ left f.next) × Between f.next

  steps : (at : ℕ) → Between at → Steps at (next_run ws at)
  steps at b = go (ltb s end) refl
    where
      end : ℕ
      end = scanned (length ws)

      s : ℕ
      s = start_from ws at

      e : ℕ
      e = end_from ws s

      go : (t : Bool) → ltb s end ≡ t → Steps at (next_run ws at)
      go true h =
          let below = ltb-true s end h in
          let next : NextRun ws at s e end = next_found ws at s e end (row_of_positions (length ws)) refl below refl in
          subst (Steps at) (run_found ws at s e refl below refl) (runs-step ws b.outside next, record { outside = outside-next ws next; within = next.within })
      go false h =
          let past = ltb-false s end h in
          subst (Steps at) (none_found ws at s refl past) (runs_none ws at end (none-next ws at end b.within past))

  pub none_left : (at : ℕ) → Between at → None ≡ next_run ws at → left at ≡ []
  none_left at b e = subst (Steps at) (sym e) (steps at b)

  pub one_taken : (at : ℕ) (f : Found) → Between at → Some f ≡ next_run ws at → (left at ≡ f.run ∷ left f.next) × Between f.next
  one_taken at f b e = subst (Steps at) (sym e) (steps at b)

  -- At the start all are left, where 31 does not refuse the mask.
  pub first_position : Between 0
  first_position = record { outside = outside-row ws 0 (omega arith); within = omega arith }

  pub all_left : wrong_length (length ws) ≡ false → longest_runs ws ≡ left 0
  unfolding longest_runs scanned
  all_left h =
      let few = rows_in_grid (length ws) h in
      let all : positions ws ≡ min (length ws / 16) 1024 * 1024 - 0 = omega arith in
      ap (λ cs. map (run_from ws) (those (begins_run ws) cs)) (grid_cells ws ∙ ap (cells_on 0) all)
