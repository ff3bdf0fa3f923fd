-- Every one of a mask's longest runs has marked cells only, and cannot be made longer.
use mathlib.Core.Path.{◌≡◌, refl, sym, ap, ◌∙◌}
use mathlib.Core.Bool.{Bool, true, false, not, ◌&&◌, ◌||◌, false≢true}
use mathlib.Core.List.{List, [], ◌∷◌}
use mathlib.Core.Logic.{◌⊎◌, inl, inr}
use Prim.Native.Nat.{ℕ, zero, suc, ◌+◌, ◌-◌, ◌*◌, ◌≤◌, ◌<◌}
use native.Mathlib.Nat.{eq-or-lt_of_le}
use native.Mathlib.Omega.{arith}
use lib.Dec.{eqb}
use lib.ListN.{length}
use borrow.Author.Tests.{eqb-true}
use Rattle.cells.specs.declared.Run.{Run}
use Rattle.cells.specs.RegionCall.{run_at}
use Rattle.mask_cells.specs.MaskCells.{cell_at, is_marked, begins_run, longest_runs}
use Rattle.mask_cells.specs.MaskLaws.{Longest, EachLongest}
use Rattle.mask_cells.specs.private.Positions.{cell_of, row_end}
use Rattle.mask_cells.proofs.Positions.{positions, cell_of_row}
use Rattle.mask_cells.proofs.RunSteps.{Outside, outside-row, outside-next, NextRun, begins_there}
use Rattle.mask_cells.proofs.RunsFrom.{start_of, end_of, RunsFrom, longest_first}

module _ (ws : List ℕ) where
  -- Where a run begins, the neighbour to the west is not marked or there is none.
  unmarked_west : (y x : ℕ) → begins_run ws (cell_at y x) ≡ true → (x ≡ 0) ⊎ (is_marked ws (cell_at y (x - 1)) ≡ false)
  unfolding begins_run
  unmarked_west y x e = go (is_marked ws (cell_at y x)) (eqb x 0) (is_marked ws (cell_at y (x - 1))) (eqb-true x 0) e
    where
      go : (a b c : Bool) → (b ≡ true → x ≡ 0) → (a && (b || not c)) ≡ true → (x ≡ 0) ⊎ (c ≡ false)
      go a true c f e = inl (f refl)
      go a false false f e = inr refl
      go true false true f e = absurd (false≢true e)
      go false false true f e = absurd (false≢true e)

  longest : (g : ℕ) (r : Run) → Outside ws g → r.first + r.length ≤ 1024 → NextRun ws g (start_of r) (end_of r) (positions ws) → Longest ws r
  longest g r out row next =
      record {
        nonempty = nonempty;
        in_row = row;
        in_mask = omega (arith, next.within);
        marked = λ x l h. ap (is_marked ws) (sym (cell_of_row r.row x (omega arith))) ∙ next.marked (1024 * r.row + x) (omega arith) (omega arith);
        begins = unmarked_west r.row r.first (ap (begins_run ws) (sym (cell_of_row r.row r.first (omega (arith, nonempty)))) ∙ begins_there ws out next);
        ends = go next.stops;
      }
    where
      nonempty : 0 < r.length
      nonempty = omega (arith, next.nonempty)

      by_column : is_marked ws (cell_of (end_of r)) ≡ false → (r.first + r.length ≡ 1024) ⊎ (r.first + r.length < 1024)
          → (r.first + r.length ≡ 1024) ⊎ (is_marked ws (cell_at r.row (r.first + r.length)) ≡ false)
      by_column e (inl h) = inl h
      by_column e (inr h) =
          let same : 1024 * r.row + (r.first + r.length) ≡ end_of r = omega arith in
          inr (ap (is_marked ws) (sym (cell_of_row r.row (r.first + r.length) h)) ∙ ap (λ k. is_marked ws (cell_of k)) same ∙ e)

      go : (end_of r ≡ row_end (start_of r)) ⊎ (is_marked ws (cell_of (end_of r)) ≡ false)
          → (r.first + r.length ≡ 1024) ⊎ (is_marked ws (cell_at r.row (r.first + r.length)) ≡ false)
      go (inl h) = inl (omega (arith, nonempty))
      go (inr e) = by_column e (eq-or-lt_of_le row)

  longest_from : (g : ℕ) (rs : List Run) → Outside ws g → RunsFrom ws (positions ws) g rs → (i : ℕ) → i < length rs → Longest ws (run_at rs i)
  longest_from g [] out none i h = absurd (omega arith)
  longest_from g (r ∷ rs) out (row, next, rest) zero h = longest g r out row next
  longest_from g (r ∷ rs) out (row, next, rest) (suc i) h = longest_from (end_of r) rs (outside-next ws next) rest i (omega arith)

pub each_longest : EachLongest
each_longest ws i h = longest_from ws 0 (longest_runs ws) (outside-row ws 0 (omega arith)) (longest_first ws) i h
