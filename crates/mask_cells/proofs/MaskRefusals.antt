-- Every refusal of the mask's totals comes with six zeros, and every refusal of the writer changes nothing and counts no run.
use mathlib.Core.Path.{◌≡◌, refl, ap}
use mathlib.Core.Bool.{Bool, true, false, cond}
use mathlib.Core.List.{List, ◌++◌}
use mathlib.Core.Logic.{◌≢◌}
use Prim.Native.Nat.{ℕ}
use lib.ListN.{length, drop}
use Rattle.outline.specs.declared.Totals.{Totals}
use Rattle.outline.specs.EdgeSums.{zeros}
use Rattle.outline.specs.ListCall.{Outcome, accepted, refused}
use Rattle.cell_ground.specs.Ground.{ground_of}
use Rattle.cells.specs.declared.Run.{Run}
use Rattle.mask_cells.specs.MaskCells.{marked_cells, longest_runs}
use Rattle.mask_cells.specs.MaskCalls.{wrong_length, mask_totals_call, MaskRunsOutcome, nothing_written, too_many_for, mask_runs_call}
use Rattle.mask_cells.specs.MaskLaws.{MaskRefusals}

-- The outcomes by the tests for 31 and 8.
abbrev totals_by : Bool → Totals → Outcome
totals_by a t = cond a (refused 31) (accepted t)

abbrev runs_by : Bool → Bool → List Run → ℕ → List Run → MaskRunsOutcome
runs_by a b before n after = cond a (nothing_written 31 before) (cond b (nothing_written 8 before) (record { number = 0; index = 0; count = n; list = after }))

totals-zeros : (ws : List ℕ) → (mask_totals_call ws).number ≢ 0 → (mask_totals_call ws).totals ≡ zeros
unfolding mask_totals_call
totals-zeros ws f = go (wrong_length (length ws)) (ground_of (marked_cells ws)) f
  where
    go : (a : Bool) (t : Totals) → (totals_by a t).number ≢ 0 → (totals_by a t).totals ≡ zeros
    go true t f = refl
    go false t f = absurd (f refl)

nothing_written_lem : (ws : List ℕ) (before : List Run) → (mask_runs_call ws before).number ≢ 0 → mask_runs_call ws before ≡ record { number = (mask_runs_call ws before).number; index = 0; count = 0; list = before }
unfolding mask_runs_call
nothing_written_lem ws before f = go (wrong_length (length ws)) (too_many_for before (longest_runs ws)) (length (longest_runs ws)) (longest_runs ws ++ drop (length (longest_runs ws)) before) f
  where
    go : (a b : Bool) (n : ℕ) (after : List Run) → (runs_by a b before n after).number ≢ 0 → runs_by a b before n after ≡ record { number = (runs_by a b before n after).number; index = 0; count = 0; list = before }
    go true b n after f = refl
    go false true n after f = refl
    go false false n after f = absurd (f refl)

pub mask_refusals : MaskRefusals
mask_refusals ws before =
    record {
      totals = totals-zeros ws;
      count = λ f. ap (λ o. o.count) (nothing_written_lem ws before f);
      list = λ f. ap (λ o. o.list) (nothing_written_lem ws before f);
      index = λ f. ap (λ o. o.index) (nothing_written_lem ws before f);
    }
