-- The call on runs accepts the longest runs of a mask that has not too many, with the totals of the ground under the marked cells.
use mathlib.Core.Path.{◌≡◌, refl, ap}
use mathlib.Core.Bool.{true, false, not}
use mathlib.Core.List.{List, [], ◌∷◌}
use mathlib.Core.Logic.{inl, inr}
use Prim.Native.Nat.{ℕ, ◌/◌, ◌≤◌}
use native.Mathlib.Omega.{arith}
use lib.ListN.{length}
use Rattle.integers.proofs.Flags.{neither}
use Rattle.cell_ground.specs.Ground.{ground_of}
use Rattle.cells.specs.declared.Run.{Run}
use Rattle.cells.specs.RegionCall.{bad_run, lies_after, disordered, run_at, region_call}
use Rattle.cells.proofs.RunRules.{six-kept, seven-kept}
use Rattle.cells.proofs.RulePlaces.{none_bad}
use Rattle.mask_cells.specs.MaskCells.{longest_runs}
use Rattle.mask_cells.specs.MaskLaws.{Apart, Longest, RunsAccepted}
use Rattle.mask_cells.proofs.Lengths.{rows_in_grid}
use Rattle.mask_cells.proofs.NoneTouch.{ApartInTurn, longest_in_turn}
use Rattle.mask_cells.proofs.EachLongest.{each_longest}
use Rattle.mask_cells.proofs.RunsCells.{runs_cells}

-- ---- 6

longest_good : (ws : List ℕ) (r : Run) → length ws / 16 ≤ 1024 → Longest ws r → bad_run r ≡ false
longest_good ws r h l = six-kept r (record { row = omega (arith, l.in_mask); cells = l.nonempty; end = l.in_row })

-- ---- 7

apart-after : (p r : Run) → Apart p r → lies_after p r ≡ true
apart-after p r (inl above) = seven-kept p r (inl above)
apart-after p r (inr (row, east)) = seven-kept p r (inr (row, omega arith))

apart_ordered : (rs : List Run) → ApartInTurn rs → disordered rs ≡ false
unfolding disordered
apart_ordered [] a = refl
apart_ordered (r ∷ []) a = refl
apart_ordered (r ∷ q ∷ rs) (apart, a) = neither (ap not (apart-after r q apart)) (apart_ordered (q ∷ rs) a)

-- ---- the call

pub runs-accepted : RunsAccepted
unfolding region_call
runs-accepted ws right few =
    let good = none_bad (longest_runs ws) (λ k h. longest_good ws (run_at (longest_runs ws) k) (rows_in_grid (length ws) right) (each_longest ws k h)) in
    let ordered = apart_ordered (longest_runs ws) (longest_in_turn ws) in
    rw (few, good, ordered) (ap (λ cs. record { number = 0; index = 0; totals = ground_of cs }) (runs_cells ws))
