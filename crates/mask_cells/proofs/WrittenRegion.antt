-- Where the writer is not refused, the runs that it writes make up the mask: the call on runs accepts them, with the mask's own totals.
use mathlib.Core.Path.{◌≡◌, refl, ap, ◌∙◌}
use mathlib.Core.Bool.{Bool, true, false, cond}
use mathlib.Core.List.{List, ◌++◌}
use Prim.Native.Nat.{ℕ, ◌+◌}
use native.Mathlib.Omega.{arith}
use lib.Dec.{ltb}
use lib.ListN.{length, drop, length-append, length-drop}
use lib.Seq.{take-append_seam}
use borrow.Author.Tests.{ltb-false}
use Rattle.integers.proofs.Flags.{both_failed}
use Rattle.outline.specs.ListCall.{accepted}
use Rattle.cell_ground.specs.Ground.{ground_of}
use Rattle.cells.specs.declared.Run.{Run}
use Rattle.cells.specs.RegionCall.{too_many, region_call}
use Rattle.mask_cells.specs.MaskCells.{marked_cells, longest_runs}
use Rattle.mask_cells.specs.MaskCalls.{wrong_length, mask_totals_call, MaskRunsOutcome, nothing_written, too_many_for, mask_runs_call}
use Rattle.mask_cells.specs.MaskLaws.{WrittenRegion}
use Rattle.mask_cells.proofs.RunsAccepted.{runs-accepted}

-- What the writer leaves that wrote all longest runs.
abbrev written : List ℕ → List Run → MaskRunsOutcome
written ws before = record { number = 0; index = 0; count = length (longest_runs ws); list = longest_runs ws ++ drop (length (longest_runs ws)) before }

-- Neither 31 nor 8.
neither_refused : (ws : List ℕ) (before : List Run) → (mask_runs_call ws before).number ≡ 0 → (wrong_length (length ws) ≡ false) × (too_many_for before (longest_runs ws) ≡ false)
unfolding mask_runs_call
neither_refused ws before e = go (wrong_length (length ws)) (too_many_for before (longest_runs ws)) e
  where
    go : (a b : Bool) → (cond a (nothing_written 31 before) (cond b (nothing_written 8 before) (written ws before))).number ≡ 0 → (a ≡ false) × (b ≡ false)
    go true b e = absurd (omega arith)
    go false true e = absurd (omega arith)
    go false false e = (refl, refl)

all_written : (ws : List ℕ) (before : List Run) → wrong_length (length ws) ≡ false → too_many_for before (longest_runs ws) ≡ false → mask_runs_call ws before ≡ written ws before
unfolding mask_runs_call
all_written ws before right few = rw (right, few)

totals_given : (ws : List ℕ) → wrong_length (length ws) ≡ false → mask_totals_call ws ≡ accepted (ground_of (marked_cells ws))
unfolding mask_totals_call
totals_given ws right = rw right

pub written_region : WrittenRegion
unfolding too_many_for
written_region ws before e =
    let (right, few) = neither_refused ws before e in
    let (enough, room) = both_failed (too_many (longest_runs ws)) (ltb (length before) (length (longest_runs ws))) few in
    let fits = ltb-false (length before) (length (longest_runs ws)) room in
    let rs = longest_runs ws in
    let rest = drop (length rs) before in
    let call = all_written ws before right few in
    let given = totals_given ws right in
    record {
      count = rw call;
      list = rw call;
      as_long = rw call (length-append rs rest ∙ ap (λ n. length rs + n) (length-drop (length rs) before) ∙ omega arith);
      runs = rw call (take-append_seam rs rest);
      totals = rw (call, given) (ap region_call (take-append_seam rs rest) ∙ runs-accepted ws right enough);
      mask_accepted = rw given;
    }
