-- Document 02, CR 1 and CR 2: the outcomes of the two calls on a mask, its totals and the writer of its longest runs.
use Rattle.std.specs.Prelude.{ℕ, ◌/◌, ◌%◌, Bool, not, ◌||◌, cond, List, ◌++◌, ltb, eqb, length, drop}
use Rattle.outline.specs.ListCall.{Outcome, accepted, refused}
use Rattle.cell_ground.specs.Ground.{ground_of}
use Rattle.cells.specs.declared.Run.{Run}
use Rattle.cells.specs.RegionCall.{too_many}
use Rattle.mask_cells.specs.MaskCells.{marked_cells, longest_runs}

-- Refusal 31, of a number of words: they are no whole number of rows, or are over 1,024 rows.
unfoldable pub wrong_length : ℕ → Bool
wrong_length n = not (eqb (n % 16) 0) || ltb 1024 (n / 16)

-- ---- the totals

-- Those of the ground under the marked cells.
unfoldable pub mask_totals_call : List ℕ → Outcome
mask_totals_call ws = cond (wrong_length (length ws)) (refused 31) (accepted (ground_of (marked_cells ws)))

-- ---- the writer

-- The number of the refusal or 0, the index that document 01 gives with 8, how many runs were written, and the caller's whole list afterwards.
pub record MaskRunsOutcome : Type 0 where
  pub number : ℕ
  pub index : ℕ
  pub count : ℕ
  pub list : List Run

-- A refusal writes nothing: no run is counted, and the list is as it was.
abbrev pub nothing_written : ℕ → List Run → MaskRunsOutcome
nothing_written n before = record { number = n; index = 0; count = 0; list = before }

-- Refusal 8: more than 4,096 runs, or more than the caller's list holds.
unfoldable pub too_many_for : List Run → List Run → Bool
too_many_for before rs = too_many rs || ltb (length before) (length rs)

-- Order: 31, 8. The runs fill the caller's list from its start, and what lies behind them stays.
unfoldable pub mask_runs_call : List ℕ → List Run → MaskRunsOutcome
mask_runs_call ws before =
    let rs = longest_runs ws in
    cond (wrong_length (length ws)) (nothing_written 31 before)
    (cond (too_many_for before rs) (nothing_written 8 before)
    (record { number = 0; index = 0; count = length rs; list = rs ++ drop (length rs) before }))
