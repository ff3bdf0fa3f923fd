-- Replies worked by computation: where each value stands, what stays behind the values, the number of a short buffer, and which list of runs the caller has afterwards.
use mathlib.Core.Path.{◌≡◌, refl}
use mathlib.Core.List.{[], ◌∷◌}
use lib.IntN.{pos}
use lib.ListN.{replicate}
use Rattle.cell_ground.specs.CellSums.{sums_over}
use Rattle.cell_ground.specs.Ground.{ground_of}
use Rattle.cells.specs.declared.Run.{Run}
use Rattle.cells.specs.RunCells.{cells_from}
use Rattle.cells.specs.RegionCall.{empty_run}
use Rattle.mask_cells.specs.MaskCells.{is_marked, rows_from, those, marked_cells}
use Rattle.mask_cells.specs.MaskCalls.{wrong_length, mask_totals_call, MaskRunsOutcome}
use Rattle.replies.specs.Reply.{reply}
use Rattle.outline_replies.specs.OutlineReply.{totals_reply}
use Rattle.mask_replies.specs.MaskReply.{mask_runs_reply}

-- The cell of row 0 and column 1: its totals, from one row of words.
totals : totals_reply (mask_totals_call (2 ∷ replicate 15 0)) (replicate 7 (pos 9)) ≡ record { number = 0; buffer = pos 2 ∷ pos 9 ∷ pos 3 ∷ pos 28 ∷ pos 18 ∷ pos 4 ∷ pos 9 ∷ [] }
unfolding cells_from sums_over ground_of is_marked rows_from those marked_cells wrong_length mask_totals_call reply
totals = refl

-- One word, which is no whole row.
refused-totals : totals_reply (mask_totals_call (2 ∷ [])) (replicate 6 (pos 9)) ≡ record { number = 31; buffer = replicate 6 (pos 0) }
unfolding wrong_length mask_totals_call reply
refused-totals = refl

short_for_totals : totals_reply (mask_totals_call (2 ∷ [])) (replicate 5 (pos 9)) ≡ record { number = 100; buffer = replicate 5 (pos 9) }
unfolding wrong_length mask_totals_call reply
short_for_totals = refl

-- Cells 3 and 4 of row 2.
abbrev found : Run
found = record { row = 2; first = 3; length = 2 }

-- One run written into a list of two.
abbrev written : MaskRunsOutcome
written = record { number = 0; index = 0; count = 1; list = found ∷ empty_run ∷ [] }

runs : mask_runs_reply written (empty_run ∷ empty_run ∷ []) (pos 8 ∷ pos 9 ∷ []) ≡ record { number = 0; runs = found ∷ empty_run ∷ []; buffer = pos 1 ∷ pos 9 ∷ [] }
unfolding mask_runs_reply reply
runs = refl

refused-runs : mask_runs_reply (record { number = 8; index = 0; count = 0; list = [] }) [] (pos 8 ∷ []) ≡ record { number = 8; runs = []; buffer = pos 0 ∷ [] }
unfolding mask_runs_reply reply
refused-runs = refl

-- A buffer without an entry: the list too is as it was.
short_for_runs : mask_runs_reply written (empty_run ∷ empty_run ∷ []) [] ≡ record { number = 100; runs = empty_run ∷ empty_run ∷ []; buffer = [] }
unfolding mask_runs_reply reply
short_for_runs = refl
