-- Masks worked by hand: their marked cells, runs, totals and what the writer leaves, by computation from the definitions.
use Prim.Native.Nat.{ℕ, ◌+◌}
use mathlib.Core.Path.{◌≡◌, refl}
use mathlib.Core.List.{List, [], ◌∷◌, ◌++◌}
use lib.IntN.{pos}
use lib.ListN.{replicate}
use Rattle.integers.specs.Search.{first_where}
use Rattle.cell_ground.specs.CellSums.{sums_over}
use Rattle.cell_ground.specs.Ground.{ground_of}
use Rattle.cells.specs.declared.Run.{Run}
use Rattle.cells.specs.RunCells.{cells_from}
use Rattle.cells.specs.RegionCall.{too_many}
use Rattle.mask_cells.specs.MaskCells.{is_marked, rows_from, those, marked_cells, begins_run, end_column, longest_runs}
use Rattle.mask_cells.specs.MaskCalls.{wrong_length, mask_totals_call, too_many_for, mask_runs_call}

abbrev pub run : ℕ → ℕ → ℕ → Run
run y x n = record { row = y; first = x; length = n }

-- ---- a mask of two rows

-- Row 0: bits 0 and 63 of word 0, bits 0 and 1 of word 1, bit 63 of word 15. Row 1: bit 0 of word 0.
abbrev pub corners : List ℕ
corners = 0x8000_0000_0000_0001 ∷ 3 ∷ replicate 13 0 ++ 0x8000_0000_0000_0000 ∷ 1 ∷ replicate 15 0

-- Column 63 joins column 64, in the next word; column 1,023 does not join column 0 of the next row.
abbrev pub corner_runs : List Run
corner_runs = run 0 0 1 ∷ run 0 63 3 ∷ run 0 1023 1 ∷ run 1 0 1 ∷ []

-- Records that the caller's list holds before.
abbrev pub old : ℕ → Run
old k = run (100 + k) 5 6

pub record Corners : Type 0 where
  pub runs : longest_runs corners ≡ corner_runs
  pub totals : mask_totals_call corners ≡ record { number = 0; totals = record { a2 = pos 12; x6 = pos 7308; y6 = pos 24; xx12 = pos 12_720_432; xy24 = pos 14_628; yy12 = pos 48 } }
  -- the writer, into a list longer by two, as long, shorter by one, and empty
  pub longer : mask_runs_call corners (old 0 ∷ old 1 ∷ old 2 ∷ old 3 ∷ old 4 ∷ old 5 ∷ []) ≡ record { number = 0; index = 0; count = 4; list = corner_runs ++ old 4 ∷ old 5 ∷ [] }
  pub as_long : mask_runs_call corners (old 0 ∷ old 1 ∷ old 2 ∷ old 3 ∷ []) ≡ record { number = 0; index = 0; count = 4; list = corner_runs }
  pub shorter : mask_runs_call corners (old 0 ∷ old 1 ∷ old 2 ∷ []) ≡ record { number = 8; index = 0; count = 0; list = old 0 ∷ old 1 ∷ old 2 ∷ [] }
  pub none : mask_runs_call corners [] ≡ record { number = 8; index = 0; count = 0; list = [] }

pub worked_corners : Corners
unfolding first_where cells_from sums_over ground_of too_many is_marked rows_from those marked_cells begins_run end_column longest_runs wrong_length mask_totals_call too_many_for mask_runs_call
worked_corners = record { runs = refl; totals = refl; longer = refl; as_long = refl; shorter = refl; none = refl }

-- ---- other masks

abbrev full : ℕ
full = 0xffff_ffff_ffff_ffff

record Others : Type 0 where
  -- no rows: no cells
  no_rows : mask_totals_call [] ≡ record { number = 0; totals = record { a2 = pos 0; x6 = pos 0; y6 = pos 0; xx12 = pos 0; xy24 = pos 0; yy12 = pos 0 } }
  no_runs_lem : mask_runs_call [] (old 0 ∷ []) ≡ record { number = 0; index = 0; count = 0; list = old 0 ∷ [] }
  -- two full rows are two runs
  full_rows : longest_runs (replicate 32 full) ≡ run 0 0 1024 ∷ run 1 0 1024 ∷ []
  -- a full word in the second row, and on either side of it a clear bit and a set one
  full_word : longest_runs (replicate 20 0 ++ 0x4000_0000_0000_0000 ∷ full ∷ 2 ∷ replicate 9 0) ≡ run 1 318 1 ∷ run 1 320 64 ∷ run 1 385 1 ∷ []
  -- a cell at (1, 2): x is the column, y the row
  one_cell : mask_totals_call (replicate 32 0 ++ 2 ∷ replicate 15 0) ≡ record { number = 0; totals = record { a2 = pos 2; x6 = pos 9; y6 = pos 15; xx12 = pos 28; xy24 = pos 90; yy12 = pos 76 } }
  -- bits 0, 2 and 3, and 60 to 63
  lowest_first : longest_runs (0xf000_0000_0000_000d ∷ replicate 15 0) ≡ run 0 0 1 ∷ run 0 2 2 ∷ run 0 60 4 ∷ []

worked_others : Others
unfolding first_where cells_from sums_over ground_of too_many is_marked rows_from those marked_cells begins_run end_column longest_runs wrong_length mask_totals_call too_many_for mask_runs_call
worked_others = record { no_rows = refl; no_runs_lem = refl; full_rows = refl; full_word = refl; one_cell = refl; lowest_first = refl }
