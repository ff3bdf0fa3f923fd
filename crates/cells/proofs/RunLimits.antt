-- Both sides of each limit of the refusals 6, 7 and 8, their order, and the totals of several runs, each by computation from the definitions.
use Prim.Native.Nat.{ℕ, zero, suc}
use mathlib.Core.Path.{◌≡◌, refl}
use mathlib.Core.List.{List, [], ◌∷◌, map}
use lib.IntN.{pos}
use lib.ListN.{replicate}
use Rattle.cells.specs.declared.Run.{Run}
use Rattle.outline.specs.declared.Totals.{Totals}
use Rattle.cell_ground.specs.CellSums.{sums_over}
use Rattle.cell_ground.specs.Ground.{ground_of}
use Rattle.cells.specs.RunCells.{cells_from, cells_of, all_cells}
use Rattle.cells.specs.RegionCall.{bad_run, any_bad, lies_after, disordered, too_many, region_call}

abbrev pub run : ℕ → ℕ → ℕ → Run
run y x n = record { row = y; first = x; length = n }

-- the number answered for each list of runs, for each run alone, and for each run after the one of row 3, column 2 and length 3
abbrev numbers : List (List Run) → List ℕ
numbers ls = map (λ rs. (region_call rs).number) ls

abbrev alone : List Run → List ℕ
alone rs = numbers (map (λ r. r ∷ []) rs)

abbrev following : List Run → List ℕ
following rs = numbers (map (λ r. run 3 2 3 ∷ r ∷ []) rs)

-- ---- 6

record Six : Type 0 where
  row : alone (run 1023 0 1 ∷ run 1024 0 1 ∷ []) ≡ 0 ∷ 6 ∷ []
  last-column : alone (run 0 1023 1 ∷ run 0 1023 2 ∷ run 0 1024 1 ∷ []) ≡ 0 ∷ 6 ∷ 6 ∷ []
  whole_row : alone (run 0 0 1024 ∷ run 0 0 1025 ∷ []) ≡ 0 ∷ 6 ∷ []
  empty : alone (run 0 0 1 ∷ run 0 0 0 ∷ run 3 2 0 ∷ run 1023 1024 0 ∷ []) ≡ 0 ∷ 6 ∷ 6 ∷ 6 ∷ []
  -- first column plus length is 2^32 + 1: it does not wrap
  no_wrap : alone (run 0 4_294_967_295 2 ∷ run 0 2 4_294_967_295 ∷ []) ≡ 6 ∷ 6 ∷ []

six : Six
unfolding bad_run any_bad disordered too_many region_call
six = record { row = refl; last-column = refl; whole_row = refl; empty = refl; no_wrap = refl }

-- ---- 7: the run before has columns 2, 3 and 4

record Seven : Type 0 where
  same_row : following (run 3 6 1 ∷ run 3 5 1 ∷ run 3 4 1 ∷ run 3 2 3 ∷ run 3 1 1 ∷ run 3 0 2 ∷ []) ≡ 0 ∷ 0 ∷ 7 ∷ 7 ∷ 7 ∷ 7 ∷ []
  other_row : following (run 4 0 1 ∷ run 2 0 1 ∷ run 2 1023 1 ∷ []) ≡ 0 ∷ 7 ∷ 7 ∷ []
  -- any two runs in turn
  later_pair : numbers ((run 0 0 1 ∷ run 1 0 1 ∷ run 1 0 1 ∷ []) ∷ (run 1 0 1 ∷ run 0 0 1 ∷ run 2 0 1 ∷ []) ∷ []) ≡ 7 ∷ 7 ∷ []

seven : Seven
unfolding bad_run any_bad lies_after disordered too_many region_call
seven = record { same_row = refl; other_row = refl; later_pair = refl }

-- ---- 8

-- before the runs rs, four in each row below y
four_in_each : ℕ → List Run → List Run
four_in_each zero rs = rs
four_in_each (suc y) rs = four_in_each y (run y 0 1 ∷ run y 1 1 ∷ run y 2 1 ∷ run y 3 1 ∷ rs)

allowed_runs : numbers (four_in_each 1024 [] ∷ four_in_each 1024 (run 1023 4 1 ∷ []) ∷ []) ≡ 0 ∷ 8 ∷ []
unfolding four_in_each bad_run any_bad lies_after disordered too_many region_call
allowed_runs = refl

-- ---- the order 8, 6, 7

record Order : Type 0 where
  eight_before_six : numbers (replicate 4096 (run 0 0 0) ∷ replicate 4097 (run 0 0 0) ∷ []) ≡ 6 ∷ 8 ∷ []
  eight_before_seven : numbers (replicate 4096 (run 3 2 3) ∷ replicate 4097 (run 3 2 3) ∷ []) ≡ 7 ∷ 8 ∷ []
  -- 6 by the run that breaks 7, by one after it, by one before it
  six_before_seven : numbers ((run 3 2 3 ∷ run 3 0 0 ∷ []) ∷ (run 3 2 3 ∷ run 2 0 1 ∷ run 4 0 1 ∷ run 5 0 0 ∷ []) ∷ (run 0 0 0 ∷ run 3 2 3 ∷ run 2 0 1 ∷ []) ∷ []) ≡ 6 ∷ 6 ∷ 6 ∷ []

order : Order
unfolding bad_run any_bad lies_after disordered too_many region_call
order = record { eight_before_six = refl; eight_before_seven = refl; six_before_seven = refl }

-- ---- totals

-- the cells (2,1) (3,1) (6,1) (0,4) (1,4): x is the column, y the row, and no two of the six totals are equal
abbrev pub several_runs : List Run
several_runs = run 1 2 2 ∷ run 1 6 1 ∷ run 4 0 2 ∷ []

abbrev pub several_totals : Totals
several_totals = record { a2 = pos 10; x6 = pos 87; y6 = pos 81; xx12 = pos 764; xy24 = pos 666; yy12 = pos 572 }

pub record Accepted : Type 0 where
  pub several_runs_lem : region_call several_runs ≡ record { number = 0; index = 0; totals = several_totals }
  -- three cells and one above the first: the ground is less than that of the rectangle round it
  pub two_rows_lem : region_call (run 0 0 3 ∷ run 1 0 1 ∷ []) ≡ record { number = 0; index = 0; totals = record { a2 = pos 8; x6 = pos 30; y6 = pos 18; xx12 = pos 112; xy24 = pos 72; yy12 = pos 40 } }
  pub no_runs_lem : region_call [] ≡ record { number = 0; index = 0; totals = record { a2 = pos 0; x6 = pos 0; y6 = pos 0; xx12 = pos 0; xy24 = pos 0; yy12 = pos 0 } }

pub accepted : Accepted
unfolding cells_from cells_of all_cells sums_over ground_of bad_run any_bad lies_after disordered too_many region_call
accepted = record { several_runs_lem = refl; two_rows_lem = refl; no_runs_lem = refl }
