-- Arrays worked by computation: the records past those that are lent stay, be the call accepted or refused.
use Prim.Native.Nat.{ℕ}
use mathlib.Core.Path.{◌≡◌, refl}
use mathlib.Core.List.{List, [], ◌∷◌}
use lib.ListN.{replicate}
use Rattle.integers.specs.Search.{first_where}
use Rattle.cells.specs.declared.Run.{Run}
use Rattle.cells.specs.RunCells.{cells_from}
use Rattle.cells.specs.RegionCall.{too_many}
use Rattle.mask_cells.specs.MaskCells.{is_marked, rows_from, those, begins_run, end_column, longest_runs}
use Rattle.mask_cells.specs.MaskCalls.{wrong_length, too_many_for, mask_runs_call}
use Rattle.mask_array.specs.ArrayCall.{array_call}

abbrev run : ℕ → ℕ → ℕ → Run
run y x n = record { row = y; first = x; length = n }

-- Bits 0 and 2 of a row.
abbrev two_runs : List ℕ
two_runs = 5 ∷ replicate 15 0

abbrev before : List Run
before = run 7 8 1 ∷ run 7 8 2 ∷ run 7 8 3 ∷ run 7 8 4 ∷ []

record Arrays : Type 0 where
  -- three lent: two are written, the third and the fourth stay
  part : array_call two_runs before 3 ≡ record { number = 0; index = 0; count = 2; list = run 0 0 1 ∷ run 0 2 1 ∷ run 7 8 3 ∷ run 7 8 4 ∷ [] }
  -- more than there are: all are lent
  all : array_call two_runs before 9 ≡ record { number = 0; index = 0; count = 2; list = run 0 0 1 ∷ run 0 2 1 ∷ run 7 8 3 ∷ run 7 8 4 ∷ [] }
  -- one lent: too few
  one : array_call two_runs before 1 ≡ record { number = 8; index = 0; count = 0; list = before }

worked_arrays : Arrays
unfolding first_where cells_from too_many is_marked rows_from those begins_run end_column longest_runs wrong_length too_many_for mask_runs_call array_call
worked_arrays = record { part = refl; all = refl; one = refl }
