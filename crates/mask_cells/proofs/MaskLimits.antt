-- Both sides of each limit of the refusals 31 and 8, for the totals and for the writer, and the order of the two.
use Prim.Native.Nat.{ℕ, ◌+◌, ◌*◌, ◌/◌, ◌%◌, ◌≤◌, ◌<◌}
use mathlib.Core.Path.{◌≡◌, refl, ap}
use mathlib.Core.Bool.{true, false, not}
use mathlib.Core.List.{List, [], ◌∷◌, ◌++◌}
use native.Mathlib.Omega.{arith}
use lib.IntN.{pos}
use lib.ListN.{length, replicate, length-replicate}
use borrow.Author.Tests.{lt-ltb, le-ltb, eq-eqb, ne_eqb}
use Rattle.integers.proofs.Flags.{neither}
use Rattle.integers.specs.Search.{first_where}
use Rattle.cells.specs.declared.Run.{Run}
use Rattle.cells.specs.RunCells.{cells_from}
use Rattle.cells.specs.RegionCall.{too_many}
use Rattle.mask_cells.specs.MaskCells.{is_marked, rows_from, those, begins_run, end_column, longest_runs}
use Rattle.mask_cells.specs.MaskCalls.{wrong_length, mask_totals_call, MaskRunsOutcome, too_many_for, mask_runs_call}

-- ---- 31

-- Both calls refuse every mask of n words with 31, whatever its words are and whatever the caller's list holds: so 31 comes before 8.
record Refused (n : ℕ) : Type 0 where
  totals : (ws : List ℕ) → length ws ≡ n → mask_totals_call ws ≡ record { number = 31; totals = record { a2 = pos 0; x6 = pos 0; y6 = pos 0; xx12 = pos 0; xy24 = pos 0; yy12 = pos 0 } }
  runs : (ws : List ℕ) → length ws ≡ n → (before : List Run) → mask_runs_call ws before ≡ record { number = 31; index = 0; count = 0; list = before }

-- The totals of a mask of n words are never refused; nor is the writer, where its runs are not too many.
record Taken (n : ℕ) : Type 0 where
  totals : (ws : List ℕ) → length ws ≡ n → (mask_totals_call ws).number ≡ 0
  runs : (ws : List ℕ) → length ws ≡ n → (before : List Run) → too_many_for before (longest_runs ws) ≡ false → (mask_runs_call ws before).number ≡ 0

-- The test looks at the number of words alone, so n tells what holds of every mask of n words.
refused_as : (n : ℕ) → wrong_length n ≡ true → Refused n
unfolding mask_totals_call mask_runs_call
refused_as n e = record { totals = λ ws l. rw (l, e); runs = λ ws l before. rw (l, e) }

taken_as : (n : ℕ) → wrong_length n ≡ false → Taken n
unfolding mask_totals_call mask_runs_call
taken_as n e = record { totals = λ ws l. rw (l, e); runs = λ ws l before few. rw (l, e, few) }

-- Whole rows up to 1,024 are taken; more rows, and a part of a row, are refused.
rows_taken : (n : ℕ) → n ≤ 1024 → Taken (16 * n)
unfolding wrong_length
rows_taken n h = taken_as (16 * n) (neither (ap not (eq-eqb (16 * n % 16) 0 (omega arith))) (le-ltb 1024 (16 * n / 16) (omega arith)))

more-rows-refused : (n : ℕ) → 1024 < n → Refused (16 * n)
unfolding wrong_length
more-rows-refused n h = refused_as (16 * n) (rw (eq-eqb (16 * n % 16) 0 (omega arith), lt-ltb 1024 (16 * n / 16) (omega arith)))

part-refused : (n r : ℕ) → 0 < r → r < 16 → Refused (16 * n + r)
unfolding wrong_length
part-refused n r l h = refused_as (16 * n + r) (rw (ne_eqb ((16 * n + r) % 16) 0 (λ e. omega arith)))

record Lengths : Type 0 where
  no_rows : Taken 0
  one_word : Refused 1
  half_row : Refused 8
  -- one row, and a word less or more
  row_less : Refused 15
  row : Taken 16
  row_more : Refused 17
  half_row_more : Refused 24
  two_rows_lem : Taken 32
  -- a mask of nine rows can have more than 4,096 runs, and has its totals
  nine_rows_lem : Taken 144
  -- 1,024 rows, a word less or more, and a row more
  grid_less : Refused 16_383
  grid : Taken 16_384
  grid_more : Refused 16_385
  row_too_many : Refused 16_400

lengths : Lengths
unfolding wrong_length
lengths =
    record {
      no_rows = taken_as 0 refl;
      one_word = refused_as 1 refl;
      half_row = refused_as 8 refl;
      row_less = refused_as 15 refl;
      row = taken_as 16 refl;
      row_more = refused_as 17 refl;
      half_row_more = refused_as 24 refl;
      two_rows_lem = taken_as 32 refl;
      nine_rows_lem = taken_as 144 refl;
      grid_less = refused_as 16_383 refl;
      grid = taken_as 16_384 refl;
      grid_more = refused_as 16_385 refl;
      row_too_many = refused_as 16_400 refl;
    }

-- ---- 8

-- Every other cell of eight rows: 4,096 runs.
abbrev eight_rows : List ℕ
eight_rows = replicate 128 0x5555_5555_5555_5555

-- One cell more in the row above: 4,097 runs.
abbrev nine_rows : List ℕ
nine_rows = eight_rows ++ 1 ∷ replicate 15 0

-- A list of the caller's with room for n runs.
abbrev room : ℕ → List Run
room n = replicate n (record { row = 7; first = 7; length = 7 })

-- The number that the writer answers, and how many it counts.
abbrev answer : MaskRunsOutcome → ℕ × ℕ
answer o = (o.number, o.count)

-- How many runs the two masks have: counted here, and once.
eight-rows-runs : length (longest_runs eight_rows) ≡ 4096
unfolding first_where cells_from is_marked rows_from those begins_run end_column longest_runs
eight-rows-runs = refl

nine_rows_runs : length (longest_runs nine_rows) ≡ 4097
unfolding first_where cells_from is_marked rows_from those begins_run end_column longest_runs
nine_rows_runs = refl

-- A mask of whole rows that has n runs, and a list with room for m.
module _ (ws : List ℕ) (n m : ℕ) (whole : wrong_length (length ws) ≡ false) (runs : length (longest_runs ws) ≡ n) where
  -- The test looks at how many runs there are, and not at the runs.
  any_runs : too_many_for (room m) (longest_runs ws) ≡ too_many_for (room m) (room n)
  unfolding too_many too_many_for
  any_runs = rw (runs, length-replicate n)

  written : too_many_for (room m) (room n) ≡ false → answer (mask_runs_call ws (room m)) ≡ (0, n)
  unfolding mask_runs_call
  written few = rw (whole, any_runs, few, runs)

  not_written : too_many_for (room m) (room n) ≡ true → mask_runs_call ws (room m) ≡ record { number = 8; index = 0; count = 0; list = room m }
  unfolding mask_runs_call
  not_written many = rw (whole, any_runs, many)

record Eight : Type 0 where
  -- as many runs as the list holds, and room for one less
  as_many : answer (mask_runs_call eight_rows (room 4096)) ≡ (0, 4096)
  one_less : mask_runs_call eight_rows (room 4095) ≡ record { number = 8; index = 0; count = 0; list = room 4095 }
  -- 4,097 runs, in a list that would hold them
  too_many_lem : mask_runs_call nine_rows (room 4097) ≡ record { number = 8; index = 0; count = 0; list = room 4097 }
  far_more_room : mask_runs_call nine_rows (room 5000) ≡ record { number = 8; index = 0; count = 0; list = room 5000 }
  -- no run needs no room
  empty_mask : mask_runs_call [] [] ≡ record { number = 0; index = 0; count = 0; list = [] }
  unmarked_row : mask_runs_call (replicate 16 0) [] ≡ record { number = 0; index = 0; count = 0; list = [] }

eight : Eight
unfolding first_where cells_from too_many is_marked rows_from those begins_run end_column longest_runs wrong_length too_many_for mask_runs_call
eight =
    record {
      as_many = written eight_rows 4096 4096 refl eight-rows-runs refl;
      one_less = not_written eight_rows 4096 4095 refl eight-rows-runs refl;
      too_many_lem = not_written nine_rows 4097 4097 refl nine_rows_runs refl;
      far_more_room = not_written nine_rows 4097 5000 refl nine_rows_runs refl;
      empty_mask = refl;
      unmarked_row = refl;
    }

-- ---- the order 31, 8

-- A word more than whole rows have, to masks of too many runs for the list, and of over 4,096.
record Order : Type 0 where
  no_room : mask_runs_call (1 ∷ replicate 16 0) [] ≡ record { number = 31; index = 0; count = 0; list = [] }
  too_many_runs : mask_runs_call (nine_rows ++ 0 ∷ []) (room 2) ≡ record { number = 31; index = 0; count = 0; list = room 2 }
  -- the totals are not refused with 8
  totals : (mask_totals_call nine_rows).number ≡ 0

order : Order
unfolding first_where cells_from too_many is_marked rows_from those begins_run end_column longest_runs wrong_length mask_totals_call too_many_for mask_runs_call
order = record { no_room = refl; too_many_runs = refl; totals = refl }
