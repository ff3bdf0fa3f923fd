-- Document 01, "Cells" and the refusals 6, 7 and 8, with the totals of document 02, CR 2, and the index of CR 8: the outcome of the call on a list of runs.
use Rattle.std.specs.Prelude.{ℕ, zero, suc, ◌+◌, Bool, false, not, ◌&&◌, ◌||◌, cond, Result, Ok, Err, List, [], ◌∷◌, leb, ltb, eqb, length, get_or}
use Rattle.integers.specs.Search.{first_where}
use Rattle.outline.specs.declared.Totals.{Totals}
use Rattle.outline.specs.EdgeSums.{zeros}
use Rattle.cell_ground.specs.Ground.{ground_of}
use Rattle.cells.specs.declared.Run.{Run}
use Rattle.cells.specs.declared.RegionRefusal.{RegionRefusal}
use Rattle.cells.specs.declared.RegionRefusal.TheVariants.{BadRun, OutOfOrder, TooManyRuns}
use Rattle.cells.specs.RunCells.{all_cells}

abbrev pub empty_run : Run
empty_run = record { row = 0; first = 0; length = 0 }

-- ---- the rules

-- Refusal 6: the run is empty, or some cell of it would lie outside the grid of 1,024 rows and columns.
unfoldable pub bad_run : Run → Bool
bad_run r = ltb 1023 r.row || eqb r.length 0 || ltb 1024 (r.first + r.length)

unfoldable pub any_bad : List Run → Bool
any_bad [] = false
any_bad (r ∷ rs) = bad_run r || any_bad rs

-- A run follows an earlier one further up, or in the same row where the earlier one has ended.
unfoldable pub lies_after : Run → Run → Bool
lies_after p r = ltb p.row r.row || eqb p.row r.row && leb (p.first + p.length) r.first

-- Refusal 7: two runs in turn that are not in this order.
unfoldable pub disordered : List Run → Bool
disordered [] = false
disordered (p ∷ []) = false
disordered (p ∷ r ∷ rs) = not (lies_after p r) || disordered (r ∷ rs)

-- Refusal 8: more than 4,096 runs.
unfoldable pub too_many : List Run → Bool
too_many rs = ltb 4096 (length rs)

-- ---- which run breaks a rule first

-- The run at an index from 0; past the end of the list the empty run.
abbrev pub run_at : List Run → ℕ → Run
run_at rs i = get_or rs i empty_run

-- The run at this index, where the list has one, breaks 6.
abbrev pub breaks_six : List Run → ℕ → Bool
breaks_six rs i = bad_run (run_at rs i)

-- The run at this index, where the list has one, breaks 7: it does not lie after the run before it. The first run has none before it.
abbrev pub breaks_seven : List Run → ℕ → Bool
breaks_seven rs zero = false
breaks_seven rs (suc i) = not (lies_after (run_at rs i) (run_at rs (suc i)))

-- Document 02, CR 8: the lowest index of a run that breaks a rule; the length of a list that has no such run.
abbrev pub lowest_index : (List Run → ℕ → Bool) → List Run → ℕ
lowest_index breaks rs = first_where (breaks rs) (length rs) 0

-- ---- the outcome

-- Number 0 with the totals where the call is accepted, else the number of its refusal and zeros. The index is 0 but with 6 and 7.
pub record RegionOutcome : Type 0 where
  pub number : ℕ
  pub index : ℕ
  pub totals : Totals

abbrev pub refused : ℕ → ℕ → RegionOutcome
refused n i = record { number = n; index = i; totals = zeros }

-- The totals are those of the ground under the cells of all runs. Order: 8; 6 if any run of the list breaks it, whatever stands before it; then 7. With 6 and 7 the index is the lowest of the runs that break that rule; else it is 0.
unfoldable pub region_call : List Run → RegionOutcome
region_call rs =
    cond (too_many rs) (refused 8 0)
    (cond (any_bad rs) (refused 6 (lowest_index breaks_six rs))
    (cond (disordered rs) (refused 7 (lowest_index breaks_seven rs))
    (record { number = 0; index = 0; totals = ground_of (all_cells rs) })))

-- ---- the answer

abbrev pub region_number : RegionRefusal → ℕ
region_number (BadRun i) = 6
region_number (OutOfOrder i) = 7
region_number TooManyRuns = 8

-- The index that a refusal tells, 0 but with 6 and 7.
abbrev pub region_index : RegionRefusal → ℕ
region_index (BadRun i) = i
region_index (OutOfOrder i) = i
region_index TooManyRuns = 0

-- The answer in document 01's terms.
abbrev pub reading : Result Totals RegionRefusal → RegionOutcome
reading (Ok t) = record { number = 0; index = 0; totals = t }
reading (Err r) = refused (region_number r) (region_index r)
