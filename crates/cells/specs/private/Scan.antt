-- The accumulator of the call on a list of runs: what one run more makes of it, the answer at the end, and the bounds within which its sums are computed.
use Rattle.std.specs.Prelude.{ℕ, ◌+◌, ◌<◌, ◌≤◌, ◌^◌, not, cond, Result, Ok, Err, pos, ◌-ℤ◌}
use Rattle.outline.specs.declared.Totals.{Totals}
use Rattle.column_sums.specs.SumsBelow.{index_sum}
use Rattle.cell_ground.specs.CellSums.{CellSums, no_sums, plus_sums, sums_over}
use Rattle.cell_ground.specs.Ground.{ground_totals, row_sums}
use Rattle.cell_ground.specs.private.SumBounds.{SumsWithin}
use Rattle.cells.specs.declared.CellSums as Code
use Rattle.cells.specs.declared.Run.{Run}
use Rattle.cells.specs.declared.Scan.{Scan}
use Rattle.cells.specs.declared.RegionRefusal.{RegionRefusal}
use Rattle.cells.specs.declared.RegionRefusal.TheVariants.{BadRun, OutOfOrder, TooManyRuns}
use Rattle.cells.specs.RunCells.{cells_of}
use Rattle.cells.specs.RegionCall.{empty_run, bad_run, lies_after}

-- ---- the sums, as the code holds them and as the definitions have them

abbrev pub held : CellSums → Code.CellSums
held s = record { count = s.count; x = s.x; y = s.y; xx = s.xx; xy = s.xy; yy = s.yy }

abbrev pub sums_of : Code.CellSums → CellSums
sums_of s = record { count = s.count; x = s.x; y = s.y; xx = s.xx; xy = s.xy; yy = s.yy }

-- The sums of a run by those below its ends, where `squares` has the sums of squares below each column.
abbrev pub sums_by : (ℕ → ℕ) → Run → CellSums
sums_by squares r =
    let end = r.first + r.length in
    row_sums (pos r.row) (pos r.length) (pos (index_sum end) -ℤ pos (index_sum r.first)) (pos (squares end) -ℤ pos (squares r.first))

-- ---- the scan

-- Before the first run. Every run lies after the empty one at row 0, column 0.
abbrev pub no_runs : Scan
no_runs = record { count = 0; last = empty_run; found = Ok (held no_sums) }

-- What runs have come to: the sums over their cells, or the refusal.
abbrev pub Found : Type 0
Found = Result Code.CellSums RegionRefusal

-- A refusal with one run more, which has the index i: a 7 gives way to the first 6.
abbrev pub refusal_with : RegionRefusal → ℕ → Run → RegionRefusal
refusal_with (OutOfOrder k) i r = cond (bad_run r) (BadRun i) (OutOfOrder k)
refusal_with (BadRun k) i r = BadRun k
refusal_with TooManyRuns i r = TooManyRuns

-- With one run more, which has the index i and follows p: the first run that breaks 6 decides, else the first that breaks 7.
unfoldable pub found_with : Found → ℕ → Run → Run → Found
found_with (Ok s) i p r = cond (bad_run r) (Err (BadRun i)) (cond (not (lies_after p r)) (Err (OutOfOrder i)) (Ok (held (plus_sums (sums_of s) (sums_over (cells_of r))))))
found_with (Err k) i p r = Err (refusal_with k i r)

abbrev pub add_run : Scan → Run → Scan
add_run s r = record { count = s.count + 1; last = r; found = found_with s.found s.count s.last r }

-- The answer that all runs have come to.
abbrev pub answer_of : Found → Result Totals RegionRefusal
answer_of (Ok s) = Ok (ground_totals (sums_of s))
answer_of (Err r) = Err r

-- ---- bounds

-- The bounds of a run that 6 does not refuse.
pub record RunInGrid (r : Run) : Type 0 where
  pub row : r.row ≤ 1023
  pub end : r.first + r.length ≤ 1024

-- The sums over the cells of 4,096 runs at most, each of 1,024 cells at most.
abbrev pub SumsSmall : Found → Type 0
SumsSmall (Ok s) = SumsWithin (2 ^ 22) (sums_of s)
SumsSmall (Err r) = Unit {0}

-- One run more can be taken.
pub record HasRoom (s : Scan) : Type 0 where
  pub runs : s.count < 4096
  pub sums : SumsSmall s.found
