-- The scan of a mask by positions: the next run from a position on, and how many runs the writer is to write.
use Rattle.std.specs.Prelude.{ℕ, ◌+◌, ◌-◌, ◌*◌, ◌/◌, min, cond, List, Option, None, Some, Result, Ok, Err, ltb, length}
use Rattle.word_runs.specs.private.WordList.{first_bit}
use Rattle.mask_cells.specs.MaskCells.{longest_runs}
use Rattle.mask_cells.specs.private.Positions.{row_end, run_between}
use Rattle.masks.specs.declared.scan.Found.{Found}
use Rattle.masks.specs.declared.MaskRunsRefusal.{MaskRunsRefusal}
use Rattle.masks.specs.declared.MaskRunsRefusal.TheVariants.{TooManyRuns}

-- ---- the next run

-- The positions that are scanned: those of the whole rows of a list, of 1,024 rows at most.
unfoldable pub scanned : ℕ → ℕ
scanned n = min (n / 16) 1024 * 1024

-- The run of the positions from s up to e, and its end.
abbrev pub found_at : ℕ → ℕ → Found
found_at s e = record { run = run_between s e; next = e }

-- The first run from a position on, and where it ends.
unfoldable pub next_run : List ℕ → ℕ → Option Found
next_run ws at =
    let start = first_bit 1 ws (scanned (length ws) - at) at in
    cond (ltb start (scanned (length ws))) (Some (found_at start (first_bit 0 ws (row_end start - start) start))) None

-- ---- the writer

-- How many runs there are, but no more than one over `most`.
unfoldable pub counted_runs : List ℕ → ℕ → ℕ
counted_runs ws most = min (length (longest_runs ws)) (most + 1)

-- How many runs are to be written to a list that holds so many.
unfoldable pub to_write : List ℕ → ℕ → Result ℕ MaskRunsRefusal
to_write ws held = cond (ltb (min held 4096) (length (longest_runs ws))) (Err TooManyRuns) (Ok (length (longest_runs ws)))
