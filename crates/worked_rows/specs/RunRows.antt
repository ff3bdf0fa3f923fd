-- Document 02, CR 8, as rows: a list of runs that is mended run by run, each time at the index answered.
use Rattle.std.specs.Prelude.{ℕ, List, [], ◌∷◌, pos}
use Rattle.cells.specs.declared.Run.{Run}
use Rattle.cells.specs.RegionCall.{refused}
use Rattle.worked_rows.specs.Rows.{Row, region, totals, region_of}

abbrev run : ℕ → ℕ → ℕ → Run
run row first length = record { row = row; first = first; length = length }

-- Run 0 is sound. Run 1 begins before it ends, and run 2 has a lower row: both break 7.
abbrev sound : Run
sound = run 5 0 3

abbrev overlapping : Run
overlapping = run 5 2 1

abbrev lower : Run
lower = run 4 0 1

-- Run 3 has a row over 1,023, and run 4 has no cell: both break 6. Behind run 3, run 4 breaks 7 too.
abbrev outside : Run
outside = run 1024 0 1

abbrev empty : Run
empty = run 6 0 0

-- The five runs, and the first three of them alone; then the five with run 3 mended, and run 4, and run 1, and run 2.
abbrev pub mended_rows : List Row
mended_rows =
    region (sound ∷ overlapping ∷ lower ∷ outside ∷ empty ∷ []) (refused 6 3)
    ∷ region (sound ∷ overlapping ∷ lower ∷ []) (refused 7 1)
    ∷ region (sound ∷ overlapping ∷ lower ∷ run 7 4 1 ∷ empty ∷ []) (refused 6 4)
    ∷ region (sound ∷ overlapping ∷ lower ∷ run 7 4 1 ∷ run 8 0 2 ∷ []) (refused 7 1)
    ∷ region (sound ∷ run 5 3 1 ∷ lower ∷ run 7 4 1 ∷ run 8 0 2 ∷ []) (refused 7 2)
    ∷ region (sound ∷ run 5 3 1 ∷ run 6 0 1 ∷ run 7 4 1 ∷ run 8 0 2 ∷ []) (region_of (totals (pos 16) (pos 90) (pos 318) (pos 536) (pos 2352) (pos 4376)))
    ∷ []
