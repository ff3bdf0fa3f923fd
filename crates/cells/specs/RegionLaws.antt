-- Document 02, CR 2: what holds of the totals of every accepted region; CR 6: how a run is checked from the annex; and CR 8: which number and which index are given. Proved in
-- proofs/RegionGround, proofs/AnnexSums, proofs/NumberChosen and proofs/LowestIndex.
use Rattle.std.specs.Prelude.{ℕ, ◌+◌, ◌<◌, ◌≤◌, ◌≡◌, Bool, true, false, List, ◌≢◌, pos, ◌-ℤ◌, length, get_or}
use Rattle.column_sums.specs.Annex.{square_sums}
use Rattle.cell_ground.specs.CellSums.{sums_over}
use Rattle.cell_ground.specs.GroundLaws.{TotalsOfGround}
use Rattle.cells.specs.declared.Run.{Run}
use Rattle.cells.specs.RunCells.{cells_of, all_cells}
use Rattle.cells.specs.RegionCall.{breaks_six, breaks_seven, region_call}

abbrev pub RegionGround : Type 0
RegionGround =
    -- For every list of runs
    (rs : List Run)
    -- that the call accepts,
    → (region_call rs).number ≡ 0
    -- its totals are those of the ground under their cells, cell by cell; the map call takes them, and there is a centre if there is a cell.
    → TotalsOfGround (all_cells rs) (region_call rs).totals

abbrev pub SquaresFromAnnex : Type 0
SquaresFromAnnex =
    -- For every run that ends at column 1,023 or before,
    (r : Run)
    → r.first + r.length ≤ 1024
    -- the sum of x² over its cells is entry first + length of the annex less entry first.
    → (sums_over (cells_of r)).xx ≡ pos (get_or square_sums (r.first + r.length) 0) -ℤ pos (get_or square_sums r.first 0)

-- ---- document 02, CR 8

-- No run of the list breaks a rule.
abbrev pub AllKeep : (List Run → ℕ → Bool) → List Run → Type 0
AllKeep breaks rs = (i : ℕ) → i < length rs → breaks rs i ≡ false

-- What is claimed of the number that the call on these runs gives: it is chosen as before, and each rule is told run by run.
pub record NumberGiven (rs : List Run) : Type 0 where
  -- 8 where there are more than 4,096 runs.
  pub eight : 4096 < length rs → (region_call rs).number ≡ 8
  -- Else 6 where any run breaks 6.
  pub six : length rs ≤ 4096 → (i : ℕ) → i < length rs → breaks_six rs i ≡ true → (region_call rs).number ≡ 6
  -- Else 7 where any run breaks 7.
  pub seven : length rs ≤ 4096 → AllKeep breaks_six rs → (i : ℕ) → i < length rs → breaks_seven rs i ≡ true → (region_call rs).number ≡ 7
  -- Else none.
  pub accepted : length rs ≤ 4096 → AllKeep breaks_six rs → AllKeep breaks_seven rs → (region_call rs).number ≡ 0

abbrev pub NumberChosen : Type 0
NumberChosen =
    -- For every list of runs
    (rs : List Run)
    -- the first of 8, 6 and 7 that applies is the number.
    → NumberGiven rs

-- The run at i breaks a rule, and no run at a lower index does.
pub record LowestToBreak (breaks : List Run → ℕ → Bool) (rs : List Run) (i : ℕ) : Type 0 where
  -- There is a run at i,
  pub present : i < length rs
  -- it breaks the rule,
  pub broken : breaks rs i ≡ true
  -- and no run at a lower index breaks it.
  pub none-lower : (j : ℕ) → j < i → breaks rs j ≡ false

-- What is claimed of the index that the call on these runs gives.
pub record IndexGiven (rs : List Run) : Type 0 where
  -- With 6 it is the lowest of the runs that break 6,
  pub with_six : (region_call rs).number ≡ 6 → LowestToBreak breaks_six rs (region_call rs).index
  -- with 7 of those that break 7.
  pub with_seven : (region_call rs).number ≡ 7 → LowestToBreak breaks_seven rs (region_call rs).index
  -- With 8, and where the runs are accepted, it is 0.
  pub otherwise : (region_call rs).number ≢ 6 → (region_call rs).number ≢ 7 → (region_call rs).index ≡ 0

abbrev pub IndexIsLowest : Type 0
IndexIsLowest =
    -- For every list of runs
    (rs : List Run)
    -- the index with 6 and 7 is the lowest of the runs that break that rule, else 0.
    → IndexGiven rs
