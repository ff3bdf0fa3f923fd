-- Document 02, CR 1 and CR 2: what holds of the marked cells, of the longest runs and of both calls, for every mask. Each is proved in proofs/.
use Rattle.std.specs.Prelude.{ℕ, ◌+◌, ◌-◌, ◌*◌, ◌/◌, ◌%◌, ◌≤◌, ◌<◌, ◌≡◌, true, false, List, [], ◌∷◌, ◌++◌, ◌⊎◌, ◌≢◌, eqb, pos, length, get_or, take, drop}
use Rattle.word_runs.specs.Bits.{bit, ones_below}
use Rattle.outline.specs.EdgeSums.{zeros}
use Rattle.cell_ground.specs.Ground.{ground_of}
use Rattle.cell_ground.specs.GroundLaws.{TotalsOfGround}
use Rattle.cells.specs.declared.Run.{Run}
use Rattle.cells.specs.RunCells.{cells_from, all_cells}
use Rattle.cells.specs.RegionCall.{too_many, region_call, run_at}
use Rattle.mask_cells.specs.MaskCells.{cell_at, is_marked, those, marked_cells, longest_runs}
use Rattle.mask_cells.specs.MaskCalls.{wrong_length, mask_totals_call, mask_runs_call}

-- ---- the marked cells

abbrev pub MarkedBits : Type 0
MarkedBits =
    -- For every mask,
    (ws : List ℕ)
    -- row,
    (y : ℕ)
    -- word of the row
    (w : ℕ)
    → w < 16
    -- and bit of the word,
    → (i : ℕ)
    → i < 64
    -- the cell in column 64 w + i of the row is marked where the bit is 1.
    → is_marked ws (cell_at y (64 * w + i)) ≡ eqb (bit (get_or ws (16 * y + w) 0) i) 1

-- ---- the longest runs

abbrev pub RunsCells : Type 0
RunsCells =
    -- For every mask
    (ws : List ℕ)
    -- the cells of its longest runs, run after run, are its marked cells, in order.
    → all_cells (longest_runs ws) ≡ marked_cells ws

-- The run q lies further up than p, or in the same row with a cell between them.
abbrev pub Apart : Run → Run → Type 0
Apart p q = (p.row < q.row) ⊎ ((p.row ≡ q.row) × (p.first + p.length < q.first))

-- The runs of a list are in order, and no two of them touch.
abbrev pub InOrderApart : List Run → Type 0
InOrderApart rs =
    -- For every two indices,
    (i j : ℕ)
    -- the one below the other,
    → i < j
    -- of runs that the list has,
    → j < length rs
    -- the later run lies after the earlier one and does not touch it.
    → Apart (run_at rs i) (run_at rs j)

abbrev pub NoneTouch : Type 0
NoneTouch =
    -- For every mask
    (ws : List ℕ)
    -- the longest runs are in order, and no two of them touch.
    → InOrderApart (longest_runs ws)

-- A run of marked cells that cannot be made longer, to the west or to the east.
pub record Longest (ws : List ℕ) (r : Run) : Type 0 where
  -- It has a cell, and all its cells lie in the mask,
  pub nonempty : 0 < r.length
  pub in_row : r.first + r.length ≤ 1024
  pub in_mask : r.row < length ws / 16
  -- each of them is marked,
  pub marked : (x : ℕ) → r.first ≤ x → x < r.first + r.length → is_marked ws (cell_at r.row x) ≡ true
  -- and the cell before the first and the one behind the last are not marked, where the row has such cells.
  pub begins : (r.first ≡ 0) ⊎ (is_marked ws (cell_at r.row (r.first - 1)) ≡ false)
  pub ends : (r.first + r.length ≡ 1024) ⊎ (is_marked ws (cell_at r.row (r.first + r.length)) ≡ false)

abbrev pub EachLongest : Type 0
EachLongest =
    -- For every mask
    (ws : List ℕ)
    -- and the index of
    (i : ℕ)
    -- each run of its list,
    → i < length (longest_runs ws)
    -- the run cannot be made longer.
    → Longest ws (run_at (longest_runs ws) i)

-- No run of a list is empty.
abbrev pub NoneEmpty : List Run → Type 0
NoneEmpty rs = (i : ℕ) → i < length rs → 0 < (run_at rs i).length

abbrev pub OnlyLongest : Type 0
OnlyLongest =
    -- For every mask
    (ws : List ℕ)
    -- and every list of runs,
    (rs : List Run)
    -- none of them empty,
    → NoneEmpty rs
    -- in order, no two of which touch,
    → InOrderApart rs
    -- and whose cells are the marked cells:
    → all_cells rs ≡ marked_cells ws
    -- it is the list of the longest runs.
    → rs ≡ longest_runs ws

-- ---- the calls

abbrev pub RunsAccepted : Type 0
RunsAccepted =
    -- For every mask
    (ws : List ℕ)
    -- that 31 does not refuse
    → wrong_length (length ws) ≡ false
    -- and that has at most 4,096 longest runs,
    → too_many (longest_runs ws) ≡ false
    -- the call on runs accepts the longest runs, and its totals are those of the ground under the marked cells.
    → region_call (longest_runs ws) ≡ record { number = 0; index = 0; totals = ground_of (marked_cells ws) }

-- What is claimed of an accepted call of the writer, on a list of the caller's.
pub record Written (ws : List ℕ) (before : List Run) : Type 0 where
  -- As many are counted as there are longest runs.
  pub count : (mask_runs_call ws before).count ≡ length (longest_runs ws)
  -- The list begins with the longest runs, and behind those that were written it is as before, so as long as before.
  pub list : (mask_runs_call ws before).list ≡ longest_runs ws ++ drop (mask_runs_call ws before).count before
  pub as_long : length (mask_runs_call ws before).list ≡ length before
  -- The written ones are the longest runs,
  pub runs : take (mask_runs_call ws before).count (mask_runs_call ws before).list ≡ longest_runs ws
  -- the call on runs accepts them, and its totals are those that the call on the mask gives,
  pub totals : region_call (take (mask_runs_call ws before).count (mask_runs_call ws before).list) ≡ record { number = 0; index = 0; totals = (mask_totals_call ws).totals }
  -- which accepts the mask.
  pub mask_accepted : (mask_totals_call ws).number ≡ 0

abbrev pub WrittenRegion : Type 0
WrittenRegion =
    -- For every mask
    (ws : List ℕ)
    -- and every list of the caller's
    (before : List Run)
    -- for which the writer is not refused,
    → (mask_runs_call ws before).number ≡ 0
    -- the runs that it writes make up the mask.
    → Written ws before

-- What is claimed of refused calls.
pub record RefusedMasks (ws : List ℕ) (before : List Run) : Type 0 where
  -- The totals are zeros
  pub totals : (mask_totals_call ws).number ≢ 0 → (mask_totals_call ws).totals ≡ zeros
  -- and the writer counts no run and leaves the list as it was; the index is 0.
  pub count : (mask_runs_call ws before).number ≢ 0 → (mask_runs_call ws before).count ≡ 0
  pub list : (mask_runs_call ws before).number ≢ 0 → (mask_runs_call ws before).list ≡ before
  pub index : (mask_runs_call ws before).number ≢ 0 → (mask_runs_call ws before).index ≡ 0

abbrev pub MaskRefusals : Type 0
MaskRefusals =
    -- For every mask
    (ws : List ℕ)
    -- and every list of the caller's,
    (before : List Run)
    -- a refusal comes with zeros and changes nothing.
    → RefusedMasks ws before

-- ---- the ground

abbrev pub MaskGround : Type 0
MaskGround =
    -- For every mask
    (ws : List ℕ)
    -- whose totals are answered,
    → (mask_totals_call ws).number ≡ 0
    -- they are those of the ground under its marked cells, cell by cell; the map call takes them, and there is a centre if there is a cell.
    → TotalsOfGround (marked_cells ws) (mask_totals_call ws).totals

-- ---- the ones of words

abbrev pub OnesInWord : Type 0
OnesInWord =
    -- For every mask
    (ws : List ℕ)
    -- and every index of a word, which counts as 0 where the list has none there,
    (k : ℕ)
    -- the marked ones among the word's 64 cells are as many as the word has ones.
    → length (those (is_marked ws) (cells_from (k / 16) (64 * (k % 16)) 64)) ≡ ones_below 64 (get_or ws k 0)

-- The ones of all words of a list.
unfoldable pub ones_in : List ℕ → ℕ
ones_in [] = 0
ones_in (w ∷ ws) = ones_below 64 w + ones_in ws

abbrev pub OnesCounted : Type 0
OnesCounted =
    -- For every mask
    (ws : List ℕ)
    -- whose totals are answered,
    → (mask_totals_call ws).number ≡ 0
    -- A2 is twice the number of its ones.
    → (mask_totals_call ws).totals.a2 ≡ pos (2 * ones_in ws)
