-- Demand 2 for sheets, as statements. proofs/SheetSums has the proofs.
use Rattle.std.specs.Prelude.{◌≡◌, false, List, map, length}
use Rattle.outline.specs.declared.Totals.{Totals}
use Rattle.outline.specs.declared.Walk.{Walk}
use Rattle.outline.specs.declared.Sheet.{Sheet}
use Rattle.outline.specs.Pieces.{sum_of}
use Rattle.outline.specs.WalkCalls.{new_sheet, impossible_sheet}
use Rattle.outline.specs.CallLists.{sheet_after, added_by, ring_totals, Walking, reached, rings_on}

-- What is claimed of a sheet, ts being the totals of the outlines that it has accepted.
pub record HoldsSums (s : Sheet) (ts : List Totals) : Type 0 where
  -- The count is their number,
  pub count : s.count ≡ length ts
  -- the totals are their sums, each of the six by itself,
  pub totals : s.totals ≡ sum_of ts
  -- and 28 takes the sheet.
  pub possible : impossible_sheet s ≡ false

abbrev pub SheetSums : Type 0
SheetSums =
    -- For every list of walks, each ended on the sheet that the last end left, from a new sheet on,
    (ws : List Walk)
    -- the sheet holds the totals that the accepted ends answered and added, and nothing else.
    → HoldsSums (sheet_after new_sheet ws) (added_by new_sheet ws)

abbrev pub WalkedSheetSums : Type 0
WalkedSheetSums =
    -- The same where each walk is made by calls from one marked closed:
    (ks : List Walking)
    -- the sheet holds, of each ring whose end was accepted, the edge sums over its points, turned by its kind, and nothing else.
    → HoldsSums (sheet_after new_sheet (map (λ k. (reached k).walk) ks)) (map ring_totals (rings_on new_sheet (map reached ks)))
