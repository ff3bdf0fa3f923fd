-- The statements on masks used, with every quantifier free and at one mask, so that a weaker statement is refused here.
use mathlib.Core.Path.{◌≡◌, sym, ap, ◌∙◌}
use mathlib.Core.Bool.{true, false}
use mathlib.Core.List.{List, [], ◌∷◌, ◌++◌}
use mathlib.Core.Logic.{◌⊎◌, ◌≢◌}
use Prim.Native.Nat.{ℕ, ◌+◌, ◌-◌, ◌*◌, ◌/◌, ◌%◌, ◌≤◌, ◌<◌}
use lib.Dec.{eqb}
use lib.IntN.{pos}
use lib.ListN.{length, get_or, take, drop}
use Rattle.word_runs.specs.Bits.{bit, ones_below}
use Rattle.outline.specs.declared.Totals.{Totals}
use Rattle.outline.specs.declared.AffineMap.{AffineMap}
use Rattle.outline.specs.EdgeSums.{zeros, exceed, outline_bounds}
use Rattle.outline.specs.ListCall.{Outcome, accepted}
use Rattle.outline.specs.MapCall.{disallowed, mapped, map_call}
use Rattle.cell_ground.specs.Ground.{ground_of, squares_added}
use Rattle.cell_ground.specs.GroundLaws.{TotalsOfGround}
use Rattle.cells.specs.declared.Run.{Run}
use Rattle.cells.specs.RunCells.{cells_from, all_cells}
use Rattle.cells.specs.RegionCall.{too_many, region_call, run_at}
use Rattle.mask_cells.specs.MaskCells.{cell_at, is_marked, those, marked_cells, longest_runs}
use Rattle.mask_cells.specs.MaskCalls.{wrong_length, mask_totals_call, mask_runs_call}
use Rattle.mask_cells.specs.MaskLaws.{ones_in}
use Rattle.mask_cells.proofs.MarkedBits.{marked_bits}
use Rattle.mask_cells.proofs.RunsCells.{runs_cells}
use Rattle.mask_cells.proofs.NoneTouch.{none_touch}
use Rattle.mask_cells.proofs.EachLongest.{each_longest}
use Rattle.mask_cells.proofs.OnlyLongest.{only_longest}
use Rattle.mask_cells.proofs.RunsAccepted.{runs-accepted}
use Rattle.mask_cells.proofs.WrittenRegion.{written_region}
use Rattle.mask_cells.proofs.MaskRefusals.{mask_refusals}
use Rattle.mask_cells.proofs.MaskGround.{mask_ground}
use Rattle.mask_cells.proofs.OnesCounted.{ones_in_word, ones_counted}
use Rattle.mask_cells.proofs.WorkedMasks.{old, corners, corner_runs, worked_corners}

-- ---- every mask

module _ (ws : List ℕ) where
  abbrev runs : List Run
  runs = longest_runs ws

  abbrev at : ℕ → Run
  at i = run_at runs i

  column_by_word : (y w i : ℕ) → w < 16 → i < 64 → is_marked ws (cell_at y (64 * w + i)) ≡ eqb (bit (get_or ws (16 * y + w) 0) i) 1
  column_by_word y w i h l = marked_bits ws y w h i l

  same_cells : all_cells runs ≡ marked_cells ws
  same_cells = runs_cells ws

  with_a_cell_between : (i j : ℕ) → i < j → j < length runs → ((at i).row < (at j).row) ⊎ (((at i).row ≡ (at j).row) × ((at i).first + (at i).length < (at j).first))
  with_a_cell_between = none_touch ws

  all_marked : (i x : ℕ) → i < length runs → (at i).first ≤ x → x < (at i).first + (at i).length → is_marked ws (cell_at (at i).row x) ≡ true
  all_marked i x h = (each_longest ws i h).marked x

  not_marked_before : (i : ℕ) → i < length runs → ((at i).first ≡ 0) ⊎ (is_marked ws (cell_at (at i).row ((at i).first - 1)) ≡ false)
  not_marked_before i h = (each_longest ws i h).begins

  not_marked_behind : (i : ℕ) → i < length runs → ((at i).first + (at i).length ≡ 1024) ⊎ (is_marked ws (cell_at (at i).row ((at i).first + (at i).length)) ≡ false)
  not_marked_behind i h = (each_longest ws i h).ends

  no_other_list : (rs : List Run) → ((i : ℕ) → i < length rs → 0 < (run_at rs i).length)
      → ((i j : ℕ) → i < j → j < length rs → ((run_at rs i).row < (run_at rs j).row) ⊎ (((run_at rs i).row ≡ (run_at rs j).row) × ((run_at rs i).first + (run_at rs i).length < (run_at rs j).first)))
      → all_cells rs ≡ marked_cells ws → rs ≡ runs
  no_other_list = only_longest ws

  runs_taken : wrong_length (length ws) ≡ false → too_many runs ≡ false → region_call runs ≡ record { number = 0; index = 0; totals = ground_of (marked_cells ws) }
  runs_taken = runs-accepted ws

  whole_ground : (mask_totals_call ws).number ≡ 0 → TotalsOfGround (marked_cells ws) (mask_totals_call ws).totals
  whole_ground = mask_ground ws

  cell_by_cell : (mask_totals_call ws).number ≡ 0 → (mask_totals_call ws).totals ≡ squares_added (marked_cells ws)
  cell_by_cell h = (mask_ground ws h).cell_by_cell

  in_bounds : (mask_totals_call ws).number ≡ 0 → exceed outline_bounds (mask_totals_call ws).totals ≡ false
  in_bounds h = (mask_ground ws h).in_bounds

  mapped_as : (mask_totals_call ws).number ≡ 0 → (m : AffineMap) → disallowed m ≡ false → map_call m (mask_totals_call ws).totals ≡ accepted (mapped m (mask_totals_call ws).totals)
  mapped_as h = (mask_ground ws h).taken

  ones_of_a_word : (k : ℕ) → length (those (is_marked ws) (cells_from (k / 16) (64 * (k % 16)) 64)) ≡ ones_below 64 (get_or ws k 0)
  ones_of_a_word = ones_in_word ws

  ones_of_all : (mask_totals_call ws).number ≡ 0 → (mask_totals_call ws).totals.a2 ≡ pos (2 * ones_in ws)
  ones_of_all = ones_counted ws

  module _ (before : List Run) where
    both_calls : (mask_runs_call ws before).number ≡ 0
        → region_call (take (mask_runs_call ws before).count (mask_runs_call ws before).list) ≡ record { number = (mask_totals_call ws).number; index = 0; totals = (mask_totals_call ws).totals }
    both_calls h = (written_region ws before h).totals ∙ ap (λ n. record { number = n; index = 0; totals = (mask_totals_call ws).totals }) (sym (written_region ws before h).mask_accepted)

    all_counted : (mask_runs_call ws before).number ≡ 0 → (mask_runs_call ws before).count ≡ length runs
    all_counted h = (written_region ws before h).count

    behind : (mask_runs_call ws before).number ≡ 0 → (mask_runs_call ws before).list ≡ runs ++ drop (mask_runs_call ws before).count before
    behind h = (written_region ws before h).list

    unchanged : (mask_runs_call ws before).number ≢ 0 → (mask_runs_call ws before).list ≡ before
    unchanged h = (mask_refusals ws before).list h

    not_counted : (mask_runs_call ws before).number ≢ 0 → (mask_runs_call ws before).count ≡ 0
    not_counted h = (mask_refusals ws before).count h

    no_totals_lem : (mask_totals_call ws).number ≢ 0 → (mask_totals_call ws).totals ≡ zeros
    no_totals_lem h = (mask_refusals ws before).totals h

-- ---- one mask, written into a list of six

abbrev six : List Run
six = old 0 ∷ old 1 ∷ old 2 ∷ old 3 ∷ old 4 ∷ old 5 ∷ []

abbrev corner_totals : Totals
corner_totals = record { a2 = pos 12; x6 = pos 7308; y6 = pos 24; xx12 = pos 12_720_432; xy24 = pos 14_628; yy12 = pos 48 }

-- The call on the four written runs gives the totals of the mask.
corner-totals : region_call corner_runs ≡ record { number = 0; index = 0; totals = corner_totals }
corner-totals =
    ap (λ o. region_call (take o.count o.list)) (sym worked_corners.longer)
    ∙ both_calls corners six (ap (λ o. o.number) worked_corners.longer)
    ∙ ap (λ (o : Outcome). record { number = o.number; index = 0; totals = o.totals }) worked_corners.totals

-- What the call on a whole list answers for the corners of its six cells, added, are the same totals.
corner_cells : squares_added (marked_cells corners) ≡ corner_totals
corner_cells = sym (cell_by_cell corners (ap (λ o. o.number) worked_corners.totals)) ∙ ap (λ o. o.totals) worked_corners.totals

corner_ones : corner_totals.a2 ≡ pos (2 * ones_in corners)
corner_ones = ap (λ o. o.totals.a2) (sym worked_corners.totals) ∙ ones_of_all corners (ap (λ o. o.number) worked_corners.totals)
