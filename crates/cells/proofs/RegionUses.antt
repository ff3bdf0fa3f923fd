-- The statement on accepted regions used, with every quantifier free and at one run, so that a weaker statement is refused here.
use mathlib.Core.Path.{◌≡◌, sym, ap, ◌∙◌}
use mathlib.Core.Bool.{false}
use mathlib.Core.List.{List, [], ◌∷◌}
use Prim.Native.Nat.{ℕ, ◌<◌}
use lib.IntN.{pos}
use lib.ListN.{length, get_or}
use Rattle.outline.specs.declared.AffineMap.{AffineMap}
use Rattle.outline.specs.EdgeSums.{exceed, outline_bounds}
use Rattle.outline.specs.ListCall.{accepted}
use Rattle.outline.specs.MapCall.{disallowed, mapped, map_call}
use Rattle.centroid.specs.Centroid.{outline_centroid_call}
use Rattle.cell_ground.specs.CellSums.{origin}
use Rattle.cell_ground.specs.Ground.{squares_added}
use Rattle.cells.specs.declared.Run.{Run}
use Rattle.cells.specs.RunCells.{all_cells}
use Rattle.cells.specs.RegionCall.{region_call}
use Rattle.cells.specs.RegionLaws.{RegionGround}
use Rattle.cells.proofs.RegionGround.{region_ground}
use Rattle.cells.proofs.WorkedRun.{worked_run}

-- The theorem has the type that is stated.
stated : RegionGround
stated = region_ground

module _ (rs : List Run) (accepts : (region_call rs).number ≡ 0) where
  by_squares : (region_call rs).totals ≡ squares_added (all_cells rs)
  by_squares = (stated rs accepts).cell_by_cell

  in_grid : (j : ℕ) → j < length (all_cells rs) → ((get_or (all_cells rs) j origin).x < 1024) × ((get_or (all_cells rs) j origin).y < 1024)
  in_grid j h = let g = (stated rs accepts).in_grid j h in (g.column, g.row)

  never_4 : exceed outline_bounds (region_call rs).totals ≡ false
  never_4 = (stated rs accepts).in_bounds

  mapped_by : (m : AffineMap) → disallowed m ≡ false → map_call m (region_call rs).totals ≡ accepted (mapped m (region_call rs).totals)
  mapped_by = (stated rs accepts).taken

  with_centre : 0 < length (all_cells rs) → (outline_centroid_call (region_call rs).totals).number ≡ 0
  with_centre = (stated rs accepts).centred

-- The squares of the three cells of a run add up to its totals.
run_squares : squares_added (all_cells (record { row = 3; first = 2; length = 3 } ∷ [])) ≡ record { a2 = pos 6; x6 = pos 63; y6 = pos 63; xx12 = pos 468; xy24 = pos 882; yy12 = pos 444 }
run_squares = sym (by_squares (record { row = 3; first = 2; length = 3 } ∷ []) (ap (λ o. o.number) worked_run)) ∙ ap (λ o. o.totals) worked_run
