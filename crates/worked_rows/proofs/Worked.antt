-- Document 01, "Plots worked by hand": the definitions give the figures of every row of the one list, by computation.
use mathlib.Core.Path.{refl}
use lib.Ieee.{lt}
use Rattle.integers.specs.Search.{first_where}
use Rattle.receiver.specs.Floats.{not_finite, below_zero}
use Rattle.outline.specs.EdgeSums.{open_edges, edges, sum_over, over, exceed}
use Rattle.outline.specs.ListCall.{points, numbers, beyond, any_beyond, wrong_length, list_call}
use Rattle.outline.specs.MapCall.{disallowed, map_call}
use Rattle.outline.specs.Pieces.{neighbours, can_cut, cut_once, cut_all}
use Rattle.outline.specs.WalkCalls.{extended, has_sign, turned, zero_area, impossible_walk, impossible_sheet, begin_call, point_call, end_call}
use Rattle.outline.specs.CallLists.{number_of, walk_after, ring_with, next, after, sheet_after}
use Rattle.outline.proofs.Every.{All}
use Rattle.two_walks.specs.Distances.{squared_distance, least_of, greatest_of, to_nearest, squared_hausdorff}
use Rattle.two_walks.specs.Comparison.{comparison_number, figures_call, part_of}
use Rattle.integers.specs.Rounding.{rounds_to, first_rounded, round_half_up}
use Rattle.centroid.specs.Centroid.{signed_by, outline_centroid_call}
use Rattle.cell_ground.specs.CellSums.{sums_over}
use Rattle.cell_ground.specs.Ground.{ground_of}
use Rattle.cells.specs.RunCells.{cells_from, cells_of, all_cells}
use Rattle.cells.specs.RegionCall.{bad_run, any_bad, lies_after, disordered, too_many, region_call}
use Rattle.worked_rows.specs.Rows.{holds, rows, ring_rows, walk_rows, move_rows, error_rows}
use Rattle.worked_rows.specs.RunRows.{mended_rows}

pub worked : All holds rows
unfolding open_edges edges sum_over over exceed points numbers beyond any_beyond wrong_length list_call disallowed map_call neighbours can_cut cut_once cut_all rounds_to first_rounded round_half_up signed_by outline_centroid_call cells_from cells_of all_cells sums_over ground_of bad_run any_bad disordered too_many region_call holds
worked = (refl, (refl, (refl, (refl, (refl, (refl, (refl, (refl, (refl, (refl, (refl, (refl, (refl, tt)))))))))))))

-- The rings of document 02, CR 3.
pub ring-rows : All holds ring_rows
unfolding over exceed beyond extended has_sign turned zero_area not_finite below_zero lt impossible_walk impossible_sheet begin_call point_call end_call number_of walk_after ring_with next after sheet_after holds
ring-rows = (refl, (refl, (refl, (refl, (refl, (refl, (refl, (refl, (refl, (refl, (refl, tt)))))))))))

-- The two walkers of document 02, CR 5.
pub walk_rows_lem : All holds walk_rows
unfolding open_edges edges sum_over over points numbers beyond any_beyond wrong_length list_call squared_distance least_of greatest_of to_nearest squared_hausdorff comparison_number figures_call part_of holds
walk_rows_lem = (refl, (refl, (refl, (refl, (refl, (refl, (refl, (refl, (refl, (refl, tt))))))))))

-- The moves of document 02, CR 7.
pub move_rows_lem : All holds move_rows
unfolding open_edges edges sum_over over exceed points numbers beyond any_beyond wrong_length list_call disallowed map_call rounds_to first_rounded round_half_up signed_by outline_centroid_call holds
move_rows_lem = (refl, (refl, (refl, (refl, (refl, (refl, (refl, (refl, (refl, (refl, tt))))))))))

-- The mended list of document 02, CR 8.
pub mended_rows_lem : All holds mended_rows
unfolding first_where cells_from cells_of all_cells sums_over ground_of bad_run any_bad lies_after disordered too_many region_call holds
mended_rows_lem = (refl, (refl, (refl, (refl, (refl, (refl, tt))))))

-- The rows for "Errors a surveyor would not notice".
pub error_rows_lem : All holds error_rows
unfolding open_edges edges sum_over over exceed points numbers beyond any_beyond wrong_length list_call disallowed map_call rounds_to first_rounded round_half_up signed_by outline_centroid_call cells_from cells_of all_cells sums_over ground_of bad_run any_bad lies_after disordered too_many region_call squared_distance least_of greatest_of to_nearest squared_hausdorff comparison_number figures_call holds
error_rows_lem = (refl, (refl, (refl, (refl, (refl, (refl, (refl, (refl, tt))))))))
