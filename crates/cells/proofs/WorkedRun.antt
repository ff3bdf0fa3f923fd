-- Document 01, "Plots worked by hand", with the totals of document 02, CR 2: the run of row 3, column 2 and length 3, by computation.
use mathlib.Core.Path.{◌≡◌, refl}
use mathlib.Core.List.{[], ◌∷◌}
use lib.IntN.{pos}
use Rattle.cell_ground.specs.CellSums.{sums_over}
use Rattle.cell_ground.specs.Ground.{ground_of}
use Rattle.cells.specs.RunCells.{cells_from, cells_of, all_cells}
use Rattle.cells.specs.RegionCall.{bad_run, any_bad, disordered, too_many, region_call}

pub worked_run : region_call (record { row = 3; first = 2; length = 3 } ∷ []) ≡ record { number = 0; index = 0; totals = record { a2 = pos 6; x6 = pos 63; y6 = pos 63; xx12 = pos 468; xy24 = pos 882; yy12 = pos 444 } }
unfolding cells_from cells_of all_cells sums_over ground_of bad_run any_bad disordered too_many region_call
worked_run = refl
