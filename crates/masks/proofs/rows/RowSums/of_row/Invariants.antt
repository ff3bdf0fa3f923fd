-- `masks::rows::RowSums::of_row`: the sums are those over the marked cells of the row's words before word k.
use mathlib.Core.Path.{◌≡◌}
use Prim.Native.Nat.{◌*◌}
use Rattle.cell_ground.specs.CellSums.{sums_over}
use Rattle.mask_cells.specs.private.WordCells.{marked_between}
use Rattle.masks.specs.private.Rows.{three_of}
use Rattle.masks.proofs.rows.RowSums.of_row.Given as goal

abbrev pub invariant-loop-k : goal.invariant-loop-k
invariant-loop-k l = l.sums ≡ three_of (sums_over (marked_between l.words 0 (64 * l.k)))
