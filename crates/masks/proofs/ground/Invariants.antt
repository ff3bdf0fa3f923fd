-- `masks::ground`: the totals are those of the ground under the marked cells of the rows before this one.
use mathlib.Core.Path.{◌≡◌}
use mathlib.Core.List.{List}
use Prim.Native.Nat.{ℕ, ◌*◌}
use Rattle.cell_ground.specs.CellSums.{Cell}
use Rattle.cell_ground.specs.Ground.{ground_of}
use Rattle.mask_cells.specs.private.WordCells.{marked_between}
use Rattle.masks.proofs.ground.Given as goal

-- The marked cells of the first n rows.
abbrev pub first_rows : List ℕ → ℕ → List Cell
first_rows ws n = marked_between ws 0 (1024 * n)

abbrev pub invariant-loop-y : goal.invariant-loop-y
invariant-loop-y l = l.totals ≡ ground_of (first_rows l.fn.mask.words.now l.y)
