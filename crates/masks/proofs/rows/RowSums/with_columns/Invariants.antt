-- `masks::rows::RowSums::with_columns`: the columns of the marked cells below a place of the word are added, and all of it is searched from there.
use mathlib.Core.Path.{◌≡◌}
use Prim.Native.Nat.{ℕ, ◌-◌, ◌≤◌}
use Rattle.cell_ground.specs.CellSums.{sums_over}
use Rattle.mask_cells.specs.private.WordCells.{word_cells}
use Rattle.masks.specs.declared.rows.RowSums.{RowSums}
use Rattle.masks.specs.private.Rows.{with_columns}
use Rattle.masks.proofs.rows.RowSums.with_columns.Given as goal

-- With those below a place.
pub record SumsBelow (w k : ℕ) (before sums : RowSums) (place : ℕ) : Type 0 where
  pub below : place ≤ 64
  pub columns : sums ≡ with_columns before (sums_over (word_cells w k place))

abbrev pub invariant-loop-start : goal.invariant-loop-start
invariant-loop-start l = SumsBelow l.word l.k l.fn.self l.sums l.end

abbrev pub decreases-loop-start : goal.decreases-loop-start
decreases-loop-start l = 64 - l.end
