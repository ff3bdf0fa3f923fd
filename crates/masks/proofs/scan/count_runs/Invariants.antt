-- `masks::scan::count_runs`: the runs counted and those that are left are all of them.
use mathlib.Core.Path.{◌≡◌}
use mathlib.Core.List.{List}
use Prim.Native.Nat.{ℕ, ◌+◌}
use lib.ListN.{length}
use Rattle.mask_cells.specs.MaskCells.{longest_runs}
use Rattle.masks.proofs.RunsLeft.{left, Between}
use Rattle.masks.proofs.scan.count_runs.Given as goal

-- So many runs have been counted, and the others are left from this position on.
pub record Counted (ws : List ℕ) (count at : ℕ) : Type 0 where
  pub between : Between ws at
  pub all : length (longest_runs ws) ≡ count + length (left ws at)

abbrev pub invariant-loop-count : goal.invariant-loop-count
invariant-loop-count l = Counted l.fn.mask.words.now l.count l.at
