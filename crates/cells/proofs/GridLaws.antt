-- Runs that 6 does not refuse have their cells in the grid, each run at most 1,024 of them; and so how large their sums and totals are.
use mathlib.Core.Path.{◌≡◌, refl, ap}
use mathlib.Core.Bool.{false}
use mathlib.Core.List.{List, [], ◌∷◌}
use Prim.Native.Nat.{ℕ, zero, suc, ◌+◌, ◌*◌, ◌≤◌, ◌^◌}
use native.Mathlib.Omega.{arith}
use lib.ListN.{length, length-append}
use Rattle.integers.proofs.Flags.{both_failed}
use Rattle.outline.proofs.Every.{All, all_append, all_at}
use Rattle.cell_ground.specs.CellSums.{origin, sums_over}
use Rattle.cell_ground.specs.Ground.{ground_of}
use Rattle.cell_ground.specs.GroundLaws.{InGrid, AllInGrid, TotalsOfGround}
use Rattle.cell_ground.specs.private.SumBounds.{SumsWithin}
use Rattle.cell_ground.proofs.SumLaws.{widen, sums_within}
use Rattle.cell_ground.proofs.GroundBounds.{every_ground}
use Rattle.cells.specs.declared.Run.{Run}
use Rattle.cells.specs.RunCells.{cells_from, cells_of, all_cells}
use Rattle.cells.specs.RegionCall.{bad_run, any_bad}
use Rattle.cells.specs.private.Scan.{RunInGrid}
use Rattle.cells.proofs.RunRules.{keeps_six}

pub in_grid : (r : Run) → bad_run r ≡ false → RunInGrid r
in_grid r e = let good = keeps_six r e in record { row = good.row; end = good.end }

-- ---- the cells of a run

pub from-length : (y x n : ℕ) → length (cells_from y x n) ≡ n
unfolding cells_from
from-length y x zero = refl
from-length y x (suc n) = ap suc (from-length y (suc x) n)

from_in_grid : (y x n : ℕ) → y ≤ 1023 → x + n ≤ 1024 → All InGrid (cells_from y x n)
unfolding cells_from
from_in_grid y x zero h k = tt
from_in_grid y x (suc n) h k = (record { column = omega arith; row = omega arith }, from_in_grid y (suc x) n h (omega arith))

run_in_grid : (r : Run) → RunInGrid r → All InGrid (cells_of r)
unfolding cells_of
run_in_grid r g = from_in_grid r.row r.first r.length g.row g.end

run_length : (r : Run) → length (cells_of r) ≡ r.length
unfolding cells_of
run_length r = from-length r.row r.first r.length

-- ---- of a list of runs

all_in_grid : (rs : List Run) → any_bad rs ≡ false → All InGrid (all_cells rs)
unfolding all_cells any_bad
all_in_grid [] e = tt
all_in_grid (r ∷ rs) e = let (f, g) = both_failed (bad_run r) (any_bad rs) e in all_append InGrid (cells_of r) (all_cells rs) (run_in_grid r (in_grid r f)) (all_in_grid rs g)

cells_few : (rs : List Run) → any_bad rs ≡ false → length (all_cells rs) ≤ length rs * 1024
unfolding all_cells any_bad
cells_few [] e = omega arith
cells_few (r ∷ rs) e =
    let (f, g) = both_failed (bad_run r) (any_bad rs) e in
    omega (arith, length-append (cells_of r) (all_cells rs), run_length r, (in_grid r f).end, cells_few rs g)

-- ---- their sums and totals

runs_in_grid : (rs : List Run) → any_bad rs ≡ false → AllInGrid (all_cells rs)
runs_in_grid rs e i = all_at InGrid (all_cells rs) i origin (all_in_grid rs e)

pub runs_ground : (rs : List Run) → any_bad rs ≡ false → length rs ≤ 4096 → TotalsOfGround (all_cells rs) (ground_of (all_cells rs))
runs_ground rs e few = every_ground (all_cells rs) (runs_in_grid rs e) (omega (arith, cells_few rs e))

pub run_within : (r : Run) → RunInGrid r → SumsWithin (2 ^ 10) (sums_over (cells_of r))
run_within r g = widen (omega (arith, run_length r, g.end)) (sums_within (cells_of r) (λ i. all_at InGrid (cells_of r) i origin (run_in_grid r g)))

pub runs_within : (rs : List Run) → any_bad rs ≡ false → length rs ≤ 4096 → SumsWithin (2 ^ 22) (sums_over (all_cells rs))
runs_within rs e few = widen (omega (arith, cells_few rs e)) (sums_within (all_cells rs) (runs_in_grid rs e))
