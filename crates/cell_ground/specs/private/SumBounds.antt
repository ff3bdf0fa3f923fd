-- How large the old sums get.
use Rattle.std.specs.Prelude.{ℕ, ◌*◌, ◌≤◌, ◌^◌, nat_abs}
use Rattle.cell_ground.specs.CellSums.{CellSums}

-- The sums are at most those of n cells of the grid: each counts 1, its indices are below 2^10, and their products below 2^20.
pub record SumsWithin (n : ℕ) (s : CellSums) : Type 0 where
  pub count : nat_abs s.count ≤ n
  pub x : nat_abs s.x ≤ n * 2 ^ 10
  pub y : nat_abs s.y ≤ n * 2 ^ 10
  pub xx : nat_abs s.xx ≤ n * 2 ^ 20
  pub xy : nat_abs s.xy ≤ n * 2 ^ 20
  pub yy : nat_abs s.yy ≤ n * 2 ^ 20
