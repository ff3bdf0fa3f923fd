-- How large the sums below k are, where k is at most 1,024; and an entry of any table.
use mathlib.Core.Path.{◌≡◌, ap}
use Prim.Native.Nat.{ℕ, zero, suc, ◌*◌, ◌<◌, ◌≤◌, ◌^◌}
use native.Mathlib.Nat.{mul-le-mul}
use native.Mathlib.Omega.{arith}
use lib.IntN.{ℤ, pos, nat_abs}
use Rattle.column_sums.specs.SumsBelow.{index_sum, square_sum}

index_bound : (k : ℕ) → k ≤ 1024 → index_sum k ≤ k * 1024
unfolding index_sum
index_bound zero h = omega arith
index_bound (suc k) h = omega (arith, index_bound k (omega arith))

square_bound : (k : ℕ) → k ≤ 1024 → square_sum k ≤ k * 2 ^ 20
unfolding square_sum
square_bound zero h = omega arith
square_bound (suc k) h = omega (arith, square_bound k (omega arith), mul-le-mul {n₁ = k} {m₁ = k} {n₂ = 1024} {m₂ = 1024} (omega arith) (omega arith))

-- ---- of an answer

pub index-sized : {z : ℤ} (k : ℕ) → k ≤ 1024 → z ≡ pos (index_sum k) → nat_abs z ≤ 2 ^ 20
index-sized k h e = omega (arith, index_bound k h, ap nat_abs e)

pub square-sized : {z : ℤ} (k : ℕ) → k ≤ 1024 → z ≡ pos (square_sum k) → nat_abs z ≤ 2 ^ 30
square-sized k h e = omega (arith, square_bound k h, ap nat_abs e)

pub entry-sized : {z : ℤ} {n : ℕ} → z ≡ pos n → n < 2 ^ 32 → nat_abs z ≤ 2 ^ 32
entry-sized e h = omega (arith, h, ap nat_abs e)
