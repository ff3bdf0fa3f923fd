-- The sum of the numbers below k has the code's formula, by induction; and what its steps need.
use mathlib.Core.Path.{◌≡◌, ◌∙◌, ap}
use Prim.Native.Nat.{ℕ, zero, suc, ◌+◌, ◌*◌, ◌<◌, ◌≤◌, ◌^◌}
use native.Mathlib.Nat.{mul-le-mul}
use native.Mathlib.Omega.{arith}
use lib.IntN.{pos}
use mir.Syntax.{w64}
use mir.Val.{to_z}
use mir.Facts.{to_z_pos}
use Rattle.column_sums.specs.SumsBelow.{index_sum}

pub index-closed : (k : ℕ) → k * k ≡ 2 * index_sum k + k
unfolding index_sum
index-closed zero = omega arith
index-closed (suc k) = omega (arith, index-closed k)

pub at_most_square : (k : ℕ) → k ≤ k * k
at_most_square zero = omega arith
at_most_square (suc k) = omega arith

-- ---- the steps

pub square-below : {k : ℕ} → k ≤ 2 ^ 16 → k * k ≤ 2 ^ 32
square-below {k} h = mul-le-mul {n₁ = k} {m₁ = k} {n₂ = 2 ^ 16} {m₂ = 2 ^ 16} h h

-- A number that is cast to i64.
pub cast_is : {n m : ℕ} → n < 2 ^ 63 → n ≡ m → to_z w64 n ≡ pos m
cast_is h e = to_z_pos w64 h ∙ ap pos e
