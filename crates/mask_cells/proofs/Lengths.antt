-- What a mask's number of words is where 31 does not refuse it.
use mathlib.Core.Path.{◌≡◌}
use mathlib.Core.Bool.{false, not}
use Prim.Native.Nat.{ℕ, ◌/◌, ◌%◌, ◌≤◌}
use borrow.Author.Tests.{eqb-true, ltb-false, not-false}
use lib.Dec.{eqb, ltb}
use Rattle.integers.proofs.Flags.{or_left, or_right}
use Rattle.mask_cells.specs.MaskCalls.{wrong_length}

-- Whole rows, 1,024 at most.
pub whole-rows : (n : ℕ) → wrong_length n ≡ false → n % 16 ≡ 0
unfolding wrong_length
whole-rows n e = eqb-true (n % 16) 0 (not-false (eqb (n % 16) 0) (or_left (not (eqb (n % 16) 0)) (ltb 1024 (n / 16)) e))

pub rows_in_grid : (n : ℕ) → wrong_length n ≡ false → n / 16 ≤ 1024
unfolding wrong_length
rows_in_grid n e = ltb-false 1024 (n / 16) (or_right (not (eqb (n % 16) 0)) (ltb 1024 (n / 16)) e)
