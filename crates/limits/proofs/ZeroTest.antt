-- What the code's test of a number for zero says.
use Prim.Native.Nat.{suc}
use mathlib.Core.Path.{◌≡◌, sym, ◌∙◌, ap}
use mathlib.Core.Bool.{true, false}
use native.Mathlib.Omega.{arith}
use borrow.Author.Tests.{eq-eqb, ne_eqb}
use lib.Dec.{eqb}
use lib.IntN.{ℤ, pos, negsuc, nat_abs}
use mir.Syntax.{w64}
use mir.Val.{to_z, of_z}

-- The code's `z == 0` is a test of z's bits.
pub zero_size : (z : ℤ) → to_z w64 (of_z w64 z) ≡ z → of_z w64 z ≡ 0 → eqb (nat_abs z) 0 ≡ true
zero_size z back e = eq-eqb (nat_abs z) 0 (ap nat_abs (sym back ∙ ap (to_z w64) e))

pub nonzero_size : (z : ℤ) → (of_z w64 z ≡ 0 → ⊥) → eqb (nat_abs z) 0 ≡ false
nonzero_size (pos n) h = ne_eqb n 0 (λ e. h (ap (λ m. of_z w64 (pos m)) e))
nonzero_size (negsuc n) h = ne_eqb (suc n) 0 (λ e. omega arith)
