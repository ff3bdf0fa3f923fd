-- Casts that keep a number's value: an i32 to an i64, and to a u64 an i64 that is not negative.
use mathlib.Core.Path.{◌≡◌, sym, ◌∙◌, subst}
use Prim.Native.Nat.{ℕ, ◌<◌, ◌^◌}
use lib.Dec.{T}
use lib.IntN.{ℤ, pos, nat_abs}
use lib.Signed.{non_neg}
use mir.Syntax.{w32, w64}
use mir.Val.{SFits, Fits, to_z, of_z}
use mir.Facts.{to_z-of_z, sfits_widen}

pub widens : {z : ℤ} → SFits w32 z → SFits w64 (to_z w32 (of_z w32 z))
widens k = subst (SFits w64) (sym (to_z-of_z k)) (sfits_widen tt k)

pub widened : {z : ℤ} → SFits w32 z → to_z w64 (of_z w64 (to_z w32 (of_z w32 z))) ≡ z
widened k = to_z-of_z (widens k) ∙ to_z-of_z k

-- what a cast of a signed number to a u64 asks
pub to_unsigned : (y : ℤ) (k : ℕ) → y ≡ pos k → k < 2 ^ 64 → T (non_neg y) × Fits w64 (nat_abs y)
to_unsigned y k e h = subst (λ (x : ℤ). T (non_neg x) × Fits w64 (nat_abs x)) (sym e) (tt, record { fits = h })
