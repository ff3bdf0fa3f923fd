-- The magnitude of a signed number, and the tests and casts around it.
use Prim.Native.Nat.{ℕ, ◌<◌}
use mathlib.Core.Path.{◌≡◌, refl, sym, ap, ◌∙◌, subst}
use mathlib.Core.Bool.{Bool, true, false}
use mathlib.Core.List.{◌∷◌}
use native.Mathlib.Omega.{arith}
use lib.IntN.{ℤ, pos, negsuc, nat_abs}
use lib.Signed.{mag, lt_z}
use mir.Syntax.{w64}
use mir.Val.{SFits, to_z, of_z}
use mir.ValLaws.{to_z-of_z}
use borrow.Author.Tests.{ltb-true}
use Rattle.decimals.specs.Decimal.{decimal, signed}

-- a number below 0
pub below : (z : ℤ) → lt_z z (pos 0) ≡ true → z ≡ negsuc (mag z)
below (negsuc k) h = refl
below (pos k) h = absurd (let l : k < 0 = ltb-true k 0 h in omega arith)

pub above : (z : ℤ) → lt_z z (pos 0) ≡ false → z ≡ pos (mag z)
above (pos k) h = refl
above (negsuc k) h = absurd (let e : ◌≡◌ {A = Bool} true false = h in let z : ◌≡◌ {A = ℕ} 0 1 = cc in omega arith)

-- as the machine tests it
module _ (z : ℤ) (f : SFits w64 z) where
  pub neg : lt_z (to_z w64 (of_z w64 z)) (pos 0) ≡ true → z ≡ negsuc (mag z)
  neg h = below z (subst (λ (y : ℤ). lt_z y (pos 0) ≡ true) (to_z-of_z w64 z f) h)

  pub nat : lt_z (to_z w64 (of_z w64 z)) (pos 0) ≡ false → z ≡ pos (mag z)
  nat h = above z (subst (λ (y : ℤ). lt_z y (pos 0) ≡ false) (to_z-of_z w64 z f) h)

-- The text of z, by its magnitude m.
module _ (z : ℤ) (f : SFits w64 z) {m : ℕ} (e : m ≡ nat_abs (to_z w64 (of_z w64 z))) where
  pub signed_below : lt_z (to_z w64 (of_z w64 z)) (pos 0) ≡ true → signed z ≡ 45 ∷ decimal m
  unfolding signed
  signed_below h = ap signed (neg z f h) ∙ ap (λ k. 45 ∷ decimal k) (sym (e ∙ ap nat_abs (to_z-of_z w64 z f ∙ neg z f h)))

  pub signed_above : lt_z (to_z w64 (of_z w64 z)) (pos 0) ≡ false → signed z ≡ decimal m
  unfolding signed
  signed_above h = ap signed (nat z f h) ∙ ap decimal (sym (e ∙ ap nat_abs (to_z-of_z w64 z f ∙ nat z f h)))
