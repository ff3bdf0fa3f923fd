-- Whether d × v is over a limit, from the tests of d and of v alone: never where d is 0; else always where v is over it. Where v is not, the product fits 64 bits; and
-- one that does not fit is over the limit. What a product that is there, or none, says of its test.
use mathlib.Core.Path.{◌≡◌, refl, sym, ◌∙◌, ap}
use mathlib.Core.Bool.{Bool, true, false, cond}
use Prim.Native.Nat.{ℕ, zero, suc, ◌≤◌}
use native.Mathlib.Nat as NatL
use native.Mathlib.Omega.{arith}
use lib.IntN.{ℤ, pos, negsuc, nat_abs, ◌*ℤ◌, zero-*ℤ}
use borrow.Author.Tests.{ltb-true, lt-ltb, le-ltb}
use mir.Syntax.{w64}
use mir.Val.{SFits}
use mir.Facts.{to_z-of_z}
use Rattle.std.specs.Prelude.{Option, Some, None}
use Rattle.integers.proofs.Order.{nat_abs_mul}
use Rattle.integers.proofs.Bounds.{nat_abs_sfits}
use Rattle.integers.proofs.SizedNumbers.{i64}
use Rattle.outline.specs.EdgeSums.{over}
use Rattle.outline.specs.MapCall.{total_limit}
use Rattle.outline.proofs.Limits.{over_not}
use Rattle.affine.specs.private.Limits.{AtMost}
use Rattle.affine.proofs.Fields.{product_read}

pub zero_not_over : (n : ℕ) {d : ℤ} (v : ℤ) → d ≡ pos 0 → over n (d *ℤ v) ≡ false
unfolding over
zero_not_over n v e = rw (e, zero-*ℤ v) (le-ltb n 0 (omega arith))

nonzero : (d : ℤ) → (d ≡ pos 0 → ⊥) → 1 ≤ nat_abs d
nonzero (pos zero) h = absurd (h refl)
nonzero (pos (suc n)) h = omega arith
nonzero (negsuc n) h = omega arith

pub over_times : (n : ℕ) (d v : ℤ) → (d ≡ pos 0 → ⊥) → over n v ≡ true → over n (d *ℤ v) ≡ true
unfolding over
over_times n d v h e = lt-ltb n (nat_abs (d *ℤ v)) (rw (nat_abs_mul d v) (omega (arith, ltb-true n (nat_abs v) e, NatL.mul-le-mul_right (nat_abs v) (nonzero d h))))

pub product_fits : (d v : ℤ) → AtMost 8 d → over total_limit v ≡ false → SFits w64 (d *ℤ v)
product_fits d v h e = nat_abs_sfits (rw (nat_abs_mul d v) (omega (arith, NatL.mul-le-mul h.size (over_not total_limit v e))))

pub not_fitting : (z : ℤ) → (SFits w64 z → ⊥) → over total_limit z ≡ true
not_fitting z h = by_test (over total_limit z) refl
  where
    by_test : (b : Bool) → over total_limit z ≡ b → b ≡ true
    by_test true e = refl
    by_test false e = let most = over_not total_limit z e in absurd (h (nat_abs_sfits (omega (arith, most))))

-- what a product that is there, or none, says of its test
pub there : {A : Type 0} (b : Bool) (z : A) {r : A} → Some r ≡ cond b None (Some z) → (b ≡ false) × (r ≡ z)
there true z e = cc
there false z e = (refl, cc)

pub none_there : {A : Type 0} (b : Bool) (z : A) → None ≡ cond b None (Some z) → b ≡ true
none_there true z e = refl
none_there false z e = cc

-- the same of a product as the code reads its factors
module _ {d z : ℤ} {o : Option ℤ} (f : SFits w64 d) (k : SFits w64 z) (e : o ≡ cond (over total_limit (i64 d *ℤ i64 z)) None (Some (i64 d *ℤ i64 z))) where
  read : o ≡ cond (over total_limit (d *ℤ z)) None (Some (d *ℤ z))
  read = e ∙ (λ i. cond (over total_limit (product_read f k i)) None (Some (product_read f k i)))

  pub missing : o ≡ None → over total_limit (d *ℤ z) ≡ true
  missing n = none_there (over total_limit (d *ℤ z)) (d *ℤ z) (sym n ∙ read)

  pub given : {r : ℤ} → o ≡ Some r → (over total_limit (d *ℤ z) ≡ false) × (i64 r ≡ d *ℤ z)
  given n =
      let t = there (over total_limit (d *ℤ z)) (d *ℤ z) (sym n ∙ read) in
      let most = over_not total_limit (d *ℤ z) t.0 in
      (t.0, ap i64 t.1 ∙ to_z-of_z {w = w64} (nat_abs_sfits (omega (arith, most))))
