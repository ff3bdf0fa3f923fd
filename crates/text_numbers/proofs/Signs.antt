-- A small number as a signed one, and its negation; a minus as the number of its bytes.
use Prim.Native.Nat.{ℕ, zero, suc, ◌<◌, ◌≤◌}
use mathlib.Core.Path.{◌≡◌, refl, sym, ap, ◌∙◌, subst}
use mathlib.Core.Bool.{Bool, true, false, cond}
use native.Mathlib.Omega.{arith}
use lib.IntN.{ℤ, pos, neg_ℤ, ◌-ℤ◌, +ℤ_idl}
use mir.Syntax.{w32}
use mir.Val.{SFits, to_z, of_z, bool_byte}
use mir.ValLaws.{to_z-of_z}

module _ (k : ℕ) (h : k < 10000) where
  -- A small number fits as a signed one,
  pub pos_fits : SFits w32 (pos k)
  pos_fits = record { sfits = omega arith }

  -- and read as one it is itself.
  pub pos_read : to_z w32 k ≡ pos k
  pos_read = to_z-of_z w32 (pos k) pos_fits

  -- Taken from 0 it is its negation.
  neg_is : pos 0 -ℤ to_z w32 k ≡ neg_ℤ (pos k)
  neg_is = ap (λ (z : ℤ). pos 0 -ℤ z) pos_read ∙ +ℤ_idl (neg_ℤ (pos k))

neg_fits : (k : ℕ) → k < 10000 → SFits w32 (neg_ℤ (pos k))
neg_fits zero h = record { sfits = omega arith }
neg_fits (suc k) h = record { sfits = omega arith }

module _ (k : ℕ) (h : k < 10000) where
  -- A small number taken from 0 fits as a signed one,
  pub neg_sub : SFits w32 (pos 0 -ℤ to_z w32 k)
  neg_sub = subst (SFits w32) (sym (neg_is k h)) (neg_fits k h)

  -- and read back it is the negation.
  pub neg_read : to_z w32 (of_z w32 (pos 0 -ℤ to_z w32 k)) ≡ neg_ℤ (pos k)
  neg_read = to_z-of_z w32 (pos 0 -ℤ to_z w32 k) neg_sub ∙ neg_is k h

pub sign_read : (m : Bool) (k : ℕ) → k < 10000 → (z : ℤ) → z ≡ cond m (neg_ℤ (pos k)) (pos k) → to_z w32 (of_z w32 z) ≡ cond m (neg_ℤ (pos k)) (pos k)
sign_read m k h z e = to_z-of_z w32 z (subst (SFits w32) (sym e) (go m)) ∙ e
  where
    go : (t : Bool) → SFits w32 (cond t (neg_ℤ (pos k)) (pos k))
    go true = neg_fits k h
    go false = pos_fits k h

-- The code adds the minus as a number.
pub minus_byte : (m : Bool) → cond m 1 0 ≡ bool_byte m
minus_byte true = refl
minus_byte false = refl

pub minus_small : (m : Bool) → bool_byte m ≤ 1
minus_small true = omega arith
minus_small false = omega arith
