-- Totals that 11 and 27 do not refuse give a quotient whose steps fit 64 bits, over a D above 0.
use Prim.Native.Nat.{zero, suc, min, ◌*◌, ◌≤◌}
use mathlib.Core.Path.{◌≡◌, refl, sym, ◌∙◌, ap, subst₂}
use mathlib.Core.Bool.{Bool, true, false, cond}
use mathlib.Core.List.{[], ◌∷◌}
use native.Mathlib.Omega.{arith}
use borrow.Author.Tests.{le-ltb, eqb-false}
use lib.Dec.{eqb}
use lib.IntN.{ℤ, pos, negsuc, neg_ℤ, neg_ℤ-neg_ℤ, nat_abs, ◌*ℤ◌}
use lib.Signed.{◌<ℤ◌, lt_z}
use Rattle.std.specs.Int.{int_signum}
use Rattle.integers.proofs.Ring.{quote, ring}
use Rattle.integers.proofs.Order.{orders, nat_abs_parts, lt_parts, lt_false, lt_true, nonneg}
use Rattle.integers.proofs.Linear.{→<}
use Rattle.integers.proofs.Bounds.{within}
use Rattle.outline.specs.MapCall.{total_limit}
use Rattle.centroid.specs.Centroid.{centred, signed_by}
use Rattle.centroid.specs.private.Quotient.{QuotientBounds}

-- ---- the signs turned, as the code turns them

pub sign_turns : (a z : ℤ) → eqb (nat_abs a) 0 ≡ false → int_signum a *ℤ z ≡ signed_by a z
unfolding signed_by
sign_turns (pos zero) z some = absurd (omega (arith, eqb-false 0 0 some))
sign_turns (pos (suc n)) z some =
    let one : min (suc n) 1 ≡ 1 = omega arith in
    ap (λ m. pos m *ℤ z) one ∙ rw (le-ltb (suc n) 0 (omega arith)) (ring (z ∷ []) {a = pos 1 *ℤ z} {b = z} (search quote depth 20) (search quote depth 20) tt)
sign_turns (negsuc n) z some = ring (z ∷ []) {a = negsuc 0 *ℤ z} {b = neg_ℤ z} (search quote depth 20) (search quote depth 20) tt

pub sign_small : (a : ℤ) → nat_abs (int_signum a) ≤ 1
sign_small (pos n) = omega arith
sign_small (negsuc n) = omega arith

pub size_turns : (a : ℤ) → pos 3 *ℤ pos (nat_abs a) ≡ signed_by a (pos 3 *ℤ a)
unfolding signed_by
size_turns (pos n) = rw (le-ltb n 0 (omega arith))
size_turns (negsuc n) = sym (neg_ℤ-neg_ℤ (pos (3 * suc n)))

-- ---- the bounds

module _ (n a : ℤ) (hn : nat_abs n ≤ total_limit) (ha : nat_abs a ≤ total_limit) (some : eqb (nat_abs a) 0 ≡ false) where
  -- D is three times an area above 0, or one below 0, negated
  by_sign : (below : Bool) → lt_z a (pos 0) ≡ below → QuotientBounds (cond below (neg_ℤ n) n) (cond below (neg_ℤ (pos 3 *ℤ a)) (pos 3 *ℤ a))
  by_sign true e =
      record {
        dividend = within (n ∷ []) (total_limit ∷ []) (hn, tt) (neg_ℤ n) (search quote depth 20) tt;
        divisor = within (a ∷ []) (total_limit ∷ []) (ha, tt) (neg_ℤ (pos 3 *ℤ a)) (search quote depth 20) tt;
        above = →< (a ∷ []) (search quote depth 20) (search quote depth 20) (omega (arith, lt_parts (lt_true a (pos 0) e)));
      }
  by_sign false e =
      let p : pos 0 <ℤ a = omega (orders, nat_abs_parts a, nonneg (lt_false a (pos 0) e), eqb-false (nat_abs a) 0 some) in
      record {
        dividend = hn;
        divisor = within (a ∷ []) (total_limit ∷ []) (ha, tt) (pos 3 *ℤ a) (search quote depth 20) tt;
        above = →< (a ∷ []) (search quote depth 20) (search quote depth 20) (omega (arith, lt_parts p));
      }

  -- The two cases apart: an area above 0,
  pub bounds_above : lt_z a (pos 0) ≡ false → QuotientBounds n (pos 3 *ℤ a)
  bounds_above = by_sign false

  -- and one below 0, all negated.
  pub bounds_below : lt_z a (pos 0) ≡ true → QuotientBounds (neg_ℤ n) (neg_ℤ (pos 3 *ℤ a))
  bounds_below = by_sign true

  pub quotient_bounds : QuotientBounds (signed_by a n) (signed_by a (pos 3 *ℤ a))
  unfolding signed_by
  quotient_bounds = by_sign (lt_z a (pos 0)) refl

-- ---- equal numbers

-- Numbers equal to those within the bounds are within them,
pub same_bounds : {n n' d d' : ℤ} → n' ≡ n → d' ≡ d → QuotientBounds n d → QuotientBounds n' d'
same_bounds e f b = subst₂ QuotientBounds (sym e) (sym f) b

-- and equal numbers have the same centre.
pub same_centre : {x x' y y' d d' : ℤ} → x' ≡ x → y' ≡ y → d' ≡ d → centred x' y' d' ≡ centred x y d
same_centre e f g i = centred (e i) (f i) (g i)
