-- Document 02, CR 3: totals turned by a kind. Where there is an area, they have the sign of the kind, and are the same for the ring walked backwards.
use Prim.Native.Nat.{zero, suc}
use mathlib.Core.Path.{◌≡◌, refl, sym, ◌∙◌, ap}
use mathlib.Core.Bool.{Bool, true, false, not, cond, true≢false}
use mathlib.Core.Logic.{◌≢◌}
use native.Mathlib.Omega.{arith}
use lib.Dec.{eqb}
use lib.IntN.{ℤ, pos, negsuc, neg_ℤ, nat_abs, neg_ℤ-neg_ℤ}
use borrow.Author.Tests.{ne_eqb, eqb-true, lt-ltb, le-ltb}
use Rattle.integers.proofs.Cases.{by_cond}
use Rattle.integers.proofs.Order.{nat_abs_neg}
use Rattle.outline.specs.declared.Kind.{Kind}
use Rattle.outline.specs.declared.Kind.TheVariants.{Island, Hole}
use Rattle.outline.specs.declared.Totals.{Totals}
use Rattle.outline.specs.declared.Sizes.{Sizes}
use Rattle.outline.specs.EdgeSums.{negated, over, exceed}
use Rattle.outline.specs.Pieces.{Direction, forwards, backwards, directed}
use Rattle.outline.specs.WalkCalls.{has_sign, turned, zero_area}

-- ---- zero area

size_zero : (z : ℤ) → nat_abs z ≡ 0 → z ≡ pos 0
size_zero (pos n) e = ap pos e
size_zero (negsuc n) e = absurd (omega arith)

pub zero_area_zero : (t : Totals) → zero_area t ≡ true → t.a2 ≡ pos 0
unfolding zero_area
zero_area_zero t e = size_zero t.a2 (eqb-true (nat_abs t.a2) 0 e)

pub zero_zero_area : (t : Totals) → t.a2 ≡ pos 0 → zero_area t ≡ true
unfolding zero_area
zero_zero_area t e = rw e

pub area-zero_area : (t : Totals) → t.a2 ≢ pos 0 → zero_area t ≡ false
unfolding zero_area
area-zero_area t n = ne_eqb (nat_abs t.a2) 0 (λ e. n (size_zero t.a2 e))

pub directed-zero_area : (direction : Direction) (t : Totals) → zero_area (directed direction t) ≡ zero_area t
unfolding zero_area directed
directed-zero_area forwards t = refl
directed-zero_area backwards t = rw (nat_abs_neg t.a2)

-- ---- the sign

turned_sign : (k : Kind) (z : ℤ) → eqb (nat_abs z) 0 ≡ false → has_sign k (neg_ℤ z) ≡ not (has_sign k z)
unfolding has_sign
turned_sign k (pos zero) e = absurd (true≢false e)
turned_sign Island (pos (suc n)) e = sym (ap not (lt-ltb 0 (suc n) (omega arith)))
turned_sign Island (negsuc n) e = lt-ltb 0 (suc n) (omega arith)
turned_sign Hole (pos (suc n)) e = sym (ap not (le-ltb (suc n) 0 (omega arith)))
turned_sign Hole (negsuc n) e = le-ltb (suc n) 0 (omega arith)

-- Turned totals have the sign of the kind,
pub sign_of_turned : (k : Kind) (t : Totals) → zero_area t ≡ false → has_sign k (turned k t).a2 ≡ true
unfolding turned zero_area
sign_of_turned k t e = by_cond (λ (u : Totals). has_sign k u.a2 ≡ true) (has_sign k t.a2) (λ h. h) (λ h. turned_sign k t.a2 e ∙ ap not h)

negated_twice : (t : Totals) → negated (negated t) ≡ t
negated_twice t = simp neg_ℤ-neg_ℤ

-- and are the same whichever way the ring was walked.
pub turned-directed : (k : Kind) (direction : Direction) (t : Totals) → zero_area t ≡ false → turned k (directed direction t) ≡ turned k t
unfolding turned zero_area directed
turned-directed k forwards t e = refl
turned-directed k backwards t e = rw (turned_sign k t.a2 e) (go (has_sign k t.a2))
  where
    go : (b : Bool) → cond (not b) (negated t) (negated (negated t)) ≡ cond b t (negated t)
    go true = negated_twice t
    go false = refl

-- ---- the size

-- Turned or not, totals are of the same size.
pub turned-exceed : (b : Sizes) (k : Kind) (t : Totals) → exceed b (turned k t) ≡ exceed b t
unfolding turned exceed over
turned-exceed b k t = by_cond (λ u. exceed b u ≡ exceed b t) (has_sign k t.a2) (λ e. refl) (λ e. rw (nat_abs_neg t.a2, nat_abs_neg t.x6, nat_abs_neg t.y6, nat_abs_neg t.xx12, nat_abs_neg t.xy24, nat_abs_neg t.yy12))
