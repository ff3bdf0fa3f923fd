-- A float's rounded value is the one whole number of which the rule of rounding holds; and floats of one value round alike.
use Prim.Native.Nat.{ℕ, ◌*◌, ◌<◌}
use mathlib.Core.Path.{◌≡◌, sym, ◌∙◌, ap}
use mathlib.Core.Bool.{Bool, true}
use native.Mathlib.Omega.{arith}
use lib.IntN.{ℤ, pos}
use lib.Signed.{◌<ℤ◌}
use lib.Ieee.{Float, nan, inf, fin, up, down}
use lib.Ieee.Fits.{down_pos}
use lib.Ieee.Exact.{HasValue}
use Rattle.integers.specs.Rounding.{rounds_to}
use Rattle.integers.proofs.Order.{parts_lt}
use Rattle.integers.proofs.Floor.{Nearest}
use Rattle.integers.proofs.HalfUp.{half_up_holds, half_up_only, nearest_half_up}
use Rattle.receiver.specs.Floats.{numerator, denominator, rounded}
use Rattle.receiver.specs.private.Signed.{signed}
use Rattle.receiver.proofs.Fractions.{same_fraction, signed_times}

pub above_zero : {n : ℕ} → 0 < n → pos 0 <ℤ pos n
above_zero h = parts_lt (omega arith)

pub denominator-above : (x : Float) → pos 0 <ℤ denominator x
denominator-above nan = parts_lt (omega arith)
denominator-above (inf s) = parts_lt (omega arith)
denominator-above (fin s m e) = above_zero (down_pos e)

pub rounded-holds : (x : Float) → rounds_to (numerator x) (denominator x) (rounded x) ≡ true
unfolding rounded
rounded-holds x = half_up_holds (numerator x) (denominator x) (denominator-above x)

pub rounded-only : (x : Float) (k : ℤ) → rounds_to (numerator x) (denominator x) k ≡ true → k ≡ rounded x
unfolding rounded
rounded-only x k e = half_up_only (numerator x) (denominator x) k (denominator-above x) e

pub nearest-rounded : (x : Float) (k : ℤ) → Nearest (numerator x) (denominator x) k → rounded x ≡ k
unfolding rounded
nearest-rounded x k f = sym (nearest_half_up (numerator x) (denominator x) k (denominator-above x) f)

-- A float of the value ± a / c rounds as that fraction does.
pub value_rounds : (x : Float) (s : Bool) (a c : ℕ) (k : ℤ) → 0 < c → HasValue x s a c → Nearest (signed s a) (pos c) k → rounded x ≡ k
value_rounds nan s a c k h v f = absurd v
value_rounds (inf t) s a c k h v f = absurd v
value_rounds (fin t m e) s a c k h v f =
    ap (λ (b : Bool). rounded (fin b m e)) v.0
    ∙ nearest-rounded (fin s m e) k
    (same_fraction (signed s a) (pos c) (signed s (m * up e)) (pos (down e)) k (above_zero h) (above_zero (down_pos e))
    (signed_times s (m * up e) c a (down e) v.1) f)
