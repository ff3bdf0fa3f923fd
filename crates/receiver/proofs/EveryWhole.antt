-- Every whole number up to 2^24 by size is the exact value of a float (lib.Ieee.Back), so every coordinate is.
use Prim.Native.Nat.{ℕ, suc, ◌*◌}
use native.Mathlib.Nat.{le_trans}
use mathlib.Core.Path.{◌≡◌, sym, ◌∙◌, ap, refl}
use mathlib.Core.Bool.{Bool, true, false}
use lib.Dec.{lit≤}
use lib.IntN.{ℤ, pos, negsuc, ◌*ℤ◌}
use lib.Ieee.{Float, nan, inf, fin, binary32, fits, of_int, up, down}
use lib.Ieee.Bits.{is_true}
use lib.Ieee.Fits.{of_int-fits}
use lib.Ieee.Back.{round_whole}
use lib.Ieee.Exact.{HasValue}
use Rattle.integers.proofs.Laws.{mul_one as one-factor}
use Rattle.receiver.specs.Floats.{not_finite, numerator, denominator}
use Rattle.receiver.specs.EveryWhole.{IsFloatOf, EveryWhole}
use Rattle.receiver.specs.private.Signed.{signed}
use Rattle.receiver.proofs.Fractions.{signed_times, whole-nearest}
use Rattle.receiver.proofs.RoundedLaws.{denominator-above, nearest-rounded}

-- A float of the value ± n is as claimed of ± n.
of_value : (x : Float) (s : Bool) (n : ℕ) → fits binary32 x ≡ true → HasValue x s n 1 → IsFloatOf x (signed s n)
unfolding not_finite
of_value nan s n h v = absurd v
of_value (inf t) s n h v = absurd v
of_value (fin t m e) s n h v =
    let x : Float = fin t m e in
    let exact : numerator x ≡ signed s n *ℤ denominator x =
    ap (λ (b : Bool). signed b (m * up e)) v.0 ∙ sym (one-factor (signed s (m * up e))) ∙ signed_times s (m * up e) 1 n (down e) v.1 in
    record {
      held = h;
      finite = refl;
      exact = exact;
      rounds = nearest-rounded x (signed s n) (rw exact (whole-nearest (denominator x) (signed s n) (denominator-above x)));
    }

held : (z : ℤ) → fits binary32 (of_int binary32 z) ≡ true
held z = is_true (fits binary32 (of_int binary32 z)) (of_int-fits binary32 z)

pub every_whole : EveryWhole
unfolding of_int
every_whole (pos n) h = of_value (of_int binary32 (pos n)) false n (held (pos n)) (round_whole binary32 false n (le_trans h (lit≤ tt)))
every_whole (negsuc n) h = of_value (of_int binary32 (negsuc n)) true (suc n) (held (negsuc n)) (round_whole binary32 true (suc n) (le_trans h (lit≤ tt)))
