-- The statement on whole numbers used: at both limits, where the float is known by its bits, and with the number left free.
use Prim.Native.Nat.{◌≤◌}
use mathlib.Core.Path.{◌≡◌, refl, subst}
use mathlib.Core.Bool.{true, false}
use lib.Count.{count_trailing_zeros}
use lib.Dec.{lit≤}
use lib.IntN.{ℤ, pos, negsuc, nat_abs, ◌*ℤ◌}
use lib.Ieee.{Float, binary32, fits, of_int, round, size, span, climb, units, odd, of_bits, of_fields}
use Rattle.receiver.specs.Floats.{not_finite, numerator, denominator, rounded}
use Rattle.receiver.specs.EveryWhole.{IsFloatOf, EveryWhole}
use Rattle.receiver.proofs.EveryWhole.{every_whole}
use Rattle.receiver.proofs.WorkedFloats.{float}

-- The kit's floats of 2,000 and -2,000.
record AtLimits : Type 0 where
  highest : of_int binary32 (pos 2000) ≡ float 0x44FA0000
  lowest : of_int binary32 (negsuc 1999) ≡ float 0xC4FA0000

at_limits : AtLimits
unfolding of_int round size span climb units odd of_bits of_fields count_trailing_zeros
at_limits = record { highest = refl; lowest = refl }

highest : IsFloatOf (float 0x44FA0000) (pos 2000)
highest = subst (λ (x : Float). IsFloatOf x (pos 2000)) at_limits.highest (every_whole (pos 2000) (lit≤ tt))

lowest : IsFloatOf (float 0xC4FA0000) (negsuc 1999)
lowest = subst (λ (x : Float). IsFloatOf x (negsuc 1999)) at_limits.lowest (every_whole (negsuc 1999) (lit≤ tt))

left_free : (z : ℤ) → nat_abs z ≤ 2000 → (let x = of_int binary32 z in (fits binary32 x ≡ true) × (not_finite x ≡ false) × (numerator x ≡ z *ℤ denominator x) × (rounded x ≡ z))
left_free z h = let stated : EveryWhole = every_whole in let t = stated z h in (t.held, t.finite, t.exact, t.rounds)
