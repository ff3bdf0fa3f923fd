-- A float of 32 bits by the fields of its bits: the sign, the exponent's field, and the 23 digits below the leading one.
use Prim.Native.Nat.{ℕ, zero, suc, ◌+◌, ◌*◌, ◌/◌, ◌%◌, ◌^◌}
use mathlib.Core.Path.{◌≡◌, refl, sym, ◌∙◌, ap, subst}
use mathlib.Core.Bool.{Bool, true, false, not, cond}
use borrow.Author.Tests.{ne_eqb}
use lib.Dec.{T, leb, eqb}
use lib.Ieee.{Float, nan, inf, fin, binary32, odd, ne, is_nan, fits, of_fields, of_bits, to_bits}
use lib.Ieee.Bits.{of_bits-to_bits}
use lib.Ieee.Compare.{differs_from_itself, nan_differs}
use lib.Ieee.Exact.{HasValue, odd_sign}
use Rattle.std.specs.Float.{float_is_finite}
use Rattle.receiver.specs.Floats.{not_finite}

-- ---- the fields

abbrev pub sign_field : ℕ → Bool
sign_field bits = leb 2147483648 bits

abbrev pub exponent_field : ℕ → ℕ
exponent_field bits = bits % 2147483648 / 8388608

abbrev pub digits_field : ℕ → ℕ
digits_field bits = bits % 8388608

abbrev pub of_the_fields : ℕ → Float
of_the_fields bits = of_fields binary32 (sign_field bits) (exponent_field bits) (digits_field bits)

-- A float that 32 bits hold is what the fields of its bits say.
pub by_fields : (x : Float) → fits binary32 x ≡ true → x ≡ of_the_fields (to_bits binary32 x)
unfolding of_bits
by_fields x h = sym (of_bits-to_bits binary32 x (subst T (sym h) tt))

-- ---- not a number, and infinite

-- What 33 refuses is what the library's test does not let through.
pub by_library : (x : Float) → not (float_is_finite x) ≡ not_finite x
unfolding float_is_finite not_finite
by_library nan = refl
by_library (inf s) = refl
by_library (fin s m e) = refl

-- What differs from itself is no number, and 33 refuses it.
pub differing : (x : Float) → ne x x ≡ true → not_finite x ≡ true
unfolding not_finite
differing x h = ap not_finite (differs_from_itself x (subst T (sym h) tt))

-- What is no number, 33 refuses.
pub nan_refused : (x : Float) → is_nan x ≡ true → true ≡ not_finite x
unfolding is_nan not_finite
nan_refused nan h = refl
nan_refused (inf s) h = absurd (subst T (sym h) tt)
nan_refused (fin s m e) h = absurd (subst T (sym h) tt)

-- What does not differ from itself has bits of its own.
pub has_bits : (x : Float) → ne x x ≡ false → T (not (is_nan x))
unfolding is_nan
has_bits nan h = let clash : true ≡ false = sym nan_differs ∙ h in absurd (subst T clash tt)
has_bits (inf s) h = tt
has_bits (fin s m e) h = tt

-- So has what 33 does not refuse.
pub finite_has_bits : (x : Float) → not_finite x ≡ false → T (not (is_nan x))
unfolding is_nan not_finite
finite_has_bits nan h = absurd (subst T h tt)
finite_has_bits (inf s) h = absurd (subst T h tt)
finite_has_bits (fin s m e) h = tt

odd_finite : (d : ℕ) (s : Bool) (q k l : ℕ) → not_finite (odd d s q k l) ≡ false
unfolding not_finite odd
odd_finite d s zero k l = refl
odd_finite d s (suc q) k l = refl

-- 33, by the exponent's field.
pub field_tells : (s : Bool) (e t : ℕ) → not_finite (of_fields binary32 s e t) ≡ eqb e 255
unfolding not_finite of_fields
field_tells s zero t = odd_finite 24 s t 0 149
field_tells s (suc x) t = either (eqb (suc x) 255) (eqb t 0)
  where
    either : (b c : Bool) → not_finite (cond b (cond c (inf s) nan) (odd 24 s (8388608 + t) x 149)) ≡ b
    either true true = refl
    either true false = refl
    either false c = odd_finite 24 s (8388608 + t) x 149

pub bits_tell : (x : Float) → fits binary32 x ≡ true → not_finite x ≡ eqb (exponent_field (to_bits binary32 x)) 255
bits_tell x h =
    let bits : ℕ = to_bits binary32 x in
    ap not_finite (by_fields x h) ∙ field_tells (sign_field bits) (exponent_field bits) (digits_field bits)

-- ---- the value of a finite float, in units of 2^-149

pub normal : (s : Bool) (x t : ℕ) → (suc x ≡ 255 → ⊥) → HasValue (of_fields binary32 s (suc x) t) s ((8388608 + t) * 2 ^ x) (2 ^ 149)
unfolding of_fields
normal s x t h = rw (ne_eqb (suc x) 255 h) (odd_sign 24 s (8388608 + t) x 149)

pub subnormal : (s : Bool) (t : ℕ) → HasValue (of_fields binary32 s 0 t) s (t * 2 ^ 0) (2 ^ 149)
unfolding of_fields
subnormal s t = odd_sign 24 s t 0 149
