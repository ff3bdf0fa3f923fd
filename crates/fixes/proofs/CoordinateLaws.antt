-- A float as a coordinate, by the fields of its bits: what the code answers for each range of the exponent's field e.
use Rattle.std.specs.Prelude.{Ok, Err}
use mathlib.Core.Path.{◌≡◌, refl, sym, ◌∙◌, ap}
use mathlib.Core.Bool.{Bool, true, false}
use Prim.Native.Nat.{ℕ, zero, suc, ◌+◌, ◌-◌, ◌*◌, ◌<◌, ◌≤◌, ◌^◌}
use native.Mathlib.Nat.{mul_assoc, mul-le-mul_left, mul-le-mul_right, mul-lt-mul_of_pos_right, le_trans, le_of_eq, lt_of_lt_of_le, lt_of_le_of_lt, add_comm, mod-lt}
use native.Mathlib.Omega.{arith}
use borrow.Author.Tests.{lt-ltb, le-ltb, eqb-false}
use lib.Dec.{lit<}
use lib.Pow.{pow_pos, pow-add, pow_mono}
use lib.IntN.{ℤ, pos, nat_abs, neg_ℤ, ◌-ℤ◌, +ℤ_idl}
use mathlib.Core.List.{List, [], ◌∷◌}
use mir.Syntax.{w32}
use mir.Val.{to_z, of_z}
use Rattle.integers.proofs.Ring.{Place}
use Rattle.integers.proofs.SignedCode.{Code, num, var, code}
use Rattle.integers.proofs.SizedNumbers.{sized, is_plain}
use lib.Ieee.{Float, binary32, fits, of_fields, to_bits}
use Rattle.integers.proofs.Order.{nat_abs_neg}
use Rattle.integers.proofs.Floor.{nearest_is}
use Rattle.outline.specs.EdgeSums.{over}
use Rattle.receiver.specs.Floats.{not_finite, rounded}
use Rattle.receiver.specs.private.Signed.{signed}
use Rattle.receiver.proofs.Fractions.{same_fraction, signed_times}
use Rattle.receiver.proofs.RoundedLaws.{above_zero, value_rounds}
use Rattle.receiver.proofs.Fields.{sign_field, exponent_field, digits_field, of_the_fields, by_fields, bits_tell, normal, subnormal}
use Rattle.fixes.specs.declared.FixRefusal.TheVariants.{OutsideLimits}
use Rattle.fixes.specs.private.Coordinates.{rounded_size, coordinate_at, sized_coordinate, coordinate_of}
use Rattle.fixes.proofs.Quotients.{size-near}
use Rattle.fixes.proofs.BySize.{small_near, large_far}

-- ---- a whole number as a coordinate

outside-at : (k : ℤ) → (nat_abs k ≤ 2000 → ⊥) → coordinate_at k ≡ Err OutsideLimits
unfolding coordinate_at over
outside-at k h = rw (lt-ltb 2000 (nat_abs k) (omega arith))

inside_at : (k : ℤ) → nat_abs k ≤ 2000 → coordinate_at k ≡ Ok k
unfolding coordinate_at over
inside_at k h = rw (le-ltb 2000 (nat_abs k) h)

nat_abs_signed : (s : Bool) (n : ℕ) → nat_abs (signed s n) ≡ n
nat_abs_signed false n = refl
nat_abs_signed true n = nat_abs_neg (pos n)

pub sized_outside : (s : Bool) (n : ℕ) → 2000 < n → Err OutsideLimits ≡ sized_coordinate s n
unfolding sized_coordinate
sized_outside s n h = let size = nat_abs_signed s n in sym (outside-at (signed s n) (λ l. omega arith))

sized_inside : (s : Bool) (n : ℕ) → n ≤ 2000 → Ok (signed s n) ≡ sized_coordinate s n
unfolding sized_coordinate
sized_inside s n h = let size = nat_abs_signed s n in sym (inside_at (signed s n) (omega arith))

-- The same as the code casts a size to a number with a sign, either sign.

abbrev cast : {ρ : List ℤ} {n : ℕ} → Place ρ (pos n) → Code ρ (to_z w32 n)
cast p = num w32 (var p)

pub inside_above : (n : ℕ) → n ≤ 2000 → Ok (to_z w32 n) ≡ sized_coordinate false n
inside_above n h = ap Ok (is_plain (sized (pos n) h ∷ []) (search (cast, code) depth 40) tt) ∙ sized_inside false n h

pub inside_below : (n : ℕ) → n ≤ 2000 → Ok (to_z w32 (of_z w32 (pos 0 -ℤ to_z w32 n))) ≡ sized_coordinate true n
inside_below n h = ap Ok (is_plain (sized (pos n) h ∷ []) (search (cast, code) depth 40) tt ∙ +ℤ_idl (neg_ℤ (pos n))) ∙ sized_inside true n h

-- ---- by the exponent's field

-- 2^23 or more by size.
far-outside : (s : Bool) (e t : ℕ) → 149 < e → (e ≡ 255 → ⊥) → coordinate_at (rounded (of_fields binary32 s e t)) ≡ Err OutsideLimits
far-outside s zero t h n = absurd (omega arith)
far-outside s (suc x) t h n =
    let a : ℕ = (8388608 + t) * 2 ^ x in
    let big : 8388608 * 2 ^ 149 ≤ a = le_trans (mul-le-mul_left 8388608 (pow_mono {i = 149} {j = x} (omega arith))) (mul-le-mul_right (2 ^ x) (omega arith)) in
    let near = nearest_is (signed s a) (pos (2 ^ 149)) (above_zero (pow_pos 149)) in
    ap coordinate_at (value_rounds (of_fields binary32 s (suc x) t) s a (2 ^ 149) _ (pow_pos 149) (normal s x t n) near)
    ∙ outside-at _ (large_far s a (2 ^ 149) _ (pow_pos 149) big near)

-- Less than a half by size.
near_zero : (s : Bool) (e t : ℕ) → t < 8388608 → e < 126 → rounded (of_fields binary32 s e t) ≡ pos 0
near_zero s zero t h l =
    let few : 2 * (t * 2 ^ 0) < 2 ^ 24 = omega arith in
    value_rounds (of_fields binary32 s 0 t) s (t * 2 ^ 0) (2 ^ 149) (pos 0) (pow_pos 149) (subnormal s t)
    (small_near s (t * 2 ^ 0) (2 ^ 149) (lt_of_lt_of_le few (pow_mono {i = 24} {j = 149} (omega arith))))
near_zero s (suc x) t h l =
    value_rounds (of_fields binary32 s (suc x) t) s ((8388608 + t) * 2 ^ x) (2 ^ 149) (pos 0) (pow_pos 149) (normal s x t (omega arith))
    (small_near s ((8388608 + t) * 2 ^ x) (2 ^ 149) few)
  where
    few : 2 * ((8388608 + t) * 2 ^ x) < 2 ^ 149
    few =
        let regroup : 2 * ((8388608 + t) * 2 ^ x) ≡ 2 * (8388608 + t) * 2 ^ x = sym (mul_assoc 2 (8388608 + t) (2 ^ x)) in
        let size : 2 * (8388608 + t) * 2 ^ x < 2 ^ 25 * 2 ^ x = mul-lt-mul_of_pos_right (omega arith) (pow_pos x) in
        let joined : 2 ^ 25 * 2 ^ x ≡ 2 ^ (25 + x) = sym (pow-add 2 25 x) in
        lt_of_le_of_lt (le_of_eq regroup) (lt_of_lt_of_le size (le_trans (le_of_eq joined) (pow_mono {i = 25 + x} {j = 149} (omega arith))))

zero_inside : Ok (pos 0) ≡ coordinate_at (pos 0)
unfolding coordinate_at over
zero_inside = refl

-- Between: the 24 digits over a power of 2.
by_digits : (s : Bool) (e t : ℕ) → 1 ≤ e → e ≤ 149 → rounded (of_fields binary32 s e t) ≡ signed s (rounded_size s (t + 8388608) (150 - e))
by_digits s zero t l h = absurd (omega arith)
by_digits s (suc x) t l h =
    let q : ℕ = 8388608 + t in
    let d : ℕ = 150 - suc x in
    let k : ℤ = signed s (rounded_size s q d) in
    let whole : x + d ≡ 149 = omega arith in
    let scale : q * 2 ^ x * 2 ^ d ≡ q * 2 ^ 149 = mul_assoc q (2 ^ x) (2 ^ d) ∙ ap (λ (y : ℕ). q * y) (sym (pow-add 2 x d) ∙ ap (λ (y : ℕ). 2 ^ y) whole) in
    value_rounds (of_fields binary32 s (suc x) t) s (q * 2 ^ x) (2 ^ 149) k (pow_pos 149) (normal s x t (omega arith))
    (same_fraction (signed s q) (pos (2 ^ d)) (signed s (q * 2 ^ x)) (pos (2 ^ 149)) k (above_zero (pow_pos d)) (above_zero (pow_pos 149))
    (signed_times s (q * 2 ^ x) (2 ^ d) q (2 ^ 149) scale) (size-near s q d (omega arith)))
    ∙ ap (λ (y : ℕ). signed s (rounded_size s y d)) (add_comm 8388608 t)

-- ---- a float that 33 does not refuse, by its bits

module _ (x : Float) (held : fits binary32 x ≡ true) (finite : not_finite x ≡ false) where
  abbrev bits : ℕ
  bits = to_bits binary32 x

  by_coordinate : coordinate_of x ≡ coordinate_at (rounded (of_the_fields bits))
  unfolding coordinate_of
  by_coordinate = ap (λ (y : Float). coordinate_at (rounded y)) (by_fields x held)

  no_infinity : exponent_field bits ≡ 255 → ⊥
  no_infinity = eqb-false (exponent_field bits) 255 (sym (bits_tell x held) ∙ finite)

  pub outside_by_field : 149 < exponent_field bits → Err OutsideLimits ≡ coordinate_of x
  outside_by_field h = sym (by_coordinate ∙ far-outside (sign_field bits) (exponent_field bits) (digits_field bits) h no_infinity)

  pub zero_by_field : exponent_field bits < 126 → Ok (pos 0) ≡ coordinate_of x
  zero_by_field h = zero_inside ∙ sym (by_coordinate ∙ ap coordinate_at (near_zero (sign_field bits) (exponent_field bits) (digits_field bits) (mod-lt bits (lit< tt)) h))

  pub sized_by_fields : 1 ≤ exponent_field bits → exponent_field bits ≤ 149
      → sized_coordinate (sign_field bits) (rounded_size (sign_field bits) (digits_field bits + 8388608) (150 - exponent_field bits)) ≡ coordinate_of x
  unfolding sized_coordinate
  sized_by_fields l h = sym (by_coordinate ∙ ap coordinate_at (by_digits (sign_field bits) (exponent_field bits) (digits_field bits) l h))
