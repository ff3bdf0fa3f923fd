-- The natural that four bytes begin with, case by case as the code tests them.
use Prim.Native.Nat.{ℕ, ◌+◌, ◌-◌, ◌*◌, ◌<◌}
use mathlib.Core.Path.{◌≡◌, refl}
use mathlib.Core.Bool.{Bool, true, false, ◌&&◌}
use mathlib.Core.List.{List, [], ◌∷◌}
use native.Mathlib.Omega.{arith}
use lib.Dec.{leb, eqb}
use lib.ListN.{length}
use borrow.Author.Tests.{eq-eqb, ne_eqb}
use Rattle.text_numbers.specs.Numbers.{is_digit, all_digits, value_from, leading_zero, is_natural}
use Rattle.text_numbers.specs.LeadingNumber.{leading_digits}
use Rattle.text_numbers.specs.private.Digits.{digits_at}
use Rattle.text_numbers.specs.declared.NumberAt.{NumberAt}
use Rattle.std.specs.Prelude.{Option, None, Some}
use Rattle.text_numbers.proofs.LeadingDigits.{Digit, digit_bounds}

-- ---- digits in a row

positive : (m : Bool) (v : ℕ) → 0 < v → (m && eqb v 0) ≡ false
positive true v h = ne_eqb v 0 (omega arith)
positive false v h = refl

-- A value is carried on by a digit d.
module _ {v w d : ℕ} (k : Digit d) (e : v ≡ w) (h : 0 < w) where
  next_value : v * 10 + (d - 48) ≡ 10 * w + d - 48
  next_value = omega (arith, k.least)

  next_positive : 0 < 10 * w + d - 48
  next_positive = omega (arith, k.least)

module _ {a b : ℕ} (k : Digit a) (l : Digit b) (z : a ≡ 48 → ⊥) where
  two_value : (0 * 10 + (a - 48)) * 10 + (b - 48) ≡ 10 * a + b - 528
  two_value = omega (arith, k.least, l.least)

  two_positive : 0 < 10 * a + b - 528
  two_positive = omega (arith, k.least, l.least)

module _ (m : Bool) (bs : List ℕ) where
  digits_are : (ds : List ℕ) (v : ℕ) → leading_digits bs ≡ ds → is_natural ds ≡ true → value_from 0 ds ≡ v → (m && eqb v 0) ≡ false → ◌≡◌ {A = Option (NumberAt ℕ)} (Some (record { value = v; size = length ds })) (digits_at m bs)
  unfolding digits_at
  digits_are ds v e h w p = rw (e, h, w, p)

  digits-none : (ds : List ℕ) → leading_digits bs ≡ ds → is_natural ds ≡ false → None ≡ (digits_at m bs)
  unfolding digits_at
  digits-none ds e h = rw (e, h)

never_last : (a b c : Bool) → (a && b && c && false) ≡ false
never_last true true true = refl
never_last true true false = refl
never_last true false c = refl
never_last false b c = refl

module _ (m : Bool) (a b c d : ℕ) where
  pub none_first : is_digit a ≡ false → None ≡ (digits_at m (a ∷ b ∷ c ∷ d ∷ []))
  unfolding leading_digits is_natural all_digits
  none_first h = digits-none m (a ∷ b ∷ c ∷ d ∷ []) [] (rw h) refl

  module _ (ha : is_digit a ≡ true) where
    pub one : is_digit b ≡ false → digits_at m (a ∷ []) ≡ digits_at m (a ∷ b ∷ c ∷ d ∷ [])
    unfolding digits_at leading_digits
    one hb = rw (ha, hb)

    module _ (hb : is_digit b ≡ true) where
      pub leading_zero_lem : a ≡ 48 → None ≡ (digits_at m (a ∷ b ∷ c ∷ d ∷ []))
      unfolding leading_digits is_natural leading_zero
      leading_zero_lem e = digits-none m (a ∷ b ∷ c ∷ d ∷ []) (a ∷ b ∷ leading_digits (c ∷ d ∷ [])) (rw (ha, hb)) (rw (eq-eqb a 48 e) (never_last (all_digits (a ∷ b ∷ leading_digits (c ∷ d ∷ []))) (leb 1 (length (a ∷ b ∷ leading_digits (c ∷ d ∷ [])))) (leb (length (a ∷ b ∷ leading_digits (c ∷ d ∷ []))) 4)))

      module _ (z : a ≡ 48 → ⊥) where
        value_two : (0 * 10 + (a - 48)) * 10 + (b - 48) ≡ 10 * a + b - 528
        value_two = two_value (digit_bounds a ha) (digit_bounds b hb) z

        positive_two : 0 < 10 * a + b - 528
        positive_two = two_positive (digit_bounds a ha) (digit_bounds b hb) z

        pub two : is_digit c ≡ false → ◌≡◌ {A = Option (NumberAt ℕ)} (Some (record { value = 10 * a + b - 528; size = 2 })) (digits_at m (a ∷ b ∷ c ∷ d ∷ []))
        unfolding leading_digits is_natural all_digits leading_zero value_from
        two hc = digits_are m (a ∷ b ∷ c ∷ d ∷ []) (a ∷ b ∷ []) (10 * a + b - 528) (rw (ha, hb, hc)) (rw (ha, hb, ne_eqb a 48 z)) value_two (positive m (10 * a + b - 528) positive_two)

        module _ (hc : is_digit c ≡ true) where
          value_three : ((0 * 10 + (a - 48)) * 10 + (b - 48)) * 10 + (c - 48) ≡ 10 * (10 * a + b - 528) + c - 48
          value_three = next_value (digit_bounds c hc) value_two positive_two

          positive_three : 0 < 10 * (10 * a + b - 528) + c - 48
          positive_three = next_positive (digit_bounds c hc) value_two positive_two

          pub three : is_digit d ≡ false → ◌≡◌ {A = Option (NumberAt ℕ)} (Some (record { value = 10 * (10 * a + b - 528) + c - 48; size = 3 })) (digits_at m (a ∷ b ∷ c ∷ d ∷ []))
          unfolding leading_digits is_natural all_digits leading_zero value_from
          three hd = digits_are m (a ∷ b ∷ c ∷ d ∷ []) (a ∷ b ∷ c ∷ []) (10 * (10 * a + b - 528) + c - 48) (rw (ha, hb, hc, hd)) (rw (ha, hb, hc, ne_eqb a 48 z)) value_three (positive m (10 * (10 * a + b - 528) + c - 48) positive_three)

          pub four : is_digit d ≡ true → ◌≡◌ {A = Option (NumberAt ℕ)} (Some (record { value = 10 * (10 * (10 * a + b - 528) + c - 48) + d - 48; size = 4 })) (digits_at m (a ∷ b ∷ c ∷ d ∷ []))
          unfolding leading_digits is_natural all_digits leading_zero value_from
          four hd = digits_are m (a ∷ b ∷ c ∷ d ∷ []) (a ∷ b ∷ c ∷ d ∷ []) (10 * (10 * (10 * a + b - 528) + c - 48) + d - 48) (rw (ha, hb, hc, hd)) (rw (ha, hb, hc, hd, ne_eqb a 48 z)) (next_value (digit_bounds d hd) value_three positive_three) (positive m (10 * (10 * (10 * a + b - 528) + c - 48) + d - 48) (next_positive (digit_bounds d hd) value_three positive_three))

-- One digit: 0 takes no minus.
module _ (m : Bool) (a : ℕ) (ha : is_digit a ≡ true) where
  pub minus_zero : m ≡ true → a ≡ 48 → None ≡ (digits_at m (a ∷ []))
  unfolding digits_at leading_digits is_natural all_digits leading_zero value_from
  minus_zero h z = rw (ha, ha, h, z)

  single : (m && eqb (a - 48) 0) ≡ false → ◌≡◌ {A = Option (NumberAt ℕ)} (Some (record { value = a - 48; size = 1 })) (digits_at m (a ∷ []))
  unfolding leading_digits is_natural all_digits leading_zero value_from
  single = digits_are m (a ∷ []) (a ∷ []) (a - 48) (rw ha) (rw ha) (omega arith)

  pub plain_digit : m ≡ false → ◌≡◌ {A = Option (NumberAt ℕ)} (Some (record { value = a - 48; size = 1 })) (digits_at m (a ∷ []))
  plain_digit h = single (rw h)

  pub not_zero : (a ≡ 48 → ⊥) → ◌≡◌ {A = Option (NumberAt ℕ)} (Some (record { value = a - 48; size = 1 })) (digits_at m (a ∷ []))
  not_zero z = let k = digit_bounds a ha in single (positive m (a - 48) (omega arith))
