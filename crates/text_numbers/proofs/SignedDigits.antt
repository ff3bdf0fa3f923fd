-- A number is its sign and the natural behind it.
use Prim.Native.Nat.{ℕ, ◌+◌, ◌-◌, ◌*◌, ◌<◌, ◌≤◌}
use mathlib.Core.Path.{◌≡◌, refl, ap, ◌∙◌}
use mathlib.Core.Bool.{Bool, true, false, not, ◌&&◌, cond}
use mathlib.Core.List.{List, [], ◌∷◌}
use native.Mathlib.Omega.{arith}
use lib.Dec.{leb, eqb}
use lib.IntN.{ℤ, pos, neg_ℤ}
use lib.ListN.{length}
use mir.Val.{bool_byte}
use borrow.Author.Tests.{leb-true}
use Rattle.integers.proofs.Flags.{and_left, and_right}
use Rattle.text_numbers.specs.Numbers.{is_digit, all_digits, value_from, leading_zero, is_natural, number, malformed, negative_of, natural_of}
use Rattle.text_numbers.specs.LeadingNumber.{leading_digits, sized, leading_number}
use Rattle.text_numbers.specs.private.Digits.{digits_at}
use Rattle.std.specs.Prelude.{Option, None, Some}
use Rattle.text_numbers.specs.declared.NumberAt.{NumberAt}
use Rattle.text_numbers.proofs.LeadingDigits.{digit_bounds}

-- ---- a natural is below 10,000

-- k with a zero for each byte.
scaled : ℕ → List ℕ → ℕ
scaled k [] = k
scaled k (b ∷ bs) = scaled (k * 10) bs

value_below : (ds : List ℕ) (v k : ℕ) → all_digits ds ≡ true → v < k → value_from v ds < scaled k ds
unfolding all_digits value_from scaled
value_below [] v k h p = p
value_below (d ∷ ds) v k h p = let q = digit_bounds d (and_left (is_digit d) (all_digits ds) h) in value_below ds (v * 10 + (d - 48)) (k * 10) (and_right (is_digit d) (all_digits ds) h) (omega arith)

scaled-four : (ds : List ℕ) → length ds ≤ 4 → scaled 1 ds ≤ 10000
unfolding scaled
scaled-four [] h = omega arith
scaled-four (a ∷ []) h = omega arith
scaled-four (a ∷ b ∷ []) h = omega arith
scaled-four (a ∷ b ∷ c ∷ []) h = omega arith
scaled-four (a ∷ b ∷ c ∷ d ∷ []) h = omega arith
scaled-four (a ∷ b ∷ c ∷ d ∷ e ∷ ds) h = absurd (omega arith)

-- What holds of a natural's digits.
record Natural (ds : List ℕ) : Type 0 where
  some : 1 ≤ length ds
  few : length ds ≤ 4
  small : value_from 0 ds < 10000

natural_digits : (ds : List ℕ) → is_natural ds ≡ true → Natural ds
unfolding is_natural
natural_digits ds h = go (all_digits ds) refl (leb 1 (length ds)) refl (leb (length ds) 4) refl h
  where
    go : (a : Bool) → all_digits ds ≡ a → (b : Bool) → leb 1 (length ds) ≡ b → (c : Bool) → leb (length ds) 4 ≡ c → (a && b && c && not (leading_zero ds)) ≡ true → Natural ds
    go true p true q true r k = record { some = leb-true 1 (length ds) q; few = leb-true (length ds) 4 r; small = omega (arith, value_below ds 0 1 p (omega arith), scaled-four ds (leb-true (length ds) 4 r)) }
    go true p true q false r k = let z : ◌≡◌ {A = ℕ} 0 1 = cc in absurd (omega arith)
    go true p false q c r k = let z : ◌≡◌ {A = ℕ} 0 1 = cc in absurd (omega arith)
    go false p b q c r k = let z : ◌≡◌ {A = ℕ} 0 1 = cc in absurd (omega arith)

-- ---- what the code makes of the digits

pub record Fitting (r : NumberAt ℕ) : Type 0 where
  pub value_small : r.value < 10000
  pub size_small : r.size ≤ 4

-- The digits r, with a sign.
unfoldable pub with_sign : Bool → Option (NumberAt ℕ) → Option (NumberAt ℤ)
with_sign m None = None
with_sign m (Some r) = Some (record { value = cond m (neg_ℤ (pos r.value)) (pos r.value); size = bool_byte m + r.size })

module _ (m : Bool) (bs : List ℕ) where
  pub ds : List ℕ
  ds = leading_digits bs

  pub fits : (r : NumberAt ℕ) → Some r ≡ digits_at m bs → Fitting r
  unfolding digits_at ds
  fits r h = go (is_natural ds) refl (not (m && eqb (value_from 0 ds) 0)) h
    where
      go : (t : Bool) → is_natural ds ≡ t → (u : Bool) → Some r ≡ cond (t && u) (Some (record { value = value_from 0 ds; size = length ds })) None → Fitting r
      go true e true k =
          let n = natural_digits ds e in
          let is : r ≡ record { value = value_from 0 ds; size = length ds } = cc in
          rw is (record { value_small = n.small; size_small = n.few })
      go true e false k = absurd (cc)
      go false e u k = absurd (cc)

  pub with_sign_is : with_sign m (digits_at m bs) ≡ leading_number m bs
  unfolding with_sign digits_at leading_number sized negative_of natural_of ds
  with_sign_is = go m (is_natural ds) (eqb (value_from 0 ds) 0)
    where
      go : (m t u : Bool) → with_sign m (cond (t && not (m && u)) (Some (record { value = value_from 0 ds; size = length ds })) None) ≡ sized (cond m (cond (t && not u) (number (neg_ℤ (pos (value_from 0 ds)))) malformed) (cond t (number (pos (value_from 0 ds))) malformed)) (cond m 1 0 + length ds)
      go true true true = refl
      go true true false = refl
      go true false u = refl
      go false true u = refl
      go false false u = refl

  pub none : None ≡ digits_at m bs → None ≡ leading_number m bs
  unfolding with_sign
  none e = ap (with_sign m) e ∙ with_sign_is

  pub some : (r : NumberAt ℕ) → Some r ≡ digits_at m bs → ◌≡◌ {A = Option (NumberAt ℤ)} (Some (record { value = cond m (neg_ℤ (pos r.value)) (pos r.value); size = bool_byte m + r.size })) (leading_number m bs)
  unfolding with_sign
  some r e = ap (with_sign m) e ∙ with_sign_is
