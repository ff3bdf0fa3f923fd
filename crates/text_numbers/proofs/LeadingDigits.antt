-- The digits at the front of bytes, `leading_digits`: where they stop, and that they are no number with the byte that follows them.
use Prim.Native.Nat.{ℕ, zero, suc, ◌<◌, ◌≤◌}
use mathlib.Core.Path.{◌≡◌, refl, sym, ap}
use mathlib.Core.Bool.{Bool, true, false, not, ◌&&◌, cond, and-false}
use mathlib.Core.List.{List, [], ◌∷◌, ◌++◌}
use mathlib.Core.Logic.{◌⊎◌, inl, inr, ⊎_elim}
use native.Mathlib.Omega.{arith}
use lib.Dec.{leb, eqb}
use lib.ListN.{length, take, drop, length-append}
use borrow.Author.Tests.{leb-true, lt-leb}
use Rattle.integers.proofs.Flags.{and_left, and_right}
use Rattle.text_numbers.specs.Numbers.{is_digit, all_digits, leading_zero, is_natural, malformed, negative_of, natural_of, number_of}
use Rattle.text_numbers.specs.LeadingNumber.{leading_digits}

-- A test that decides nothing.
pub cond_same : {A : Type 0} (t : Bool) (x : A) → cond t x x ≡ x
cond_same true x = refl
cond_same false x = refl

-- A digit's byte.
pub record Digit (b : ℕ) : Type 0 where
  pub least : 48 ≤ b
  pub most : b ≤ 57

pub digit_bounds : (b : ℕ) → is_digit b ≡ true → Digit b
digit_bounds b h = record { least = leb-true 48 b (and_left (leb 48 b) (leb b 57) h); most = leb-true b 57 (and_right (leb 48 b) (leb b 57) h) }

-- ---- where the digits stop

-- The byte behind the digits is none, or the digits are as many as may be.
pub digits_stop : (m : ℕ) (bs : List ℕ) (e : ℕ) (r : List ℕ) → drop (length (leading_digits (take m bs))) bs ≡ e ∷ r → (is_digit e ≡ false) ⊎ (length (leading_digits (take m bs)) ≡ m)
unfolding leading_digits
digits_stop zero bs e r h = inr refl
digits_stop (suc m) [] e r h = let z : ◌≡◌ {A = ℕ} 0 1 = cc in absurd (omega arith)
digits_stop (suc m) (b ∷ bs) e r h = go (digits_stop m bs e r) (is_digit b) refl h
  where
    go : (drop (length (leading_digits (take m bs))) bs ≡ e ∷ r → (is_digit e ≡ false) ⊎ (length (leading_digits (take m bs)) ≡ m)) → (t : Bool) → is_digit b ≡ t → drop (length (cond t (b ∷ leading_digits (take m bs)) [])) (b ∷ bs) ≡ e ∷ r → (is_digit e ≡ false) ⊎ (length (cond t (b ∷ leading_digits (take m bs)) []) ≡ suc m)
    go i true q k = ⊎_elim (λ x. inl x) (λ y. inr (ap suc y)) (i k)
    go i false q k = let w : b ≡ e = cc in inl (rw (sym w) q)

pub digits_split : (m : ℕ) (bs : List ℕ) → leading_digits (take m bs) ++ drop (length (leading_digits (take m bs))) bs ≡ bs
unfolding leading_digits
digits_split zero bs = refl
digits_split (suc m) [] = refl
digits_split (suc m) (b ∷ bs) = go (digits_split m bs) (is_digit b)
  where
    go : leading_digits (take m bs) ++ drop (length (leading_digits (take m bs))) bs ≡ bs → (t : Bool) → cond t (b ∷ leading_digits (take m bs)) [] ++ drop (length (cond t (b ∷ leading_digits (take m bs)) [])) (b ∷ bs) ≡ b ∷ bs
    go i true = ap (λ (l : List ℕ). b ∷ l) i
    go i false = refl

pub digits-size : (m : ℕ) (bs : List ℕ) → length (leading_digits (take m bs)) ≤ m
unfolding leading_digits
digits-size zero bs = omega arith
digits-size (suc m) [] = omega arith
digits-size (suc m) (b ∷ bs) = go (digits-size m bs) (is_digit b)
  where
    go : length (leading_digits (take m bs)) ≤ m → (t : Bool) → length (cond t (b ∷ leading_digits (take m bs)) []) ≤ suc m
    go i true = omega arith
    go i false = omega arith

-- ---- naturals

unless : (a b d : Bool) → (a && b && false && d) ≡ false
unless true true d = refl
unless true false d = refl
unless false b d = refl

pub natural_long : (bs : List ℕ) → 4 < length bs → is_natural bs ≡ false
unfolding is_natural
natural_long bs h = rw (lt-leb (length bs) 4 h) (unless (all_digits bs) (leb 1 (length bs)) (not (leading_zero bs)))

not_digits : (ds : List ℕ) (e : ℕ) (u : List ℕ) → is_digit e ≡ false → all_digits (ds ++ e ∷ u) ≡ false
unfolding all_digits
not_digits [] e u h = rw h
not_digits (d ∷ ds) e u h = rw (not_digits ds e u h) (and-false (is_digit d))

pub natural_over : (ds : List ℕ) (e : ℕ) (u : List ℕ) → (is_digit e ≡ false) ⊎ (length ds ≡ 4) → is_natural (ds ++ e ∷ u) ≡ false
unfolding is_natural
natural_over ds e u (inl h) = rw (not_digits ds e u h)
natural_over ds e u (inr h) = natural_long (ds ++ e ∷ u) (simp length-append (omega arith))

-- ---- numbers

module _ (bs : List ℕ) (h : is_natural bs ≡ false) where
  pub no_negative : negative_of bs ≡ malformed
  unfolding negative_of
  no_negative = rw h

  pub no_natural : natural_of bs ≡ malformed
  unfolding natural_of
  no_natural = rw h

pub number_long : (bs : List ℕ) → 5 < length bs → number_of bs ≡ malformed
unfolding number_of
number_long [] h = refl
number_long (b ∷ bs) h = rw (no_negative bs (natural_long bs (omega arith)), no_natural (b ∷ bs) (natural_long (b ∷ bs) (omega arith))) (cond_same (eqb b 45) malformed)
