-- The number's bytes at the front of a list, `number_token`: they are no tab and no newline, five at most, and with the byte that follows them they begin no number.
use Prim.Native.Nat.{ℕ, ◌≤◌}
use mathlib.Core.Path.{◌≡◌, refl, ap}
use mathlib.Core.Bool.{Bool, true, false, cond}
use mathlib.Core.List.{List, [], ◌∷◌, ◌++◌}
use native.Mathlib.Omega.{arith}
use lib.Dec.{eqb}
use lib.ListN.{length, take, drop}
use borrow.Author.Tests.{eqb-true}
use Rattle.text_numbers.specs.Numbers.{is_digit, is_natural, malformed, number_of}
use Rattle.text_numbers.specs.LeadingNumber.{leading_digits}
use Rattle.text_numbers.proofs.LeadingDigits.{digit_bounds, digits_stop, digits_split, digits-size, natural_over, no_negative, no_natural}
use Rattle.parsing.specs.private.Parts.{number_token}

-- ---- bytes that separate nothing

unfoldable pub Plain : List ℕ → Type 0
Plain [] = Unit {0}
Plain (b ∷ bs) = (b ≡ 9 → ⊥) × (b ≡ 10 → ⊥) × Plain bs

pub plain_digits : (bs : List ℕ) → Plain (leading_digits bs)
unfolding leading_digits Plain
plain_digits [] = tt
plain_digits (b ∷ bs) = go (plain_digits bs) (is_digit b) refl
  where
    go : Plain (leading_digits bs) → (t : Bool) → is_digit b ≡ t → Plain (cond t (b ∷ leading_digits bs) [])
    go p true e = let h = digit_bounds b e in (λ k. omega arith, λ k. omega arith, p)
    go p false e = tt

pub plain_token : (bs : List ℕ) → Plain (number_token bs)
unfolding number_token Plain
plain_token [] = tt
plain_token (b ∷ bs) = go (eqb b 45) refl
  where
    go : (t : Bool) → eqb b 45 ≡ t → Plain (cond t (b ∷ leading_digits (take 4 bs)) (leading_digits (take 4 (b ∷ bs))))
    go true e = let h = eqb-true b 45 e in (λ k. omega arith, λ k. omega arith, plain_digits (take 4 bs))
    go false e = plain_digits (take 4 (b ∷ bs))

-- ---- the token

pub token_split : (bs : List ℕ) → number_token bs ++ drop (length (number_token bs)) bs ≡ bs
unfolding number_token
token_split [] = refl
token_split (b ∷ bs) = go (eqb b 45)
  where
    go : (t : Bool) → cond t (b ∷ leading_digits (take 4 bs)) (leading_digits (take 4 (b ∷ bs))) ++ drop (length (cond t (b ∷ leading_digits (take 4 bs)) (leading_digits (take 4 (b ∷ bs))))) (b ∷ bs) ≡ b ∷ bs
    go true = ap (λ (l : List ℕ). b ∷ l) (digits_split 4 bs)
    go false = digits_split 4 (b ∷ bs)

pub token_size : (bs : List ℕ) → length (number_token bs) ≤ 5
unfolding number_token
token_size [] = omega arith
token_size (b ∷ bs) = go (eqb b 45)
  where
    go : (t : Bool) → length (cond t (b ∷ leading_digits (take 4 bs)) (leading_digits (take 4 (b ∷ bs)))) ≤ 5
    go true = omega (arith, digits-size 4 bs)
    go false = omega (arith, digits-size 4 (b ∷ bs))

-- What begins with no minus is a natural or malformed.
unsigned : (b : ℕ) (bs w : List ℕ) → eqb b 45 ≡ false → is_natural w ≡ false → w ≡ b ∷ bs → number_of w ≡ malformed
unfolding number_of
unsigned b bs w m h e = rw e (rw m (no_natural (b ∷ bs) (rw e at h)))

pub token_over : (bs : List ℕ) (e : ℕ) (r u : List ℕ) → drop (length (number_token bs)) bs ≡ e ∷ r → number_of (number_token bs ++ e ∷ u) ≡ malformed
unfolding number_token leading_digits number_of
token_over [] e r u h = let z : ◌≡◌ {A = ℕ} 0 1 = cc in absurd (omega arith)
token_over (b ∷ bs) e r u h = go (eqb b 45) refl h
  where
    tail : List ℕ → List ℕ
    tail [] = []
    tail (c ∷ cs) = cs

    first : (t : Bool) → is_digit b ≡ t → drop (length (leading_digits (take 4 (b ∷ bs)))) (b ∷ bs) ≡ e ∷ r → leading_digits (take 4 (b ∷ bs)) ++ e ∷ u ≡ b ∷ tail (leading_digits (take 4 (b ∷ bs)) ++ e ∷ u)
    first true q k = rw q
    first false q k = rw q (let w : e ≡ b = cc (rw q at k) in ap (λ (c : ℕ). c ∷ u) w)

    go : (t : Bool) → eqb b 45 ≡ t → drop (length (cond t (b ∷ leading_digits (take 4 bs)) (leading_digits (take 4 (b ∷ bs))))) (b ∷ bs) ≡ e ∷ r → number_of (cond t (b ∷ leading_digits (take 4 bs)) (leading_digits (take 4 (b ∷ bs))) ++ e ∷ u) ≡ malformed
    go true q k = rw q (no_negative (leading_digits (take 4 bs) ++ e ∷ u) (natural_over (leading_digits (take 4 bs)) e u (digits_stop 4 bs e r k)))
    go false q k = unsigned b (tail (leading_digits (take 4 (b ∷ bs)) ++ e ∷ u)) (leading_digits (take 4 (b ∷ bs)) ++ e ∷ u) q (natural_over (leading_digits (take 4 (b ∷ bs))) e u (digits_stop 4 (b ∷ bs) e r k)) (first (is_digit b) refl k)
