-- The first line from a place on, as the code reads it: by its first bytes, and by the numbers that stand at the places after them.
use Prim.Native.Nat.{ℕ, ◌+◌}
use mathlib.Core.Path.{◌≡◌, refl, sym, ap, ◌∙◌}
use mathlib.Core.Bool.{Bool, true, false}
use mathlib.Core.List.{List, [], ◌∷◌, ◌++◌}
use native.Mathlib.Omega.{arith}
use lib.Dec.{eqb}
use lib.ListN.{length, drop}
use borrow.Author.Tests.{eqb-true, eqb-false, ne_eqb}
use Rattle.text_numbers.specs.Numbers.{Number, number, malformed, number_of}
use Rattle.parsing.specs.Grammar.{fields, with_first, Form, other, is_byte, letter_of, point_of, form_of_fields, form_of}
use Rattle.parsing.specs.ReadForm.{no_form, formed}
use Rattle.text_numbers.specs.LeadingNumber.{sized}
use Rattle.text_numbers.specs.declared.NumberAt.{NumberAt}
use Rattle.std.specs.Prelude.{None, Some, ℤ}
use Rattle.parsing.specs.private.Parts.{number_token, number_at, after_x, second_form, line_front}
use Rattle.parsing.proofs.Tokens.{plain_token, token_split, token_size, token_over}
use Rattle.parsing.proofs.PointLines.{second_byte, x_alone, x-over, x_tab, rest_no_tab, rest_none, y_alone, y-over, malformed-point, point-malformed}
use Rattle.parsing.proofs.FrontLaws.{formed-other, front_end, front_step, front_same, front_none, front_refused, front_skip}

-- ---- the number at a place

pub number-none : (bs : List ℕ) → None ≡ number_at bs → number_of (number_token bs) ≡ malformed
unfolding number_at sized
number-none bs h = go (number_of (number_token bs)) h
  where
    go : (n : Number) → None ≡ sized n (length (number_token bs)) → n ≡ malformed
    go (number z) k = absurd (cc)
    go malformed k = refl

pub record Found (bs : List ℕ) (r : NumberAt ℤ) : Type 0 where
  pub value : number_of (number_token bs) ≡ number r.value
  pub size : length (number_token bs) ≡ r.size

pub number_some : (bs : List ℕ) (r : NumberAt ℤ) → Some r ≡ number_at bs → Found bs r
unfolding number_at sized
number_some bs r h = go (number_of (number_token bs)) refl h
  where
    go : (n : Number) → number_of (number_token bs) ≡ n → Some r ≡ sized n (length (number_token bs)) → Found bs r
    go (number z) e k =
        let is : r ≡ record { value = z; size = length (number_token bs) } = cc in
        rw is (record { value = e; size = refl })
    go malformed e k = absurd (cc)

-- ---- a tab and a number

-- After a malformed x nothing has a form.
malformed_rest : (bs : List ℕ) → second_form malformed bs ≡ other
unfolding second_form after_x
malformed_rest bs = go (fields bs)
  where
    go : (fs : List (List ℕ)) → after_x malformed fs ≡ other
    go [] = refl
    go (f ∷ []) = refl
    go ([] ∷ y ∷ []) = malformed-point (number_of y)
    go ((b ∷ bs) ∷ y ∷ []) = refl
    go ([] ∷ y ∷ z ∷ fs) = refl
    go ((b ∷ bs) ∷ y ∷ z ∷ fs) = refl

-- What the rule is after y's bytes.
last : Form → List ℕ → Form
last f [] = f
last f (b ∷ bs) = other

-- A tab and a number's bytes, with the byte e behind them.
module _ (bs : List ℕ) (at : ℕ) {e : ℕ} {r : List ℕ} (h : drop (length (number_token bs)) bs ≡ e ∷ r) where
  past_number : (f : List ℕ → Form) → line_front f (9 ∷ bs) at ≡ line_front (λ t. f (9 ∷ number_token bs ++ t)) (e ∷ r) (at + 1 + length (number_token bs))
  past_number f =
      front_step f 9 bs at (λ k. omega arith)
      ∙ (ap (λ (l : List ℕ). line_front (λ t. f (9 ∷ t)) l (at + 1)) (sym (token_split bs) ∙ ap (λ (l : List ℕ). number_token bs ++ l) h)
      ∙ front_skip (λ t. f (9 ∷ t)) (number_token bs) (e ∷ r) (at + 1) (plain_token bs))

  -- ---- y

  module _ (n : Number) where
    past_y : line_front (second_form n) (9 ∷ bs) at ≡ line_front (last (point_of n (number_of (number_token bs)))) (e ∷ r) (at + 1 + length (number_token bs))
    unfolding last
    past_y =
        past_number (second_form n)
        ∙ front_same (λ t. second_form n (9 ∷ number_token bs ++ t)) (last (point_of n (number_of (number_token bs)))) e r (at + 1 + length (number_token bs)) (y_alone n (number_token bs) (plain_token bs)) (λ t. y-over n (number_token bs) (plain_token bs) e t (λ u. token_over bs e r u h))

    pub y-ends : e ≡ 10 → line_front (second_form n) (9 ∷ bs) at ≡ formed (point_of n (number_of (number_token bs))) (at + 1 + length (number_token bs) + 1)
    unfolding last
    y-ends k = past_y ∙ rw k (front_end (last (point_of n (number_of (number_token bs)))) r (at + 1 + length (number_token bs)))

    pub y_goes_on : (e ≡ 10 → ⊥) → line_front (second_form n) (9 ∷ bs) at ≡ no_form
    unfolding last
    y_goes_on k = past_y ∙ (front_step (last (point_of n (number_of (number_token bs)))) e r (at + 1 + length (number_token bs)) k ∙ front_none (λ t. last (point_of n (number_of (number_token bs))) (e ∷ t)) r (at + 1 + length (number_token bs) + 1) (λ t. refl))

    pub y-malformed : number_of (number_token bs) ≡ malformed → line_front (second_form n) (9 ∷ bs) at ≡ no_form
    unfolding last
    y-malformed k = past_y ∙ front_none (last (point_of n (number_of (number_token bs)))) (e ∷ r) (at + 1 + length (number_token bs)) go
      where
        go : (t : List ℕ) → last (point_of n (number_of (number_token bs))) t ≡ other
        go [] = rw k (point-malformed n)
        go (b ∷ t) = refl

  -- ---- x

  pub past_x : line_front (λ t. form_of (80 ∷ t)) (9 ∷ bs) at ≡ line_front (second_form (number_of (number_token bs))) (e ∷ r) (at + 1 + length (number_token bs))
  past_x =
      past_number (λ t. form_of (80 ∷ t))
      ∙ front_same (λ t. form_of (80 ∷ 9 ∷ number_token bs ++ t)) (second_form (number_of (number_token bs))) e r (at + 1 + length (number_token bs)) (x_alone (number_token bs) (plain_token bs) ∙ sym (rest_none (number_of (number_token bs)))) (λ t. go t (eqb e 9) refl)
    where
      go : (t : List ℕ) (u : Bool) → eqb e 9 ≡ u → form_of (80 ∷ 9 ∷ number_token bs ++ e ∷ t) ≡ second_form (number_of (number_token bs)) (e ∷ t)
      go t true q = rw (eqb-true e 9 q) (x_tab (number_token bs) (plain_token bs) t (token_size bs))
      go t false q = x-over (number_token bs) (plain_token bs) e t (eqb-false e 9 q) (λ u. token_over bs e r u h) ∙ sym (rest_no_tab (number_of (number_token bs)) e t (eqb-false e 9 q))

  pub x-malformed : number_of (number_token bs) ≡ malformed → line_front (λ t. form_of (80 ∷ t)) (9 ∷ bs) at ≡ no_form
  x-malformed k = past_x ∙ front_none (second_form (number_of (number_token bs))) (e ∷ r) (at + 1 + length (number_token bs)) (λ t. rw k (malformed_rest t))

-- ---- the first bytes of a line

-- What follows x is no tab; what follows P is no tab.
pub x_no_tab : (n : Number) (e : ℕ) (bs : List ℕ) (at : ℕ) → (e ≡ 9 → ⊥) → line_front (second_form n) (e ∷ bs) at ≡ no_form
x_no_tab n e bs at h = front_refused (second_form n) e bs at (rest_none n) (λ t. rest_no_tab n e t h)

pub p_no_tab : (e : ℕ) (bs : List ℕ) (at : ℕ) → (e ≡ 9 → ⊥) → line_front (λ t. form_of (80 ∷ t)) (e ∷ bs) at ≡ no_form
unfolding form_of form_of_fields fields with_first letter_of is_byte
p_no_tab e bs at h = front_refused (λ t. form_of (80 ∷ t)) e bs at refl (λ t. second_byte 80 e t (λ k. absurd (h k)))

pub p_line : (bs : List ℕ) (at : ℕ) → line_front form_of (80 ∷ bs) at ≡ line_front (λ t. form_of (80 ∷ t)) bs (at + 1)
p_line bs at = front_step form_of 80 bs at (λ k. omega arith)

-- An empty line.
empty_line : (bs : List ℕ) (at : ℕ) → line_front form_of (10 ∷ bs) at ≡ no_form
unfolding form_of form_of_fields fields letter_of is_byte
empty_line bs at = front_end form_of bs at ∙ formed-other (at + 1)

-- A line of two bytes or more, and not P or B with a tab behind it.
pub long_line : (b c : ℕ) (bs : List ℕ) (at : ℕ) → (c ≡ 9 → (b ≡ 80 → ⊥) × (b ≡ 66 → ⊥)) → (c ≡ 10 → ⊥) → line_front form_of (b ∷ c ∷ bs) at ≡ no_form
long_line b c bs at h k = go (eqb b 10) refl
  where
    go : (t : Bool) → eqb b 10 ≡ t → line_front form_of (b ∷ c ∷ bs) at ≡ no_form
    go true e = rw (eqb-true b 10 e) (empty_line (c ∷ bs) at)
    go false e =
        front_step form_of b (c ∷ bs) at (eqb-false b 10 e)
        ∙ (front_step (λ t. form_of (b ∷ t)) c bs (at + 1) k ∙ front_none (λ t. form_of (b ∷ c ∷ t)) bs (at + 1 + 1) (λ t. second_byte b c t h))

-- A line of one byte.
pub one_byte_line : (b : ℕ) (bs : List ℕ) (at : ℕ) → line_front form_of (b ∷ 10 ∷ bs) at ≡ formed (form_of (b ∷ [])) (at + 2)
unfolding form_of form_of_fields fields with_first letter_of is_byte
one_byte_line b bs at = go (eqb b 10) refl
  where
    go : (t : Bool) → eqb b 10 ≡ t → line_front form_of (b ∷ 10 ∷ bs) at ≡ formed (form_of (b ∷ [])) (at + 2)
    go true e = rw (eqb-true b 10 e) (empty_line (10 ∷ bs) at ∙ sym (formed-other (at + 2)))
    go false e =
        let two : at + 1 + 1 ≡ at + 2 = omega arith in
        front_step form_of b (10 ∷ bs) at (eqb-false b 10 e) ∙ (front_end (λ t. form_of (b ∷ t)) bs (at + 1) ∙ ap (formed (form_of (b ∷ []))) two)

pub no_letter : (b : ℕ) → (b ≡ 66 → ⊥) → (b ≡ 69 → ⊥) → (b ≡ 65 → ⊥) → form_of (b ∷ []) ≡ other
unfolding form_of form_of_fields fields with_first letter_of is_byte
no_letter b h k m = go (eqb b 9) refl
  where
    go : (t : Bool) → eqb b 9 ≡ t → form_of_fields (fields (b ∷ [])) ≡ other
    go true e = rw e
    go false e = rw (e, ne_eqb b 66 h, ne_eqb b 69 k, ne_eqb b 65 m)
