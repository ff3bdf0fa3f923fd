-- The line of a hole: B, a tab, H and the end. With another byte in place of H, or one behind it, there is no form.
use Prim.Native.Nat.{ℕ, ◌+◌}
use mathlib.Core.Path.{◌≡◌, refl, ap, ◌∙◌}
use mathlib.Core.Bool.{Bool, true, false, cond}
use mathlib.Core.List.{List, [], ◌∷◌}
use native.Mathlib.Omega.{arith}
use lib.Dec.{eqb}
use borrow.Author.Tests.{eqb-true, eqb-false, ne_eqb}
use Rattle.outline.specs.declared.Kind.TheVariants.{Hole}
use Rattle.newlines.specs.LineLength.{line_length}
use Rattle.parsing.specs.Grammar.{fields, with_first, begin, other, is_byte, form_of_fields, form_of}
use Rattle.parsing.specs.ReadForm.{no_form, formed}
use Rattle.parsing.specs.private.Parts.{line_front}
use Rattle.parsing.proofs.PointLines.{Separated, separated, fields_tab, fields_byte, no_form_lem}
use Rattle.parsing.proofs.FrontLaws.{front_step, front_none, front_refused}

-- ---- the field behind B

behind_b : (bs g : List ℕ) (gs : List (List ℕ)) → fields bs ≡ g ∷ gs → fields (66 ∷ 9 ∷ bs) ≡ (66 ∷ []) ∷ g ∷ gs
behind_b bs g gs e = rw (fields_byte 66 (9 ∷ bs) [] (fields bs) (λ k. omega arith) (fields_tab bs), e)

-- It is not H, or not the last.
not_h : (bs g : List ℕ) (gs : List (List ℕ)) → fields bs ≡ g ∷ gs → is_byte 72 g ≡ false → form_of (66 ∷ 9 ∷ bs) ≡ other
unfolding form_of_fields is_byte
not_h bs g gs e h = no_form_lem (66 ∷ 9 ∷ bs) (rw (behind_b bs g gs e) (go gs))
  where
    go : (hs : List (List ℕ)) → form_of_fields ((66 ∷ []) ∷ g ∷ hs) ≡ other
    go [] = ap (λ (t : Bool). cond t (begin Hole) other) h
    go (y ∷ []) = refl
    go (y ∷ z ∷ hs) = refl

not_last : (bs g y : List ℕ) (gs : List (List ℕ)) → fields bs ≡ g ∷ y ∷ gs → form_of (66 ∷ 9 ∷ bs) ≡ other
unfolding form_of_fields is_byte
not_last bs g y gs e = no_form_lem (66 ∷ 9 ∷ bs) (rw (behind_b bs g (y ∷ gs) e) (go gs))
  where
    go : (hs : List (List ℕ)) → form_of_fields ((66 ∷ []) ∷ g ∷ y ∷ hs) ≡ other
    go [] = refl
    go (z ∷ hs) = refl

-- ---- the byte behind the tab, and the one behind H

other_byte : (d : ℕ) (bs : List ℕ) → (d ≡ 72 → ⊥) → form_of (66 ∷ 9 ∷ d ∷ bs) ≡ other
unfolding is_byte
other_byte d bs h = go (eqb d 9) refl
  where
    first : (f : List ℕ) → is_byte 72 (d ∷ f) ≡ false
    first [] = ne_eqb d 72 h
    first (c ∷ f) = refl

    go : (t : Bool) → eqb d 9 ≡ t → form_of (66 ∷ 9 ∷ d ∷ bs) ≡ other
    go true e = rw (eqb-true d 9 e) (not_h (9 ∷ bs) [] (fields bs) (fields_tab bs) refl)
    go false e =
        let s = separated bs in
        not_h (d ∷ bs) (d ∷ s.first) s.more (fields_byte d bs s.first s.more (eqb-false d 9 e) s.fields_are) (first s.first)

byte_more : (e : ℕ) (bs : List ℕ) → form_of (66 ∷ 9 ∷ 72 ∷ e ∷ bs) ≡ other
unfolding is_byte
byte_more e bs = go (separated bs) (eqb e 9) refl
  where
    go : (s : Separated bs) (t : Bool) → eqb e 9 ≡ t → form_of (66 ∷ 9 ∷ 72 ∷ e ∷ bs) ≡ other
    go s true q = rw (eqb-true e 9 q) (not_last (72 ∷ 9 ∷ bs) (72 ∷ []) s.first s.more (fields_byte 72 (9 ∷ bs) [] (s.first ∷ s.more) (λ k. omega arith) (rw (fields_tab bs, s.fields_are))))
    go s false q =
        not_h (72 ∷ e ∷ bs) (72 ∷ e ∷ s.first) s.more (fields_byte 72 (e ∷ bs) (e ∷ s.first) s.more (λ k. omega arith) (fields_byte e bs s.first s.more (eqb-false e 9 q) s.fields_are)) refl

-- ---- the first line of bytes

b_line : (bs : List ℕ) (at : ℕ) → line_front form_of (66 ∷ 9 ∷ bs) at ≡ line_front (λ t. form_of (66 ∷ 9 ∷ t)) bs (at + 1 + 1)
b_line bs at = front_step form_of 66 (9 ∷ bs) at (λ k. omega arith) ∙ front_step (λ t. form_of (66 ∷ t)) 9 bs (at + 1) (λ k. omega arith)

-- Another byte in place of H; a byte behind H; the line of a hole.
pub no_h_line : (d : ℕ) (bs : List ℕ) (at : ℕ) → (d ≡ 72 → ⊥) → line_front form_of (66 ∷ 9 ∷ d ∷ bs) at ≡ no_form
unfolding form_of form_of_fields fields with_first is_byte
no_h_line d bs at h = b_line (d ∷ bs) at ∙ front_refused (λ t. form_of (66 ∷ 9 ∷ t)) d bs (at + 1 + 1) refl (λ t. other_byte d t h)

pub long_hole_line : (e : ℕ) (bs : List ℕ) (at : ℕ) → (e ≡ 10 → ⊥) → line_front form_of (66 ∷ 9 ∷ 72 ∷ e ∷ bs) at ≡ no_form
long_hole_line e bs at h =
    b_line (72 ∷ e ∷ bs) at
    ∙ (front_step (λ t. form_of (66 ∷ 9 ∷ t)) 72 (e ∷ bs) (at + 1 + 1) (λ k. omega arith)
    ∙ (front_step (λ t. form_of (66 ∷ 9 ∷ 72 ∷ t)) e bs (at + 1 + 1 + 1) h
    ∙ front_none (λ t. form_of (66 ∷ 9 ∷ 72 ∷ e ∷ t)) bs (at + 1 + 1 + 1 + 1) (byte_more e)))

pub hole_line : (bs : List ℕ) (at : ℕ) → line_front form_of (66 ∷ 9 ∷ 72 ∷ 10 ∷ bs) at ≡ formed (begin Hole) (at + 4)
unfolding line_front line_length form_of form_of_fields fields with_first is_byte
hole_line bs at = let e : at + 3 + 1 ≡ at + 4 = omega arith in rw e
