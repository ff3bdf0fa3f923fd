-- A line of over 13 bytes has none of the forms: the lengths of its fields add up, and a number has five bytes at most.
use Prim.Native.Nat.{ℕ, suc, ◌+◌, ◌<◌, ◌≤◌}
use mathlib.Core.Path.{◌≡◌, refl, ap, ◌∙◌}
use mathlib.Core.Bool.{Bool, true, false, ◌&&◌, cond}
use mathlib.Core.List.{List, [], ◌∷◌}
use native.Mathlib.Omega.{arith}
use lib.Dec.{leb, eqb}
use lib.ListN.{length}
use borrow.Author.Tests.{leb-true, leb-false}
use Rattle.outline.specs.declared.Kind.TheVariants.{Hole}
use Rattle.text_numbers.specs.Numbers.{number_of}
use Rattle.parsing.specs.Grammar.{fields, with_first, begin, other, is_byte, letter_of, point_of, form_of_fields, form_of}
use Rattle.text_numbers.proofs.LeadingDigits.{number_long}
use Rattle.parsing.proofs.PointLines.{no_form_lem, malformed-point, point-malformed}

-- The bytes of fields, each with the byte that ends it.
total : List (List ℕ) → ℕ
total [] = 0
total (f ∷ fs) = suc (length f + total fs)

total_first : (b : ℕ) (fs : List (List ℕ)) → 1 ≤ total fs → total (with_first b fs) ≡ suc (total fs)
unfolding total with_first
total_first b [] h = absurd (omega arith)
total_first b (f ∷ fs) h = omega arith

total_fields : (bs : List ℕ) → total (fields bs) ≡ suc (length bs)
unfolding total fields
total_fields [] = omega arith
total_fields (b ∷ bs) = go (total_fields bs) (eqb b 9)
  where
    go : total (fields bs) ≡ suc (length bs) → (t : Bool) → total (cond t ([] ∷ fields bs) (with_first b (fields bs))) ≡ suc (suc (length bs))
    go e true = omega arith
    go e false = total_first b (fields bs) (omega arith) ∙ ap suc e

byte_length : (b : ℕ) (f : List ℕ) → is_byte b f ≡ true → length f ≡ 1
unfolding is_byte
byte_length b [] h = let z : ◌≡◌ {A = ℕ} 0 1 = cc in absurd (omega arith)
byte_length b (c ∷ []) h = refl
byte_length b (c ∷ d ∷ f) h = let z : ◌≡◌ {A = ℕ} 0 1 = cc in absurd (omega arith)

long_fields : (fs : List (List ℕ)) → 14 < total fs → form_of_fields fs ≡ other
unfolding form_of_fields total letter_of is_byte
long_fields [] h = refl
long_fields ([] ∷ []) h = refl
long_fields ((b ∷ []) ∷ []) h = absurd (omega arith)
long_fields ((b ∷ c ∷ f) ∷ []) h = refl
long_fields (f ∷ g ∷ []) h = go (is_byte 66 f) refl (is_byte 72 g) refl
  where
    go : (t : Bool) → is_byte 66 f ≡ t → (u : Bool) → is_byte 72 g ≡ u → cond (t && u) (begin Hole) other ≡ other
    go true e true d = absurd (omega (arith, byte_length 66 f e, byte_length 72 g d))
    go true e false d = refl
    go false e u d = refl
long_fields (f ∷ x ∷ y ∷ []) h = go (is_byte 80 f) refl (leb (length x) 5) refl
  where
    go : (t : Bool) → is_byte 80 f ≡ t → (u : Bool) → leb (length x) 5 ≡ u → cond t (point_of (number_of x) (number_of y)) other ≡ other
    go true e true d = rw (number_long y (omega (arith, byte_length 80 f e, leb-true (length x) 5 d))) (point-malformed (number_of x))
    go true e false d = rw (number_long x (leb-false (length x) 5 d)) (malformed-point (number_of y))
    go false e u d = refl
long_fields (f ∷ x ∷ y ∷ z ∷ fs) h = refl

pub form_long : (bs : List ℕ) → 13 < length bs → form_of bs ≡ other
form_long bs h = no_form_lem bs (long_fields (fields bs) (rw (total_fields bs) (omega arith)))
