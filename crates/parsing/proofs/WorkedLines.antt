-- Lines worked by computation: points and a hole, lines of none of the forms, lines with every byte at one place, then lines by their places in a chunk. A tab is 9, a minus 45,
-- a digit d 48 + d.
use mathlib.Core.Path.{◌≡◌, refl}
use mathlib.Core.List.{List, [], ◌∷◌, ◌++◌, map}
use Prim.Native.Nat.{ℕ, zero, suc, ◌+◌}
use lib.IntN.{pos, negsuc}
use lib.ListN.{replicate}
use Rattle.outline.specs.declared.Kind.TheVariants.{Island, Hole}
use Rattle.text_numbers.specs.Numbers.{all_digits, value_from, leading_zero, is_natural, number_of, negative_of, natural_of}
use Rattle.parsing.specs.Grammar.{fields, with_first, is_byte, letter_of, point_of, form_of_fields, form_of, Form, begin, end, abandon, point, other}
use Rattle.newlines.specs.LineLength.{line_length}
use Rattle.parsing.specs.ReadForm.{no_form, formed, form_at}

record Worked : Type 0 where
  line : List ℕ
  form : Form

-- P -12 7; P 9999 -9999; P 0 10; P -1 7; P -1234 -9999, the longest; B H, a hole.
lines : List Worked
lines =
    record { line = 80 ∷ 9 ∷ 45 ∷ 49 ∷ 50 ∷ 9 ∷ 55 ∷ []; form = point (negsuc 11) (pos 7) }
    ∷ record { line = 80 ∷ 9 ∷ 57 ∷ 57 ∷ 57 ∷ 57 ∷ 9 ∷ 45 ∷ 57 ∷ 57 ∷ 57 ∷ 57 ∷ []; form = point (pos 9999) (negsuc 9998) }
    ∷ record { line = 80 ∷ 9 ∷ 48 ∷ 9 ∷ 49 ∷ 48 ∷ []; form = point (pos 0) (pos 10) }
    ∷ record { line = 80 ∷ 9 ∷ 45 ∷ 49 ∷ 9 ∷ 55 ∷ []; form = point (negsuc 0) (pos 7) }
    ∷ record { line = 80 ∷ 9 ∷ 45 ∷ 49 ∷ 50 ∷ 51 ∷ 52 ∷ 9 ∷ 45 ∷ 57 ∷ 57 ∷ 57 ∷ 57 ∷ []; form = point (negsuc 1233) (negsuc 9998) }
    ∷ record { line = 66 ∷ 9 ∷ 72 ∷ []; form = begin Hole }
    ∷ []

worked : map (λ (w : Worked). form_of w.line) lines ≡ map (λ (w : Worked). w.form) lines
unfolding lines form_of form_of_fields fields with_first letter_of is_byte number_of negative_of natural_of is_natural all_digits leading_zero value_from point_of
worked = refl

-- P -0 7; P 00 7; P 10000 7; P 7 01; P +1 7; P - 7; no x; no y; a tab at the end; three numbers; PP 7 7; a point without P; BB; B and a tab; B and a carriage return;
-- B and a zero byte; the empty line; B I; B h; BH; B H and a tab; E H; H alone; B HH; B and H with a space between them.
formless : List (List ℕ)
formless =
    (80 ∷ 9 ∷ 45 ∷ 48 ∷ 9 ∷ 55 ∷ [])
    ∷ (80 ∷ 9 ∷ 48 ∷ 48 ∷ 9 ∷ 55 ∷ [])
    ∷ (80 ∷ 9 ∷ 49 ∷ 48 ∷ 48 ∷ 48 ∷ 48 ∷ 9 ∷ 55 ∷ [])
    ∷ (80 ∷ 9 ∷ 55 ∷ 9 ∷ 48 ∷ 49 ∷ [])
    ∷ (80 ∷ 9 ∷ 43 ∷ 49 ∷ 9 ∷ 55 ∷ [])
    ∷ (80 ∷ 9 ∷ 45 ∷ 9 ∷ 55 ∷ [])
    ∷ (80 ∷ 9 ∷ 9 ∷ 55 ∷ [])
    ∷ (80 ∷ 9 ∷ 55 ∷ [])
    ∷ (80 ∷ 9 ∷ 55 ∷ 9 ∷ 55 ∷ 9 ∷ [])
    ∷ (80 ∷ 9 ∷ 55 ∷ 9 ∷ 55 ∷ 9 ∷ 55 ∷ [])
    ∷ (80 ∷ 80 ∷ 9 ∷ 55 ∷ 9 ∷ 55 ∷ [])
    ∷ (9 ∷ 55 ∷ 9 ∷ 55 ∷ [])
    ∷ (66 ∷ 66 ∷ [])
    ∷ (66 ∷ 9 ∷ [])
    ∷ (66 ∷ 13 ∷ [])
    ∷ (66 ∷ 0 ∷ [])
    ∷ []
    ∷ (66 ∷ 9 ∷ 73 ∷ [])
    ∷ (66 ∷ 9 ∷ 104 ∷ [])
    ∷ (66 ∷ 72 ∷ [])
    ∷ (66 ∷ 9 ∷ 72 ∷ 9 ∷ [])
    ∷ (69 ∷ 9 ∷ 72 ∷ [])
    ∷ (72 ∷ [])
    ∷ (66 ∷ 9 ∷ 72 ∷ 72 ∷ [])
    ∷ (66 ∷ 32 ∷ 72 ∷ [])
    ∷ []

none : map form_of formless ≡ replicate 25 other
unfolding formless form_of form_of_fields fields with_first letter_of is_byte number_of negative_of natural_of is_natural all_digits leading_zero value_from point_of
none = refl

-- Every byte at one place of a line: alone; for P; for the first tab; for a digit; for the B, the tab and the H of a hole.
bytes_from : ℕ → ℕ → List ℕ
bytes_from b zero = []
bytes_from b (suc more) = b ∷ bytes_from (b + 1) more

letters : map (λ b. form_of (b ∷ [])) (bytes_from 0 256) ≡ replicate 65 other ++ abandon ∷ begin Island ∷ other ∷ other ∷ end ∷ replicate 186 other
unfolding bytes_from form_of form_of_fields fields with_first letter_of is_byte
letters = refl

letter_p : map (λ b. form_of (b ∷ 9 ∷ 55 ∷ 9 ∷ 55 ∷ [])) (bytes_from 0 256) ≡ replicate 80 other ++ point (pos 7) (pos 7) ∷ replicate 175 other
unfolding bytes_from form_of form_of_fields fields with_first is_byte number_of natural_of is_natural all_digits leading_zero value_from point_of
letter_p = refl

tab : map (λ b. form_of (80 ∷ b ∷ 55 ∷ 9 ∷ 55 ∷ [])) (bytes_from 0 256) ≡ replicate 9 other ++ point (pos 7) (pos 7) ∷ replicate 246 other
unfolding bytes_from form_of form_of_fields fields with_first is_byte number_of natural_of is_natural all_digits leading_zero value_from point_of
tab = refl

digit : map (λ b. form_of (80 ∷ 9 ∷ b ∷ 9 ∷ 55 ∷ [])) (bytes_from 0 256) ≡ replicate 48 other ++ map (λ d. point (pos d) (pos 7)) (bytes_from 0 10) ++ replicate 198 other
unfolding bytes_from form_of form_of_fields fields with_first is_byte number_of negative_of natural_of is_natural all_digits leading_zero value_from point_of
digit = refl

hole_b : map (λ b. form_of (b ∷ 9 ∷ 72 ∷ [])) (bytes_from 0 256) ≡ replicate 66 other ++ begin Hole ∷ replicate 189 other
unfolding bytes_from form_of form_of_fields fields with_first is_byte
hole_b = refl

hole_tab : map (λ b. form_of (66 ∷ b ∷ 72 ∷ [])) (bytes_from 0 256) ≡ replicate 9 other ++ begin Hole ∷ replicate 246 other
unfolding bytes_from form_of form_of_fields fields with_first letter_of is_byte
hole_tab = refl

hole_h : map (λ b. form_of (66 ∷ 9 ∷ b ∷ [])) (bytes_from 0 256) ≡ replicate 72 other ++ begin Hole ∷ replicate 183 other
unfolding bytes_from form_of form_of_fields fields with_first is_byte
hole_h = refl

-- The chunk of B, of B H and of E, which nothing ends, by the places of the three lines and of the end.
ends : map (form_at (66 ∷ 10 ∷ 66 ∷ 9 ∷ 72 ∷ 10 ∷ 69 ∷ [])) (0 ∷ 2 ∷ 6 ∷ 7 ∷ []) ≡ record { form = begin Island; next = 2 } ∷ record { form = begin Hole; next = 6 } ∷ record { form = end; next = 8 } ∷ no_form ∷ []
unfolding form_at formed line_length form_of form_of_fields fields with_first letter_of is_byte
ends = refl
