-- Document 01, "The text program", and document 02, CR 3: the forms of a line. A line is a list of bytes, its newline left off.
use Rattle.std.specs.Prelude.{ℕ, Bool, false, ◌&&◌, cond, List, [], ◌∷◌, ltb, eqb, length, ℤ}
use Rattle.outline.specs.declared.Kind.{Kind}
use Rattle.outline.specs.declared.Kind.TheVariants.{Island, Hole}
use Rattle.text_numbers.specs.Numbers.{Number, number, malformed, number_of}

-- The fields of a line, separated by tabs.
unfoldable pub with_first : ℕ → List (List ℕ) → List (List ℕ)
with_first b [] = (b ∷ []) ∷ []
with_first b (f ∷ fs) = (b ∷ f) ∷ fs

unfoldable pub fields : List ℕ → List (List ℕ)
fields [] = [] ∷ []
fields (b ∷ bs) = cond (eqb b 9) ([] ∷ fields bs) (with_first b (fields bs))

-- What a line asks for.
pub data Form : Type 0 where
  begin : Kind → Form
  end abandon : Form
  point : ℤ → ℤ → Form
  other : Form

-- The byte b and nothing else.
unfoldable pub is_byte : ℕ → List ℕ → Bool
is_byte b [] = false
is_byte b (c ∷ []) = eqb c b
is_byte b (c ∷ d ∷ bs) = false

-- The bytes B, which begins an island, E and A.
unfoldable pub letter_of : List ℕ → Form
letter_of f = cond (is_byte 66 f) (begin Island) (cond (is_byte 69 f) end (cond (is_byte 65 f) abandon other))

unfoldable pub point_of : Number → Number → Form
point_of (number x) (number y) = point x y
point_of (number x) malformed = other
point_of malformed y = other

-- One field: a letter. Two: B and H, which begin a hole. Three: P and two numbers.
unfoldable pub form_of_fields : List (List ℕ) → Form
form_of_fields [] = other
form_of_fields (f ∷ []) = letter_of f
form_of_fields (f ∷ g ∷ []) = cond (is_byte 66 f && is_byte 72 g) (begin Hole) other
form_of_fields (f ∷ x ∷ y ∷ []) = cond (is_byte 80 f) (point_of (number_of x) (number_of y)) other
form_of_fields (f ∷ x ∷ y ∷ z ∷ fs) = other

-- A line of over 32 bytes has none of the forms.
unfoldable pub form_of : List ℕ → Form
form_of bs = cond (ltb 32 (length bs)) other (form_of_fields (fields bs))
