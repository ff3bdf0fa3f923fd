-- What the parts of `line_form` read: a number at the front of bytes, the rest of a point's line after its x, a line by any rule for its form, and a copy.
use Rattle.std.specs.Prelude.{ℕ, ◌+◌, cond, List, [], ◌∷◌, ◌++◌, eqb, length, take, drop, ℤ, Option}
use Rattle.newlines.specs.LineLength.{line_length}
use Rattle.text_numbers.specs.Numbers.{Number, number_of}
use Rattle.text_numbers.specs.LeadingNumber.{leading_digits, sized}
use Rattle.text_numbers.specs.declared.NumberAt.{NumberAt}
use Rattle.parsing.specs.Grammar.{fields, Form, other, point_of}
use Rattle.parsing.specs.ReadForm.{Front, formed}

-- A minus, if there is one, and the digits behind it, four at most.
unfoldable pub number_token : List ℕ → List ℕ
number_token [] = []
number_token (b ∷ bs) = cond (eqb b 45) (b ∷ leading_digits (take 4 bs)) (leading_digits (take 4 (b ∷ bs)))

-- The value and the size of the number that bytes begin with; none where it is malformed.
unfoldable pub number_at : List ℕ → Option (NumberAt ℤ)
number_at bs = sized (number_of (number_token bs)) (length (number_token bs))

-- The form of a point's line whose x is read, by the fields of what follows x: an empty one, since a tab follows, and y.
unfoldable pub after_x : Number → List (List ℕ) → Form
after_x x [] = other
after_x x (f ∷ []) = other
after_x x ([] ∷ y ∷ []) = point_of x (number_of y)
after_x x ((b ∷ bs) ∷ y ∷ []) = other
after_x x (f ∷ y ∷ z ∷ fs) = other

unfoldable pub second_form : Number → List ℕ → Form
second_form x bs = after_x x (fields bs)

-- The first line of bytes that stand at the place `at`, by a rule for its form.
unfoldable pub line_front : (List ℕ → Form) → List ℕ → ℕ → Front
line_front rule bs at = let n = line_length bs in formed (rule (take n bs)) (at + n + 1)

-- Others, with bytes in place of the first of them.
abbrev pub copied_onto : List ℕ → List ℕ → List ℕ
copied_onto bs others = bs ++ drop (length bs) others
