-- The number at the front of bytes, in the terms of `Numbers`.
use Rattle.std.specs.Prelude.{ℕ, ◌+◌, Bool, cond, List, [], ◌∷◌, length, ℤ, Option, None, Some}
use Rattle.text_numbers.specs.Numbers.{is_digit, Number, number, malformed, negative_of, natural_of}
use Rattle.text_numbers.specs.declared.NumberAt.{NumberAt}

-- The digits that bytes begin with.
unfoldable pub leading_digits : List ℕ → List ℕ
leading_digits [] = []
leading_digits (b ∷ bs) = cond (is_digit b) (b ∷ leading_digits bs) []

-- A number and the bytes that it takes; none where it is malformed.
unfoldable pub sized : Number → ℕ → Option (NumberAt ℤ)
sized (number z) size = Some (record { value = z; size = size })
sized malformed size = None

-- The number that the digits at the front of bytes make, behind a minus or behind none.
unfoldable pub leading_number : Bool → List ℕ → Option (NumberAt ℤ)
leading_number minus bs = let ds = leading_digits bs in sized (cond minus (negative_of ds) (natural_of ds)) (cond minus 1 0 + length ds)
