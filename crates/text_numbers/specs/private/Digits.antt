-- What the parts of `leading_number` read: the digits, before they have a sign.
use Rattle.std.specs.Prelude.{ℕ, Bool, not, ◌&&◌, cond, List, eqb, length, Option, None, Some}
use Rattle.text_numbers.specs.Numbers.{value_from, is_natural}
use Rattle.text_numbers.specs.LeadingNumber.{leading_digits}
use Rattle.text_numbers.specs.declared.NumberAt.{NumberAt}

-- The value and the size of the natural that bytes begin with; none where there is none, or 0 behind a minus.
unfoldable pub digits_at : Bool → List ℕ → Option (NumberAt ℕ)
digits_at minus bs =
    let ds = leading_digits bs in
    cond (is_natural ds && not (minus && eqb (value_from 0 ds) 0)) (Some (record { value = value_from 0 ds; size = length ds })) None
