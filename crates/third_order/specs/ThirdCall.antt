-- Document 02, CR 10: the outcome of the call on a whole list, and refusal 35.
use Rattle.std.specs.Prelude.{ℕ, cond, List, ℤ}
use Rattle.outline.specs.ListCall.{points, any_beyond, any_outside, wrong_length}
use Rattle.third_order.specs.declared.ThirdTotals.{ThirdTotals}
use Rattle.third_order.specs.ThirdTerms.{third_totals, no_thirds}

-- Number 0 and the four totals where it is accepted, else the number of its refusal and zeros.
pub record ThirdOutcome : Type 0 where
  pub number : ℕ
  pub totals : ThirdTotals

abbrev pub accepted_thirds : ThirdTotals → ThirdOutcome
accepted_thirds t = record { number = 0; totals = t }

abbrev pub refused_thirds : ℕ → ThirdOutcome
refused_thirds n = record { number = n; totals = no_thirds }

-- The limit of refusal 35: no coordinate may be below -500 or above 500.
abbrev pub third_limit : ℕ
third_limit = 500

-- Order: 2, 1, 35.
unfoldable pub third_call : List ℤ → ThirdOutcome
third_call zs =
    cond (wrong_length zs) (refused_thirds 2)
    (cond (any_outside (points zs)) (refused_thirds 1)
    (cond (any_beyond third_limit (points zs)) (refused_thirds 35)
    (accepted_thirds (third_totals (points zs)))))
