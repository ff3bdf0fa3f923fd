-- The answer of the call on a whole list in document 01's terms ("Turned back because of the input"): its number, and the totals, which are zeros with
-- every refusal.
use Rattle.std.specs.Prelude.{ℕ, Result, Ok, Err}
use Rattle.outline.specs.declared.Totals.{Totals}
use Rattle.outline.specs.EdgeSums.{zeros}
use Rattle.outline.specs.ListCall.{Outcome, accepted, refused}
use Rattle.outline_answers.specs.declared.OutlineRefusal.{OutlineRefusal}
use Rattle.outline_answers.specs.declared.OutlineRefusal.TheVariants.{WrongLength, OutsideLimits}

-- The totals that an answer tells, of whatever call.
abbrev pub totals_of : {R : Type 0} → Result Totals R → Totals
totals_of (Ok t) = t
totals_of (Err r) = zeros

abbrev pub list_number : OutlineRefusal → ℕ
list_number WrongLength = 2
list_number OutsideLimits = 1

abbrev pub reading : Result Totals OutlineRefusal → Outcome
reading (Ok t) = accepted t
reading (Err r) = refused (list_number r)
