-- The answer of the call for third moments in document 02's terms (CR 10): the number of the refusal, and the four totals, all 0 with every refusal.
use Rattle.std.specs.Prelude.{ℕ, Result, Ok, Err}
use Rattle.third_order.specs.declared.ThirdTotals.{ThirdTotals}
use Rattle.third_order.specs.ThirdCall.{ThirdOutcome, accepted_thirds, refused_thirds}
use Rattle.third_moments.specs.declared.ThirdRefusal.{ThirdRefusal}
use Rattle.third_moments.specs.declared.ThirdRefusal.TheVariants.{WrongLength, OutsideLimits, TooFarForThirdMoments}

abbrev pub third_number : ThirdRefusal → ℕ
third_number WrongLength = 2
third_number OutsideLimits = 1
third_number TooFarForThirdMoments = 35

abbrev pub reading : Result ThirdTotals ThirdRefusal → ThirdOutcome
reading (Ok t) = accepted_thirds t
reading (Err r) = refused_thirds (third_number r)
