-- `one_digit` gives the digit's value, and nothing at 0 after a minus.
use Rattle.std.proofs.Common.{⊎_elim}
use Rattle.text_numbers.proofs.DigitCases.{minus_zero, plain_digit, not_zero}
use Rattle.text_numbers.proofs.one_digit.Goals as goal

pub returns-then-digit-eq48 : goal.returns-then-digit-eq48
returns-then-digit-eq48 c = minus_zero c.args.minus c.args.digit c.requires c.if-minus.true c.if-digit-eq48.true

pub returns-else-minus : goal.returns-else-minus
returns-else-minus c =
    ⊎_elim (λ no_zero. not_zero c.args.minus c.args.digit c.requires no_zero.1) (λ plain. plain_digit c.args.minus c.args.digit c.requires plain) c.else-minus.either
