-- `digits` gives the natural that the four bytes begin with: one case of `digits_at` for each return.
use Rattle.std.proofs.Common.{sym, ◌∙◌}
use Rattle.text_numbers.proofs.DigitCases.{none_first, one, leading_zero_lem, two, three, four}
use Rattle.text_numbers.proofs.digits.Goals as goal

pub returns-then-not-is_ascii_digit : goal.returns-then-not-is_ascii_digit
returns-then-not-is_ascii_digit c =
    let s = c.args in
    none_first s.minus s.a s.b s.c s.d (sym c.if-not-is_ascii_digit.ensures.value)

pub returns-then-not-is_ascii_digit-2 : goal.returns-then-not-is_ascii_digit-2
returns-then-not-is_ascii_digit-2 c =
    let s = c.args in
    c.one_digit.ensures ∙ one s.minus s.a s.b s.c s.d (sym c.if-not-is_ascii_digit.ensures.value) (sym c.if-not-is_ascii_digit-2.ensures.value)

pub returns-then-a-eq48 : goal.returns-then-a-eq48
returns-then-a-eq48 c =
    let s = c.args in
    leading_zero_lem s.minus s.a s.b s.c s.d (sym c.if-not-is_ascii_digit.ensures.value) (sym c.if-not-is_ascii_digit-2.ensures.value) c.if-a-eq48.true

pub returns-then-not-is_ascii_digit-3 : goal.returns-then-not-is_ascii_digit-3
returns-then-not-is_ascii_digit-3 c =
    let s = c.args in
    two s.minus s.a s.b s.c s.d (sym c.if-not-is_ascii_digit.ensures.value) (sym c.if-not-is_ascii_digit-2.ensures.value) c.if-a-eq48.false (sym c.if-not-is_ascii_digit-3.ensures.value)

pub returns-then-not-is_ascii_digit-4 : goal.returns-then-not-is_ascii_digit-4
returns-then-not-is_ascii_digit-4 c =
    let s = c.args in
    three s.minus s.a s.b s.c s.d (sym c.if-not-is_ascii_digit.ensures.value) (sym c.if-not-is_ascii_digit-2.ensures.value) c.if-a-eq48.false (sym c.if-not-is_ascii_digit-3.ensures.value) (sym c.if-not-is_ascii_digit-4.ensures.value)

pub returns : goal.returns
returns c =
    let s = c.args in
    four s.minus s.a s.b s.c s.d (sym c.if-not-is_ascii_digit.ensures.value) (sym c.if-not-is_ascii_digit-2.ensures.value) c.if-a-eq48.false (sym c.if-not-is_ascii_digit-3.ensures.value) (sym c.if-not-is_ascii_digit-4.ensures.value)
