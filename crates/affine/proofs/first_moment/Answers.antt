-- `first_moment` is the bracket of a first moment: every step fits 64 bits, by the bounds of the map and of the totals.
use Rattle.integers.proofs.SignedCode.{code}
use Rattle.integers.proofs.SizedNumbers.{fits, is_plain}
use Rattle.affine.proofs.Operands.{totals, with_row}
use Rattle.affine.proofs.first_moment.Goals as goal

pub overflow_mul-result : goal.overflow_mul-result
overflow_mul-result c = fits (with_row c.requires.row_within (totals c.requires.fit)) (search code depth 60 fits 20000) tt

pub overflow_mul-result-2 : goal.overflow_mul-result-2
overflow_mul-result-2 c = fits (with_row c.requires.row_within (totals c.requires.fit)) (search code depth 60 fits 20000) tt

pub overflow_add-result : goal.overflow_add-result
overflow_add-result c = fits (with_row c.requires.row_within (totals c.requires.fit)) (search code depth 60 fits 20000) tt

pub overflow_mul-result-4 : goal.overflow_mul-result-4
overflow_mul-result-4 c = fits (with_row c.requires.row_within (totals c.requires.fit)) (search code depth 60 fits 20000) tt

pub overflow_add-result-2 : goal.overflow_add-result-2
overflow_add-result-2 c = fits (with_row c.requires.row_within (totals c.requires.fit)) (search code depth 60 fits 20000) tt

pub returns : goal.returns
returns c = is_plain (with_row c.requires.row_within (totals c.requires.fit)) (search code depth 60 fits 20000) tt
