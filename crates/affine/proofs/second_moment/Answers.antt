-- `second_moment` is the bracket of a second moment: the weights are made of a row of the map, within its limits.
use Rattle.integers.proofs.SignedCode.{code}
use Rattle.integers.proofs.SizedNumbers.{called, fits, is_plain}
use Rattle.affine.proofs.Operands.{totals, with_row, small}
use Rattle.affine.proofs.second_moment.Goals as goal

pub overflow_mul-a-4 : goal.overflow_mul-a-4
overflow_mul-a-4 c = fits (with_row c.requires.row_within (totals c.requires.fit)) (search code depth 40) tt

pub overflow_mul-b-3 : goal.overflow_mul-b-3
overflow_mul-b-3 c = fits (with_row c.requires.row_within (totals c.requires.fit)) (search code depth 40) tt

pub overflow_mul-e-2 : goal.overflow_mul-e-2
overflow_mul-e-2 c = fits (with_row c.requires.row_within (totals c.requires.fit)) (search code depth 40) tt

pub weighted-requires : goal.weighted-requires
weighted-requires c =
    let l = with_row c.requires.row_within (totals c.requires.fit) in
    record { at_most = small l (search code depth 40) tt; at_most_2 = small l (search code depth 40) tt; at_most_3 = small l (search code depth 40) tt; at_most_4 = small l (search code depth 40) tt; at_most_5 = small l (search code depth 40) tt; at_most_6 = small l (search code depth 40) tt; fit = c.requires.fit }

pub returns : goal.returns
returns c =
    let l = with_row c.requires.row_within (totals c.requires.fit) in
    called (is_plain l (search code depth 60 fits 20000) tt) c.weighted.type_inv c.weighted.ensures
