-- `mixed_moment` is the bracket of XY24: the weights are made of the two rows of the map, within its limits.
use mathlib.Core.List.{List}
use lib.IntN.{ℤ}
use Rattle.integers.proofs.SignedCode.{code}
use Rattle.integers.proofs.SizedNumbers.{Sized, called, fits, is_plain}
use Rattle.outline.specs.declared.Totals.{Totals}
use Rattle.outline.specs.EdgeSums.{outline_bounds}
use Rattle.outline.specs.private.Fit.{Fit}
use Rattle.affine.specs.private.Limits.{RowWithin}
use Rattle.affine.proofs.Operands.{totals, with_row, small}
use Rattle.affine.proofs.mixed_moment.Goals as goal

abbrev operands : {a b e g h f : ℤ} {t : Totals} → RowWithin a b e → RowWithin g h f → Fit outline_bounds t → List Sized
operands u v k = with_row u (with_row v (totals k))

pub overflow_mul-a-2 : goal.overflow_mul-a-2
overflow_mul-a-2 c = fits (operands c.requires.row_within c.requires.row_within_2 c.requires.fit) (search code depth 40) tt

pub overflow_mul-b-2 : goal.overflow_mul-b-2
overflow_mul-b-2 c = fits (operands c.requires.row_within c.requires.row_within_2 c.requires.fit) (search code depth 40) tt

pub overflow_mul-a-3 : goal.overflow_mul-a-3
overflow_mul-a-3 c = fits (operands c.requires.row_within c.requires.row_within_2 c.requires.fit) (search code depth 40) tt

pub overflow_mul-b-3 : goal.overflow_mul-b-3
overflow_mul-b-3 c = fits (operands c.requires.row_within c.requires.row_within_2 c.requires.fit) (search code depth 40) tt

pub overflow_add-a : goal.overflow_add-a
overflow_add-a c = fits (operands c.requires.row_within c.requires.row_within_2 c.requires.fit) (search code depth 40) tt

pub overflow_mul-g : goal.overflow_mul-g
overflow_mul-g c = fits (operands c.requires.row_within c.requires.row_within_2 c.requires.fit) (search code depth 40) tt

pub overflow_mul-a-4 : goal.overflow_mul-a-4
overflow_mul-a-4 c = fits (operands c.requires.row_within c.requires.row_within_2 c.requires.fit) (search code depth 40) tt

pub overflow_add-g : goal.overflow_add-g
overflow_add-g c = fits (operands c.requires.row_within c.requires.row_within_2 c.requires.fit) (search code depth 40) tt

pub overflow_mul-g-2 : goal.overflow_mul-g-2
overflow_mul-g-2 c = fits (operands c.requires.row_within c.requires.row_within_2 c.requires.fit) (search code depth 40) tt

pub overflow_mul-h : goal.overflow_mul-h
overflow_mul-h c = fits (operands c.requires.row_within c.requires.row_within_2 c.requires.fit) (search code depth 40) tt

pub overflow_mul-b-4 : goal.overflow_mul-b-4
overflow_mul-b-4 c = fits (operands c.requires.row_within c.requires.row_within_2 c.requires.fit) (search code depth 40) tt

pub overflow_add-h : goal.overflow_add-h
overflow_add-h c = fits (operands c.requires.row_within c.requires.row_within_2 c.requires.fit) (search code depth 40) tt

pub overflow_mul-h-2 : goal.overflow_mul-h-2
overflow_mul-h-2 c = fits (operands c.requires.row_within c.requires.row_within_2 c.requires.fit) (search code depth 40) tt

pub overflow_mul-e-2 : goal.overflow_mul-e-2
overflow_mul-e-2 c = fits (operands c.requires.row_within c.requires.row_within_2 c.requires.fit) (search code depth 40) tt

pub weighted-requires : goal.weighted-requires
weighted-requires c =
    let l = operands c.requires.row_within c.requires.row_within_2 c.requires.fit in
    record { at_most = small l (search code depth 40) tt; at_most_2 = small l (search code depth 40) tt; at_most_3 = small l (search code depth 40) tt; at_most_4 = small l (search code depth 40) tt; at_most_5 = small l (search code depth 40) tt; at_most_6 = small l (search code depth 40) tt; fit = c.requires.fit }

pub returns : goal.returns
returns c =
    let l = operands c.requires.row_within c.requires.row_within_2 c.requires.fit in
    called (is_plain l (search code depth 60 fits 20000) tt) c.weighted.type_inv c.weighted.ensures
