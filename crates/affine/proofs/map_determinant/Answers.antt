-- `map_determinant` is d: every step fits 32 bits, since the four coefficients are within their limit.
use Rattle.integers.proofs.SignedCode.{code}
use Rattle.integers.proofs.SizedNumbers.{fits, is_plain}
use Rattle.affine.proofs.Operands.{coefficients}
use Rattle.affine.proofs.map_determinant.Goals as goal

pub overflow_sub-result : goal.overflow_sub-result
overflow_sub-result c = fits (coefficients c.requires) (search code depth 60) tt

pub returns : goal.returns
returns c = is_plain (coefficients c.requires) (search code depth 60) tt
