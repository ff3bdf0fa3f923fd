-- `outline_calls::mixed_term` meets its contract: each step fits 64 bits, a computed test.
use mathlib.Core.List.{List, [], ◌∷◌}
use Rattle.integers.proofs.SignedCode.{code}
use Rattle.integers.proofs.SizedNumbers.{Sized, fits, is_plain}
use Rattle.outline.proofs.Limits.{tested}
use Rattle.outline_calls.proofs.mixed_term.Goals.{Start}
use Rattle.outline_calls.proofs.mixed_term.Goals as goal

abbrev operands : Start → List Sized
operands s = tested 2000 s.args.x s.requires.x_value ∷ tested 2000 s.args.y s.requires.y_value ∷ tested 2000 s.args.p s.requires.p_value ∷ tested 2000 s.args.q s.requires.q_value ∷ tested 8000000 s.args.c s.requires.c_value ∷ []

pub returns : goal.returns
returns s = is_plain (operands s) (search code depth 60 fits 20000) tt

pub overflow_mul-result : goal.overflow_mul-result
overflow_mul-result s = fits (operands s) (search code depth 40) tt

pub overflow_mul-result-2 : goal.overflow_mul-result-2
overflow_mul-result-2 s = fits (operands s) (search code depth 40) tt

pub overflow_mul-result-3 : goal.overflow_mul-result-3
overflow_mul-result-3 s = fits (operands s) (search code depth 40) tt

pub overflow_add-result : goal.overflow_add-result
overflow_add-result s = fits (operands s) (search code depth 40) tt

pub overflow_mul-result-4 : goal.overflow_mul-result-4
overflow_mul-result-4 s = fits (operands s) (search code depth 40) tt

pub overflow_add-result-2 : goal.overflow_add-result-2
overflow_add-result-2 s = fits (operands s) (search code depth 40) tt

pub overflow_mul-result-5 : goal.overflow_mul-result-5
overflow_mul-result-5 s = fits (operands s) (search code depth 40) tt

pub overflow_mul-result-6 : goal.overflow_mul-result-6
overflow_mul-result-6 s = fits (operands s) (search code depth 40) tt

pub overflow_add-result-3 : goal.overflow_add-result-3
overflow_add-result-3 s = fits (operands s) (search code depth 40) tt

pub overflow_mul-result-7 : goal.overflow_mul-result-7
overflow_mul-result-7 s = fits (operands s) (search code depth 40) tt
