-- `outline_calls::first_term` meets its contract: each step fits 64 bits, a computed test.
use mathlib.Core.List.{List, [], ◌∷◌}
use Rattle.integers.proofs.SignedCode.{code}
use Rattle.integers.proofs.SizedNumbers.{Sized, fits, is_plain}
use Rattle.outline.proofs.Limits.{tested}
use Rattle.outline_calls.proofs.first_term.Goals.{Start}
use Rattle.outline_calls.proofs.first_term.Goals as goal

abbrev operands : Start → List Sized
operands s = tested 2000 s.args.s s.requires.s_value ∷ tested 2000 s.args.t s.requires.t_value ∷ tested 8000000 s.args.c s.requires.c_value ∷ []

pub returns : goal.returns
returns s = is_plain (operands s) (search code depth 40) tt

pub overflow_add-result : goal.overflow_add-result
overflow_add-result s = fits (operands s) (search code depth 40) tt

pub overflow_mul-result : goal.overflow_mul-result
overflow_mul-result s = fits (operands s) (search code depth 40) tt
