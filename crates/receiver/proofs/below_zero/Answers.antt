-- `receiver::below_zero` meets its contract: the code's 0.0 is plus zero.
use mathlib.Core.Path.{refl}
use lib.Ieee.{of_bits}
use Rattle.receiver.specs.Floats.{below_zero}
use Rattle.receiver.proofs.below_zero.Goals as goal

pub returns : goal.returns
unfolding below_zero of_bits
returns c = refl
