-- `worked_entries::floats::no_number` meets its contract: zero by zero is not a number.
use mathlib.Core.Path.{refl}
use lib.Ieee.{of_bits, div}
use Rattle.worked_entries.proofs.floats.no_number.Goals as goal

pub returns : goal.returns
unfolding of_bits div
returns c = refl
