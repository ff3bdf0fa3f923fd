-- `worked_entries::floats::fix_of` meets its contract, float by float.
use Rattle.worked_entries.proofs.floats.fix_of.Goals as goal

pub returns : goal.returns
returns c i = record { east = c.float_of.ensures i; north = c.float_of-2.ensures i }
