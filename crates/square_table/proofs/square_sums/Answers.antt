-- `square_table::square_sums` meets its contract: the constant passes the test of its rule, which is computed here.
use mathlib.Core.Path.{refl}
use Rattle.square_table.proofs.TestedTable.{is_annex}
use Rattle.square_table.proofs.square_sums.Goals as goal

pub returns : goal.returns
returns c = is_annex _ refl refl
