-- `read_number` reads a minus and the four bytes behind it: what `number-at` says of the number there.
use Rattle.parsing.proofs.NumberReads.{number-at}
use Rattle.parsing.proofs.form.read_number.Goals as goal

pub returns : goal.returns
returns c = number-at c.args.s.now c.args.at c.requires c.leading_number.ensures
