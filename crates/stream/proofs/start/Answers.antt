-- `stream::start` meets its contract.
use Rattle.stream.proofs.start.Goals as goal

pub returns : goal.returns
returns c = rw c.new_walk.ensures
