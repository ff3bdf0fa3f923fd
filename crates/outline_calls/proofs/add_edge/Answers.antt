-- `add_edge`: an edge within the limits can be added.
use Rattle.outline_calls.proofs.Sizes.{edge_within}
use Rattle.outline_calls.proofs.add_edge.Goals as goal

pub add-requires-clause-t_value : goal.add-requires-clause-t_value
add-requires-clause-t_value c = rw c.edge_between-edge.ensures (edge_within c.args.a c.args.b c.requires.a_value c.requires.b_value)
