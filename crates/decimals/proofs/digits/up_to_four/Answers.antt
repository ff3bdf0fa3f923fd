-- `digits::up_to_four` meets its contract: as the smaller number, or as what stands before its last 2 digits and those.
use native.Mathlib.Omega.{arith}
use Rattle.decimals.proofs.DigitLaws.{shorter, rest_fits, number_written}
use Rattle.decimals.proofs.digits.up_to_four.Goals as goal

pub up_to_two-a-requires : goal.up_to_two-a-requires
up_to_two-a-requires c = record { n_bound = omega (arith, c.requires.n_bound); n_in_bounds = omega (arith, c.requires.n_in_bounds, shorter 2 c.args.n (omega arith)) }

pub two_digits-requires : goal.two_digits-requires
two_digits-requires c =
    record { n_bound = omega arith; at_in_bounds = rest_fits 2 c.args.n (omega arith) c.requires.n_in_bounds c.up_to_two-a.ensures }

pub returns : goal.returns
returns c =
    number_written 2 c.args.n (omega arith) c.requires.n_in_bounds c.up_to_two-a.ensures c.two_digits.ensures
