-- `digits::up_to_eight` meets its contract: as the smaller number, or as what stands before its last 4 digits and those.
use native.Mathlib.Omega.{arith}
use Rattle.decimals.proofs.DigitLaws.{shorter, rest_fits, number_written}
use Rattle.decimals.proofs.digits.up_to_eight.Goals as goal

pub up_to_four-a-requires : goal.up_to_four-a-requires
up_to_four-a-requires c = record { n_bound = omega (arith, c.requires.n_bound); n_in_bounds = omega (arith, c.requires.n_in_bounds, shorter 4 c.args.n (omega arith)) }

pub four_digits-requires : goal.four_digits-requires
four_digits-requires c =
    record { n_bound = omega arith; at_in_bounds = rest_fits 4 c.args.n (omega arith) c.requires.n_in_bounds c.up_to_four-a.ensures }

pub returns : goal.returns
returns c =
    number_written 4 c.args.n (omega arith) c.requires.n_in_bounds c.up_to_four-a.ensures c.four_digits.ensures
