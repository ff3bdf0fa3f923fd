-- `digits::up_to_twenty` meets its contract: as the smaller number, or as what stands before its last 8 digits and those.
use native.Mathlib.Omega.{arith}
use Rattle.decimals.proofs.DigitLaws.{shorter, rest_fits, number_written}
use Rattle.decimals.proofs.digits.up_to_twenty.Goals as goal

pub up_to_sixteen-a-requires : goal.up_to_sixteen-a-requires
up_to_sixteen-a-requires c = record { n_bound = omega arith; n_in_bounds = omega (arith, c.requires, shorter 8 c.args.n (omega arith)) }

pub eight_digits-requires : goal.eight_digits-requires
eight_digits-requires c =
    record { n_bound = omega arith; at_in_bounds = rest_fits 8 c.args.n (omega arith) c.requires c.up_to_sixteen-a.ensures }

pub returns : goal.returns
returns c =
    number_written 8 c.args.n (omega arith) c.requires c.up_to_sixteen-a.ensures c.eight_digits.ensures
