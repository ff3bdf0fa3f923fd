-- `digits::four_digits` meets its contract: its two halves, each of two digits.
use native.Mathlib.Omega.{arith}
use Rattle.decimals.proofs.DigitLaws.{half_fits, halves_written}
use Rattle.decimals.proofs.digits.four_digits.Goals as goal

pub two_digits-requires : goal.two_digits-requires
two_digits-requires c =
    record { n_bound = omega arith; at_in_bounds = half_fits 2 c.args.n c.requires.at_in_bounds c.two_digits-a.ensures }

pub returns : goal.returns
returns c =
    halves_written 2 c.args.n c.requires.at_in_bounds c.two_digits-a.ensures c.two_digits.ensures
