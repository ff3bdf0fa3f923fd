-- `digits::eight_digits` meets its contract: its two halves, each of four digits.
use native.Mathlib.Omega.{arith}
use Rattle.decimals.proofs.DigitLaws.{half_fits, halves_written}
use Rattle.decimals.proofs.digits.eight_digits.Goals as goal

pub four_digits-requires : goal.four_digits-requires
four_digits-requires c =
    record { n_bound = omega arith; at_in_bounds = half_fits 4 c.args.n c.requires.at_in_bounds c.four_digits-a.ensures }

pub returns : goal.returns
returns c =
    halves_written 4 c.args.n c.requires.at_in_bounds c.four_digits-a.ensures c.four_digits.ensures
