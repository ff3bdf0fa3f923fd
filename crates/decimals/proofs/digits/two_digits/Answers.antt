-- `digits::two_digits` meets its contract: a byte for each digit.
use native.Mathlib.Omega.{arith}
use lib.ListN.{length-set}
use Rattle.decimals.proofs.DigitLaws.{pair_written}
use Rattle.decimals.proofs.digits.two_digits.Goals as goal

pub bounds-out-at-2 : goal.bounds-out-at-2
bounds-out-at-2 c = simp length-set (omega (arith, c.requires.at_in_bounds))

pub returns : goal.returns
returns c = pair_written c.args.out.now c.args.at c.args.n c.requires.n_bound c.requires.at_in_bounds
