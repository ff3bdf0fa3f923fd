-- `digits::up_to_two` meets its contract: by its one digit or its two.
use mathlib.Core.Path.{ap}
use native.Mathlib.Omega.{arith}
use lib.ListN.{length}
use Rattle.decimals.proofs.BufferLaws.{byte_written}
use Rattle.decimals.proofs.DigitLaws.{one_digit, last-length, two_digits}
use Rattle.decimals.proofs.digits.up_to_two.Goals as goal

pub bounds-out-at : goal.bounds-out-at
bounds-out-at c = omega (arith, c.requires.n_in_bounds, ap length (one_digit c.args.n c.if-n-lt10.true))

pub returns-then-n-lt10 : goal.returns-then-n-lt10
returns-then-n-lt10 c = rw (one_digit c.args.n c.if-n-lt10.true) (byte_written c.args.out.now c.args.at _ (bounds-out-at c))

pub two_digits-requires : goal.two_digits-requires
two_digits-requires c = record { n_bound = c.requires.n_bound; at_in_bounds = omega (arith, c.requires.n_in_bounds, ap length (two_digits c.args.n (omega arith) c.requires.n_bound), last-length 2 c.args.n) }

pub returns : goal.returns
returns c = rw (two_digits c.args.n (omega arith) c.requires.n_bound) c.two_digits.ensures
