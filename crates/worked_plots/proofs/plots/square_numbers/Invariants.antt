-- `worked_plots::plots::square_numbers` meets its contract. The invariant: the first i numbers are those of the square.
use mathlib.Core.Path.{◌≡◌}
use mathlib.Core.List.{List}
use Prim.Native.Nat.{ℕ}
use lib.IntN.{ℤ}
use lib.ListN.{length, take}
use Rattle.worked_plots.specs.Plots.{round_square}
use Rattle.worked_plots.proofs.plots.square_numbers.Given as goal

-- The first i numbers are the square's.
pub record Filled (numbers : List ℤ) (i : ℕ) : Type 0 where
  pub long : length numbers ≡ 2048
  pub front : take i numbers ≡ round_square i

abbrev pub invariant-loop-i : goal.invariant-loop-i
invariant-loop-i l = Filled l.numbers l.i
