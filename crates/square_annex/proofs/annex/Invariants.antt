-- `square_annex::annex` meets its contract. The invariant: the lines of the entries below k are written, and the sum is entry k.
use Prim.Native.Nat.{ℕ}
use mathlib.Core.Path.{◌≡◌}
use mathlib.Core.List.{List}
use lib.ListN.{length}
use Rattle.column_sums.specs.SumsBelow.{square_sum}
use Rattle.decimals.specs.Buffer.{Written}
use Rattle.column_sums.specs.Annex.{entries_from}
use Rattle.square_annex.specs.Printed.{lines_of}
use Rattle.square_annex.proofs.annex.Given as goal

-- What a turn keeps.
pub record Kept (before after : List ℕ) (at sum k : ℕ) : Type 0 where
  pub entry : sum ≡ square_sum k
  pub size : length after ≡ length before
  pub lines : Written before 0 (lines_of (entries_from 0 k)) after at

abbrev pub invariant-loop-k : goal.invariant-loop-k
invariant-loop-k l = Kept l.initial.out l.out l.at l.sum l.k
