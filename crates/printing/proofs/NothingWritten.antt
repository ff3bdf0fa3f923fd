-- A line that prints nothing leaves the buffer and the place in it.
use Prim.Native.Nat.{ℕ, ◌+◌}
use mathlib.Core.List.{List, []}
use lib.Dec.{ltb}
use lib.ListN.{length}
use Rattle.printing.specs.Buffer.{line_room, fitting}
use Rattle.decimals.specs.Buffer.{Written}
use Rattle.integers.proofs.Cases.{by_cond}
use Rattle.decimals.proofs.BufferLaws.{none_written}

pub nothing_written : (o : List ℕ) (at : ℕ) → Written o at (fitting o at []) o at
unfolding fitting
nothing_written o at = by_cond (λ text. Written o at text o at) (ltb (length o) (at + line_room)) (λ e. none_written o at) (λ e. none_written o at)
