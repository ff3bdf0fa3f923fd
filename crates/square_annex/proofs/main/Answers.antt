-- `square_annex::main` meets its contract: what it lends to `print` is the text that `annex` has put at the front of the buffer.
use Prim.Native.Nat.{ℕ}
use native.Mathlib.Omega.{arith}
use lib.Seq.{length-take-le}
use Rattle.decimals.proofs.BufferLaws.{in_front}
use Rattle.column_sums.specs.Annex.{square_sums}
use Rattle.square_annex.proofs.LineLaws.{lines-length}
use Rattle.square_annex.proofs.main.Goals as goal

pub slice_bounds-out-end : goal.slice_bounds-out-end
unfolding square_sums
slice_bounds-out-end c = omega (arith, c.annex-size.ensures.end, lines-length 0 1025 (omega arith), c.annex-size.auto.out)

pub slice_bounds-print-end : goal.slice_bounds-print-end
unfolding square_sums
slice_bounds-print-end c = omega (arith, length-take-le {A = ℕ}, c.annex-size.ensures.end, lines-length 0 1025 (omega arith), c.annex-size.auto.out)

pub print-requires : goal.print-requires
print-requires c = in_front c.annex-size.ensures
