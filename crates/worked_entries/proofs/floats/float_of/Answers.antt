-- `worked_entries::floats::float_of` meets its contract: but for the sign, what is not a number has bits past infinity's.
use mathlib.Core.Path.{sym, ◌∙◌, subst}
use mathlib.Core.Bool.{Bool, not}
use borrow.Author.Tests.{lt-ltb, le-ltb}
use Prim.Native.Nat.{◌%◌}
use lib.Dec.{T}
use lib.Ieee.{binary32, of_bits}
use lib.Ieee.Bits.{nan_bits_above}
use Rattle.worked_entries.specs.BitFloats.{float_of}
use Rattle.worked_entries.proofs.floats.float_of.Goals as goal

pub returns-then-bits-gt-INFINITY : goal.returns-then-bits-gt-INFINITY
unfolding float_of of_bits
returns-then-bits-gt-INFINITY c = rw (lt-ltb 0x7F800000 (c.args.bits % 0x80000000) c.if-bits-gt-INFINITY.true)

pub float_from_bits-result : goal.float_from_bits-result
float_from_bits-result c =
    let bits = c.args.bits in
    subst (λ (b : Bool). T (not b)) (sym (nan_bits_above binary32 bits ∙ le-ltb 0x7F800000 (bits % 0x80000000) c.if-bits-gt-INFINITY.false)) tt

pub returns-else-bits-gt-INFINITY : goal.returns-else-bits-gt-INFINITY
unfolding float_of
returns-else-bits-gt-INFINITY c = rw (le-ltb 0x7F800000 (c.args.bits % 0x80000000) c.if-bits-gt-INFINITY.false)
