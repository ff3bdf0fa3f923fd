-- `chunk_lines::parts::part_of_line` meets its contract.
use Prim.Native.Nat.{◌+◌}
use native.Mathlib.Omega.{arith}
use borrow.Author.Tests.{le-leb, lt-leb}
use Rattle.chunk_lines.proofs.parts.part_of_line.Goals as goal

pub overflow_cast-gone : goal.overflow_cast-gone
overflow_cast-gone c = omega (arith, c.requires.bytes)

pub overflow_add-gone : goal.overflow_add-gone
overflow_add-gone c = omega (arith, c.requires.bytes)

pub returns-then-gone-le32 : goal.returns-then-gone-le32
returns-then-gone-le32 c = let a = c.args in rw (le-leb (a.state.gone + a.size) 32 c.if-gone-le32.true)

pub returns : goal.returns
returns c = let a = c.args in rw (lt-leb (a.state.gone + a.size) 32 c.if-gone-le32.false)
