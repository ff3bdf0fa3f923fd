-- `chunk_lines::parts::line_size` meets its contract: by where the next line begins, or by a search for the newline.
use native.Mathlib.Omega.{arith}
use lib.ListN.{drop, length-drop}
use Rattle.newlines.proofs.Newlines.{line_within}
use Rattle.chunk_lines.proofs.FormsRead.{next_line}
use Rattle.chunk_lines.proofs.parts.line_size.Goals as goal

pub overflow_sub-result : goal.overflow_sub-result
overflow_sub-result c = omega (arith, next_line c.args.s.now c.args.at c.args.form c.requires _ c.in-Some.is)

pub overflow_add-result : goal.overflow_add-result
overflow_add-result c = omega (arith, c.newline.ensures, line_within (drop c.args.at c.args.s.now), length-drop c.args.at c.args.s.now)

pub returns-in-Some : goal.returns-in-Some
returns-in-Some c = omega (arith, next_line c.args.s.now c.args.at c.args.form c.requires _ c.in-Some.is)
