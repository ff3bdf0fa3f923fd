-- `front_form` tells a point's line by its first byte, a letter's by the newline behind it, and hands on what may be a hole's.
use mathlib.Core.Path.{◌∙◌}
use native.Mathlib.Omega.{arith}
use Rattle.parsing.proofs.Places.{after_p, one_byte}
use Rattle.parsing.proofs.form.front_form.Goals as goal

pub returns-then-s-eq80 : goal.returns-then-s-eq80
returns-then-s-eq80 c = c.point_form.ensures ∙ after_p c.args.s.now 0 (omega arith) c.if-s-eq80.true

pub returns-then-s-eq10 : goal.returns-then-s-eq10
returns-then-s-eq10 c = c.letter_form.ensures ∙ one_byte c.args.s.now 0 (omega arith) c.if-s-eq10.true
