-- `hole_form` reads B, a tab, H and a newline: each way to another byte is a law of a line whose first byte is no P and whose second no newline.
use Rattle.parsing.proofs.Places.{too_long, hole_no_h, hole_goes_on, hole-ends}
use Rattle.parsing.proofs.form.hole_form.Goals.{else-s-eq66-via-then-s-eq66+then-s-eq9+then-s-eq72+else-s-eq10, else-s-eq66-via-then-s-eq66+then-s-eq9+else-s-eq72, else-s-eq66-via-then-s-eq66+else-s-eq9, else-s-eq66-via-else-s-eq66}
use Rattle.parsing.proofs.form.hole_form.Goals as goal

pub returns-then-s-eq10 : goal.returns-then-s-eq10
returns-then-s-eq10 c = hole-ends c.args.s.now 0 c.requires.room c.if-s-eq66.true c.if-s-eq9.true c.if-s-eq72.true c.if-s-eq10.true

pub returns-else-s-eq66 : goal.returns-else-s-eq66
returns-else-s-eq66 c =
    let s = c.args.s.now in
    let room = c.requires.room in
    elim c.else-s-eq66.branch [
      | else-s-eq66-via-then-s-eq66+then-s-eq9+then-s-eq72+else-s-eq10 w ↦ hole_goes_on s 0 room w.if-s-eq66.true w.if-s-eq9.true w.if-s-eq72.true w.if-s-eq10.false
      | else-s-eq66-via-then-s-eq66+then-s-eq9+else-s-eq72 w ↦ hole_no_h s 0 room w.if-s-eq66.true w.if-s-eq9.true w.if-s-eq72.false
      | else-s-eq66-via-then-s-eq66+else-s-eq9 w ↦ too_long s 0 room (λ k. absurd (w.if-s-eq9.false k)) c.requires.no_letter
      | else-s-eq66-via-else-s-eq66 w ↦ too_long s 0 room (λ k. (c.requires.no_point, w.if-s-eq66.false)) c.requires.no_letter
    ]
