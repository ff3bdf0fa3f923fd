-- `end_walk` meets its contract, by the two cases of the answer of `end`.
use Rattle.lines.proofs.EndLines.{accepted_end, refused_end}
use Rattle.lines.proofs.end_walk.Goals as goal
use Rattle.lines.proofs.end_walk.Goals.{in-Ok, in-Err}

pub returns : goal.returns
returns c =
    elim c.match-reply.branch [
      | in-Ok w ↦ rw (w.out-is, w.filled-is) (accepted_end c.args.line c.args.w.count c.end-reply.result.answer c.end-reply.ensures w.in-Ok.ended w.in-Ok.is w.put_outline-filled.ensures)
      | in-Err w ↦ rw (w.out-is, w.filled-is) (refused_end c.args.line c.args.w.count c.end-reply.result.answer c.end-reply.ensures w.in-Err.refused w.in-Err.is (rw (w.from.ensures, w.number.ensures) at w.put_refusal-filled.ensures))
    ]
