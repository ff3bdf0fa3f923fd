-- `tell` writes nothing where the reply accepts.
use Rattle.lines.proofs.WalkLines.{accepted_line, refused_line}
use Rattle.lines.proofs.tell.Goals as goal

pub returns-in-Ok : goal.returns-in-Ok
returns-in-Ok g c = let a = c.args in accepted_line g.R.Refusal.numbered a.line a.out.now a.at a.reply.answer a.reply.walk a.sheet c.in-Ok.is

pub returns-in-Err : goal.returns-in-Err
returns-in-Err g c =
    let a = c.args in
    refused_line g.R.Refusal.numbered a.line a.out.now a.at a.reply.answer a.reply.walk a.sheet c.in-Err.refusal c.in-Err.is (c.requires c.in-Err.refusal) (rw (c.from.ensures, c.number.ensures, c.in-Err.refusal-is) at c.put_refusal.ensures)
