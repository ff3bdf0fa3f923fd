-- `chunk_lines::parts::end_reading` meets its contract.
use Rattle.chunk_lines.specs.private.Counting.{ending_over}
use Rattle.chunk_lines.proofs.StepAnswers.{steps_to}
use Rattle.chunk_lines.proofs.parts.end_reading.Goals as goal

pub returns : goal.returns
returns c =
    let a = c.args in
    steps_to (ending_over a.state a.sheet a.left) (rw c.from.ensures at c.put_refusal-filled.ensures)
