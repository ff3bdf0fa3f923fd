-- `stream::step::close` meets its contract.
use Rattle.text_program.specs.Stream.{closing}
use Rattle.chunk_lines.proofs.StepAnswers.{steps_to}
use Rattle.stream.proofs.step.close.Goals as goal

pub returns : goal.returns
returns c =
    steps_to (closing c.args.state c.args.sheet) c.put_sheet-filled.ensures
