-- `chunk_lines::parts::whole_line` meets its contract.
use Prim.Native.Nat.{◌+◌}
use Rattle.parsing.specs.ReadForm.{reading}
use Rattle.text_program.specs.Program.{carry_out}
use Rattle.text_program.specs.Stream.{carried_step}
use Rattle.chunk_lines.proofs.StepAnswers.{steps_to}
use Rattle.chunk_lines.proofs.parts.whole_line.Goals as goal

pub returns : goal.returns
returns c =
    let a = c.args in
    let left = rw c.from.ensures at c.carry_out-carried.ensures in
    rw (c.after_line.ensures, left.walk, left.sheet) (steps_to (carried_step a.state (carry_out (a.state.lines + 1) (reading a.form).form a.state.walk a.sheet) a.size) left.text)
