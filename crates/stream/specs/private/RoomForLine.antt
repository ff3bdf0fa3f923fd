-- What the code of one step does, in the terms of `text_program`'s definition of a step.
use Rattle.std.specs.Prelude.{ℕ, Bool, cond, List, ltb}
use Rattle.outline.specs.declared.Sheet.{Sheet}
use Rattle.printing.specs.Buffer.{line_room}
use Rattle.text_program.specs.declared.State.{State}
use Rattle.text_program.specs.Stream.{Step, halted, step}

-- A step is taken where there is room for the longest line.
unfoldable pub step_with_room : Bool → State → Sheet → List ℕ → ℕ → Step
step_with_room final st s chunk room = cond (ltb room line_room) (halted st s) (step final st s chunk)
