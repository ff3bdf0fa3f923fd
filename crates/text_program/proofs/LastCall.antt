-- The last call: nothing is left in the chunk or to be read, and there is room for two lines (one for a line whose bytes are gone, one for S).
use Prim.Native.Nat.{ℕ, suc, ◌+◌, ◌-◌, ◌≤◌}
use mathlib.Core.Path.{◌≡◌, refl}
use mathlib.Core.Bool.{true, cond, true≢false}
use mathlib.Core.List.{[]}
use native.Mathlib.Omega.{arith}
use lib.ListN.{length}
use borrow.Author.Tests.{le-ltb}
use Rattle.outline.specs.declared.Sheet.{Sheet}
use Rattle.printing.specs.Buffer.{line_room}
use Rattle.text_program.specs.declared.State.{State}
use Rattle.newlines.specs.LineLength.{line_length}
use Rattle.text_program.specs.Stream.{Step, closing, followed, step, steps, feed_call}
use Rattle.text_program.proofs.StepCases.{StepCase, done, ended, last, waits, far, newline, unended, holds, step_case}
use Rattle.text_program.proofs.Progress.{steps_after, first_step}
use Rattle.text_program.proofs.Room.{Fits, step_line}

-- Where the next step is the S line and there is room for it, it is written.
closes : (most : ℕ) (st : State) (s : Sheet) (room : ℕ) → line_room ≤ room → step true st s [] ≡ closing st s → (steps (suc most) true st s [] room).state.written ≡ true
unfolding steps
closes most st s room h e = rw (le-ltb room line_room h, e)

-- The first step writes S, or the second does.
case_closes : (st : State) (s : Sheet) (room : ℕ) (r : Step) → StepCase true st s [] r → length r.output + line_room ≤ room → (cond r.more (followed r (steps_after 1 true r [] room)) r).state.written ≡ true
unfolding step line_length
case_closes st s room r (done e) h = e
case_closes st s room r (ended on e) h = refl
case_closes st s room r (last p f k e) h = refl
case_closes st s room r (waits p f k plain near) h = absurd (true≢false f)
case_closes st s room r (far p e) h = closes 0 r.state s (room - length r.output) (omega arith) refl
case_closes st s room r (newline n k) h = absurd (omega arith)
case_closes st s room r (unended n f plain) h = closes 0 r.state r.sheet (room - length r.output) (omega arith) refl
case_closes st s room r (holds n f plain k) h = absurd (true≢false f)

-- The S line is written.
pub last_call : (st : State) (s : Sheet) (room : ℕ) → Fits st s → line_room + line_room ≤ room → (feed_call true st s [] room).state.written ≡ true
unfolding feed_call
last_call st s room f h = rw (first_step 1 true st s [] room (omega arith)) (case_closes st s room (step true st s []) (step_case true st s []) (omega (arith, (step_line true st s [] f).short)))
