-- `stream::step::step` meets its contract: the tests go the ways of the definition.
use Prim.Native.Nat.{ℕ, ◌-◌}
use mathlib.Core.Path.{◌≡◌, sym, ap, ◌∙◌}
use mathlib.Core.Bool.{Bool, not, ◌&&◌, ◌||◌}
use mathlib.Core.List.{List}
use borrow.Author.Tests.{lt-ltb, le-ltb}
use lib.Dec.{eqb}
use lib.ListN.{length, drop, length-drop}
use Rattle.integers.proofs.Flags.{tells}
use Rattle.printing.specs.Buffer.{line_room}
use Rattle.text_program.specs.declared.State.{State}
use Rattle.chunk_lines.proofs.StepAnswers.{same_step, silently}
use Rattle.stream.proofs.StepLaws.{steps_no_more, lacks_room, steps_to_close, steps_to_wait, steps_to_line}
use Rattle.stream.proofs.step.step.Goals as goal

-- The code counts what is left of the chunk: so it finds whether the S line is due,
due : {r : Bool} (last : Bool) (st : State) (chunk : List ℕ) (at : ℕ) → r ≡ (st.ended || (last && (eqb (length chunk - at) 0 && eqb st.gone 0))) → r ≡ (st.ended || (last && (eqb (length (drop at chunk)) 0 && eqb st.gone 0)))
due last st chunk at e = e ∙ ap (λ n. st.ended || (last && (eqb n 0 && eqb st.gone 0))) (sym (length-drop at chunk))

-- and whether nothing is left.
nothing : {r : Bool} (last : Bool) (chunk : List ℕ) (at : ℕ) → r ≡ (not last && eqb (length chunk - at) 0) → r ≡ (not last && eqb (length (drop at chunk)) 0)
nothing last chunk at e = e ∙ ap (λ n. not last && eqb n 0) (sym (length-drop at chunk))

pub returns-then-state : goal.returns-then-state
returns-then-state c =
    let a = c.args in
    same_step (steps_no_more a.last a.state a.sheet (drop a.at a.chunk.now) (length a.out.now - a.filled) c.if-state.true) (silently c.halt.ensures)

pub returns-then-out-filled-lt-LINE_ROOM : goal.returns-then-out-filled-lt-LINE_ROOM
returns-then-out-filled-lt-LINE_ROOM c =
    let a = c.args in
    let room = length a.out.now - a.filled in
    same_step (lacks_room a.last a.state a.sheet (drop a.at a.chunk.now) room (lt-ltb room line_room c.if-out-filled-lt-LINE_ROOM.true)) (silently c.halt-then-out-filled-lt-LINE_ROOM.ensures)

pub returns-then-at_end : goal.returns-then-at_end
returns-then-at_end c =
    let a = c.args in
    let room = length a.out.now - a.filled in
    let roomy = le-ltb room line_room c.if-out-filled-lt-LINE_ROOM.false in
    same_step (steps_to_close a.last a.state a.sheet (drop a.at a.chunk.now) room c.if-state.false roomy (tells (due a.last a.state a.chunk.now a.at c.at_end.ensures) c.if-at_end.true)) c.close.ensures

pub returns-then-waits : goal.returns-then-waits
returns-then-waits c =
    let a = c.args in
    let room = length a.out.now - a.filled in
    let roomy = le-ltb room line_room c.if-out-filled-lt-LINE_ROOM.false in
    let not_due = tells (due a.last a.state a.chunk.now a.at c.at_end.ensures) c.if-at_end.false in
    same_step (steps_to_wait a.last a.state a.sheet (drop a.at a.chunk.now) room c.if-state.false roomy not_due (tells (nothing a.last a.chunk.now a.at c.waits.ensures) c.if-waits.true)) (silently c.halt-then-waits.ensures)

pub returns : goal.returns
returns c =
    let a = c.args in
    let room = length a.out.now - a.filled in
    let roomy = le-ltb room line_room c.if-out-filled-lt-LINE_ROOM.false in
    let not_due = tells (due a.last a.state a.chunk.now a.at c.at_end.ensures) c.if-at_end.false in
    same_step (steps_to_line a.last a.state a.sheet (drop a.at a.chunk.now) room c.if-state.false roomy not_due (tells (nothing a.last a.chunk.now a.at c.waits.ensures) c.if-waits.false)) c.line_step.ensures
