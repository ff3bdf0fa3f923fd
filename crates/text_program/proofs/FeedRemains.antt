-- One call of the streaming core, for every state and every room: as for a step.
use Prim.Native.Nat.{ℕ, ◌+◌}
use mathlib.Core.Path.{◌≡◌, refl, sym, ap, ◌∙◌}
use mathlib.Core.Bool.{Bool, true}
use mathlib.Core.List.{List, [], ◌++◌, append_assoc}
use lib.ListN.{length, drop}
use lib.Seq.{drop-drop}
use Rattle.outline.specs.declared.Sheet.{Sheet}
use Rattle.text_program.specs.declared.State.{State}
use Rattle.text_program.specs.Stream.{Step, followed, step, feed_call, remaining}
use Rattle.text_program.proofs.StepRemains.{Remains, step_remains}
use Rattle.text_program.proofs.Steps.{steps_keep}

-- Two steps, the second on what the first leaves.
followed_remains : (st : State) (s : Sheet) (chunk rest : List ℕ) (r q : Step) → Remains st s chunk rest r → Remains r.state r.sheet (drop r.used chunk) rest q → Remains st s chunk rest (followed r q)
followed_remains st s chunk rest r q h k =
    h
    ∙ ap (λ l. r.output ++ l) k
    ∙ sym (append_assoc r.output q.output (remaining q.state q.sheet (drop q.used (drop r.used chunk) ++ rest)))
    ∙ ap (λ l. (r.output ++ q.output) ++ remaining q.state q.sheet (l ++ rest)) (drop-drop q.used r.used chunk)

-- For every state, sheet, chunk and room, and for whatever comes after the chunk: nothing where the chunk is the end of the input.
pub feed_remains : (final : Bool) (st : State) (s : Sheet) (chunk : List ℕ) (room : ℕ) (rest : List ℕ) → (final ≡ true → rest ≡ []) → Remains st s chunk rest (feed_call final st s chunk room)
unfolding feed_call
feed_remains final st s chunk room rest end =
    steps_keep final (λ st s chunk room r. Remains st s chunk rest r)
    (record {
      none = λ st s chunk room. refl;
      one = λ st s chunk room h. step_remains final st s chunk rest end;
      more = λ st s chunk room q h later. followed_remains st s chunk rest (step final st s chunk) q (step_remains final st s chunk rest end) later;
    })
    (length chunk + 2) st s chunk room
