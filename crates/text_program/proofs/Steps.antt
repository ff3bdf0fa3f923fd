-- Induction over the steps of a call.
use Prim.Native.Nat.{ℕ, zero, suc, ◌-◌, ◌≤◌}
use mathlib.Core.Bool.{Bool}
use mathlib.Core.List.{List}
use lib.ListN.{length, drop}
use lib.Dec.{ltb}
use borrow.Author.Tests.{ltb-false}
use Rattle.outline.specs.declared.Sheet.{Sheet}
use Rattle.printing.specs.Buffer.{line_room}
use Rattle.text_program.specs.declared.State.{State}
use Rattle.text_program.specs.Stream.{Step, halted, followed, step, steps}
use Rattle.integers.proofs.Cases.{by_cond}

-- P says what becomes of a state, a sheet, a chunk and a room. It holds where nothing is done, of one step where there is room for a line, and of such a step
-- with others after it, if it holds of those.
pub record Kept (final : Bool) (P : State → Sheet → List ℕ → ℕ → Step → Type 0) : Type 0 where
  pub none : (st : State) (s : Sheet) (chunk : List ℕ) (room : ℕ) → P st s chunk room (halted st s)
  pub one : (st : State) (s : Sheet) (chunk : List ℕ) (room : ℕ) → line_room ≤ room → P st s chunk room (step final st s chunk)
  pub more : (st : State) (s : Sheet) (chunk : List ℕ) (room : ℕ) (q : Step) → line_room ≤ room → (let r = step final st s chunk in P r.state r.sheet (drop r.used chunk) (room - length r.output) q → P st s chunk room (followed r q))

-- Then it holds of every call.
pub steps_keep : (final : Bool) (P : State → Sheet → List ℕ → ℕ → Step → Type 0) → Kept final P → (most : ℕ) (st : State) (s : Sheet) (chunk : List ℕ) (room : ℕ) → P st s chunk room (steps most final st s chunk room)
unfolding steps
steps_keep final P k zero st s chunk room = k.none st s chunk room
steps_keep final P k (suc most) st s chunk room =
    let r = step final st s chunk in
    let later = steps_keep final P k most r.state r.sheet (drop r.used chunk) (room - length r.output) in
    by_cond (P st s chunk room) (ltb room line_room) (λ e. k.none st s chunk room) (λ e.
    by_cond (P st s chunk room) r.more
    (λ m. k.more st s chunk room (steps most final r.state r.sheet (drop r.used chunk) (room - length r.output)) (ltb-false room line_room e) later)
    (λ m. k.one st s chunk room (ltb-false room line_room e)))
