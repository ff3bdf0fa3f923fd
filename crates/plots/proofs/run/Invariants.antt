-- `plots::run` meets its contract: it is safe, ends for every input, and where it has written the S line, what it has written is the output for what the input had. Its
-- loop keeps the steps that it has done.
use Prim.Native.Nat.{ℕ, ◌-◌, ◌≤◌}
use mathlib.Core.Path.{◌≡◌}
use mathlib.Core.Bool.{Bool}
use mathlib.Core.List.{List}
use lib.ListN.{length, take, drop}
use Rattle.std.specs.Prelude.{Option}
use Rattle.outline.specs.declared.Sheet.{Sheet}
use Rattle.text_program.specs.declared.State.{State}
use Rattle.plots.proofs.Turns.{to_do, Possible}
use Rattle.plots.proofs.SoFar.{SoFar}
use Rattle.plots.proofs.run.Given as goal

-- What a turn keeps.
pub record Kept (unread₀ held₀ unread held : Option (List ℕ)) (buf₀ out₀ buf out : List ℕ) (state : State) (sheet : Sheet) (at have : ℕ) (last : Bool) : Type 0 where
  pub so_far : SoFar unread₀ held₀ unread held last state sheet (take (have - at) (drop at buf))
  pub order : at ≤ have
  pub inside : have ≤ length buf
  pub buf_size : length buf ≡ length buf₀
  pub out_size : length out ≡ length out₀
  pub possible : Possible state sheet

abbrev pub invariant-loop-state : goal.invariant-loop-state
invariant-loop-state g l =
    Kept (g.R.Read.remaining l.initial.input) (g.W.Write.contents l.initial.output) (g.R.Read.remaining l.input) (g.W.Write.contents l.output)
    l.initial.buf l.initial.out l.buf l.out l.state l.sheet l.at l.have l.last

abbrev pub decreases-loop-state : goal.decreases-loop-state
decreases-loop-state g l = to_do l.state (l.have - l.at) l.last
