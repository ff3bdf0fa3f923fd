-- While the S line is not written, something is still to be written.
use Prim.Native.Nat.{ℕ, ◌<◌}
use mathlib.Core.Path.{◌≡◌}
use mathlib.Core.Bool.{false}
use mathlib.Core.List.{List, [], ◌∷◌, ◌++◌}
use native.Mathlib.Omega.{arith}
use lib.ListN.{length, length-append}
use Rattle.integers.proofs.Cases.{by_cond}
use Rattle.outline.specs.declared.Walk.{Walk}
use Rattle.outline.specs.declared.Sheet.{Sheet}
use Rattle.printing.specs.Output.{refusal_line, sheet_line}
use Rattle.text_program.specs.declared.State.{State}
use Rattle.text_program.specs.Program.{Line, too_far, lines_from, output_of}
use Rattle.text_program.specs.Stream.{gone_bytes, remaining}

sheet_some : (s : Sheet) → 0 < length (sheet_line s)
unfolding sheet_line
sheet_some s = omega arith

some_behind : (front rest : List ℕ) → 0 < length rest → 0 < length (front ++ rest)
some_behind front rest h = simp length-append (omega arith)

output_some : (ls : List Line) (w : Walk) (s : Sheet) → 0 < length (output_of w s ls)
unfolding output_of
output_some [] w s = sheet_some s
output_some (l ∷ ls) w s = by_cond {A = List ℕ} (λ t. 0 < length t) (too_far l) (λ e. some_behind (refusal_line l.number 10) (sheet_line s) (sheet_some s)) (λ e. some_behind _ _ (output_some ls _ _))

pub still_some : (st : State) (s : Sheet) (rest : List ℕ) → st.written ≡ false → 0 < length (remaining st s rest)
unfolding remaining
still_some st s rest e = rw e (by_cond {A = List ℕ} (λ t. 0 < length t) st.ended (λ e. sheet_some s) (λ e. output_some (lines_from st.lines st.bytes (gone_bytes st) rest) st.walk s))
