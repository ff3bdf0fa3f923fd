-- The laws of O lines and of rings walked the other way, with every quantifier left free, so that weaker laws are refused here.
use Prim.Native.Nat.{ℕ, ◌+◌}
use mathlib.Core.Path.{◌≡◌}
use mathlib.Core.Bool.{true}
use mathlib.Core.List.{List}
use lib.ListN.{length}
use Rattle.outline.specs.declared.Sheet.{Sheet}
use Rattle.outline.specs.Pieces.{start_at, Direction, walked}
use Rattle.outline.specs.WalkCalls.{has_sign, end_call}
use Rattle.outline.specs.CallLists.{Walking, reached}
use Rattle.parsing.specs.Grammar.{end, form_of}
use Rattle.printing.specs.Output.{outline_line}
use Rattle.text_program.specs.Program.{Line, carry_out}
use Rattle.text_program.proofs.LinesInTurn.{carried}
use Rattle.text_program.proofs.OutputLaws.{after_lines, ring_since, outlines_in, answered_for, outline_law}
use Rattle.text_program.proofs.RingLines.{outline_sign, printed_back}

module _ (first : Walking) (open-first : (reached first).walk.is_open ≡ true) (second : Walking) (open-second : (reached second).walk.is_open ≡ true) (kind : (reached second).ring.kind ≡ (reached first).ring.kind) (start : ℕ) (direction : Direction) (same : (reached second).ring.points ≡ start_at start (walked direction (reached first).ring.points)) where
  same_line : (n : ℕ) (s : Sheet) → (carry_out n end (reached first).walk s).output ≡ (carry_out n end (reached second).walk s).output
  same_line n s = (printed_back first open-first second open-second kind start direction same n s).output

  same_sheet : (n : ℕ) (s : Sheet) → (carry_out n end (reached first).walk s).sheet ≡ (carry_out n end (reached second).walk s).sheet
  same_sheet n s = (printed_back first open-first second open-second kind start direction same n s).sheet

signed_line : (before : List Line) → (end_call (after_lines before).walk (after_lines before).sheet).number ≡ 0 → has_sign (ring_since before).kind (answered_for (ring_since before)).a2 ≡ true
signed_line = outline_sign

outline_line_lem : (before : List Line) (l : Line) → form_of l.bytes ≡ end → (end_call (after_lines before).walk (after_lines before).sheet).number ≡ 0 → (carried (after_lines before).walk (after_lines before).sheet l).output ≡ outline_line (length (outlines_in before) + 1) (length (ring_since before).points) (answered_for (ring_since before))
outline_line_lem before l e z = (outline_law before l e z).1
