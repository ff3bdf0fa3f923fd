-- Document 02, CR 3, in the text program: the sign of an O line's A2 is that of the B line's kind, and a ring that is walked the other way, or from another of its
-- points, prints the same.
use mathlib.Core.Path.{◌≡◌, sym, ap, ◌∙◌}
use mathlib.Core.Bool.{true, cond}
use mathlib.Core.List.{List}
use lib.Dec.{eqb}
use Rattle.outline.specs.declared.Walk.{Walk}
use Rattle.outline.specs.declared.Sheet.{Sheet}
use Rattle.outline.specs.WalkCalls.{has_sign, end_call}
use Rattle.outline.specs.CallLists.{Trace}
use Rattle.outline.specs.WalkedOutline.{IsOutline}
use Rattle.outline.proofs.Rings.{sign_by_kind, same_count, walked_back}
use Rattle.printing.specs.Output.{outline_line, refusal_line}
use Rattle.text_program.specs.Program.{Line, carried_end, carry_out}
use Rattle.text_program.specs.RingLines.{PrintedBack}
use Rattle.text_program.proofs.OutputLaws.{after_lines, trace_after, ring_since, same_walk, is_outline, answered_for, end-answers}

-- ---- the sign

trace_sign : (r : Trace) (s : Sheet) → IsOutline r → (end_call r.walk s).number ≡ 0 → has_sign r.ring.kind (answered_for r.ring).a2 ≡ true
trace_sign r s o z =
    ap (λ e. has_sign r.ring.kind e.totals.a2) (sym (end-answers r s o z))
    ∙ ap (λ (w : Walk). has_sign w.kind (end_call r.walk s).totals.a2) (sym (o.is_walk (o.closable s z).is_open))
    ∙ sign_by_kind r.walk s z

-- The totals that an accepted end prints, after the lines `before` (see `outline_law`): their A2 is above 0 if the last accepted B line was of an island, and below 0 if
-- it was of a hole.
pub outline_sign : (before : List Line) → (let c = after_lines before in let g = ring_since before in (end_call c.walk c.sheet).number ≡ 0 → has_sign g.kind (answered_for g).a2 ≡ true)
outline_sign before = rw (← same_walk before) (trace_sign (trace_after before) (after_lines before).sheet (is_outline before))

-- ---- the other way

pub printed_back : PrintedBack
unfolding carry_out carried_end
printed_back first open-first second open-second kind start direction same line s =
    let e = walked_back first open-first second open-second kind start direction same s in
    let count = same_count first second start direction same open-first open-second in
    record {
      output = λ i. cond (eqb (e.number i) 0) (outline_line (e.sheet i).count (count i) (e.totals i)) (refusal_line line (e.number i));
      sheet = e.sheet;
    }
