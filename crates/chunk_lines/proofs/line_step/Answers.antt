-- `chunk_lines::line_step` meets its contract: the tests go the ways of the definition.
use Prim.Native.Nat.{ℕ, ◌-◌, ◌+◌, min}
use mathlib.Core.Path.{◌≡◌}
use mathlib.Core.List.{List}
use native.Mathlib.Omega.{arith}
use lib.ListN.{length, drop, length-drop}
use Rattle.integers.proofs.Flags.{tells}
use Rattle.std.specs.Prelude.{Option, None, Some}
use Rattle.parsing.specs.declared.Line.{Line}
use Rattle.newlines.specs.LineLength.{line_length}
use Rattle.parsing.specs.ReadForm.{form_at, reading}
use Rattle.chunk_lines.proofs.FormsRead.{same_form}
use Rattle.chunk_lines.proofs.StepAnswers.{same_step, partly}
use Rattle.chunk_lines.proofs.LineLaws.{Found, counts, goes_too_far, goes_partly, goes_whole}
use Rattle.chunk_lines.proofs.line_step.Goals as goal

-- What is found of the line.
find : (chunk : List ℕ) (at : ℕ) {form : Option Line} {whole left size : ℕ} → reading form ≡ form_at chunk at → whole ≡ line_length (drop at chunk) + 1 → left ≡ length chunk - at → size ≡ min whole left → Found (drop at chunk) form whole left size
find chunk at {form} read all past here =
    record {
      is_form = same_form chunk at form read;
      all_bytes = all;
      all_left = omega (arith, length-drop at chunk, past);
      bytes-here = here;
    }

-- Neither limit is reached past the first return, so the counters have room there.

pub returns-then-past_limit : goal.returns-then-past_limit
returns-then-past_limit c =
    let a = c.args in
    let found = find a.chunk.now a.at c.line_form-form.ensures c.line_size-whole.ensures c.saturating_sub-left.ensures c.min-size.ensures in
    same_step (goes_too_far a.last a.state a.sheet found (tells c.past_limit.ensures c.if-past_limit.true)) c.end_reading.ensures

pub part_of_line-requires : goal.part_of_line-requires
part_of_line-requires c =
    let a = c.args in
    let found = find a.chunk.now a.at c.line_form-form.ensures c.line_size-whole.ensures c.saturating_sub-left.ensures c.min-size.ensures in
    counts a.last a.state a.sheet found (tells c.past_limit.ensures c.if-past_limit.false)

pub returns-then-unended : goal.returns-then-unended
returns-then-unended c =
    let a = c.args in
    let found = find a.chunk.now a.at c.line_form-form.ensures c.line_size-whole.ensures c.saturating_sub-left.ensures c.min-size.ensures in
    let near = tells c.past_limit.ensures c.if-past_limit.false in
    same_step (goes_partly a.last a.state a.sheet found near (tells c.unended.ensures c.if-unended.true)) (partly a.state a.sheet c.min-size.result c.part_of_line.ensures)

pub whole_line-requires : goal.whole_line-requires
whole_line-requires c =
    let a = c.args in
    let found = find a.chunk.now a.at c.line_form-form.ensures c.line_size-whole.ensures c.saturating_sub-left.ensures c.min-size.ensures in
    counts a.last a.state a.sheet found (tells c.past_limit.ensures c.if-past_limit.false)

pub returns : goal.returns
returns c =
    let a = c.args in
    let found = find a.chunk.now a.at c.line_form-form.ensures c.line_size-whole.ensures c.saturating_sub-left.ensures c.min-size.ensures in
    let near = tells c.past_limit.ensures c.if-past_limit.false in
    same_step (goes_whole a.last a.state a.sheet found near (tells c.unended.ensures c.if-unended.false)) (rw c.with_gone.ensures at c.whole_line.ensures)
