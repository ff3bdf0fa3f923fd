-- The ways that a step of the streaming core can go, each with what is known there. What is shown of steps goes by these cases.
use Prim.Native.Nat.{ℕ, ◌+◌, ◌≤◌, ◌<◌}
use mathlib.Core.Path.{◌≡◌, refl, sym, ◌∙◌}
use mathlib.Core.Bool.{Bool, true, false, not, ◌&&◌, true≢false}
use mathlib.Core.List.{List, []}
use native.Mathlib.Omega.{arith}
use lib.ListN.{length}
use lib.Dec.{eqb, ltb, leb}
use borrow.Author.Tests.{ltb-true, ltb-false, leb-true, leb-false, eqb-true, eqb-false}
use Rattle.integers.proofs.Flags.{and_left, and_right}
use Rattle.outline.specs.declared.Sheet.{Sheet}
use Rattle.text_program.specs.declared.State.{State}
use Rattle.newlines.specs.LineLength.{line_length}
use Rattle.text_program.specs.Stream.{Step, halted, closing, ending, whole, part, line_step, step}
use Rattle.integers.proofs.Cases.{by_cond, by_or, by_and}
use Rattle.text_program.proofs.Lines.{line_size}
use Rattle.text_program.proofs.TooFar.{beyond}

-- Neither 10 nor the S line has come.
pub record Reading (st : State) : Type 0 where
  pub on : st.written ≡ false
  pub reads : st.ended ≡ false

-- There is a line: bytes of it are in the chunk, or bytes of it are gone and the input has ended.
pub record Present (final : Bool) (st : State) (chunk : List ℕ) : Type 0 where
  pub reading : Reading st
  pub some : 0 < st.gone + length chunk
  pub bytes : final ≡ false → 0 < length chunk

-- It is not too far, as far as it has come.
pub record Near (final : Bool) (st : State) (chunk : List ℕ) : Type 0 where
  pub present : Present final st chunk
  pub near : beyond st.lines (st.bytes + st.gone + line_size chunk) ≡ false

-- A line without an end: the size of the bytes that are gone is all that is kept of it.
abbrev pub holding : State → Sheet → ℕ → Step
holding st s size = record { output = []; used = size; state = record { lines = st.lines; bytes = st.bytes; gone = st.gone + size; ended = false; written = false; walk = st.walk }; sheet = s; more = false }

-- One case for each way, with the step that it is.
pub data StepCase (final : Bool) (st : State) (s : Sheet) (chunk : List ℕ) : Step → Type 0 where
  -- The S line is written.
  done : st.written ≡ true → StepCase final st s chunk (halted st s)
  -- Reading has ended: the S line.
  ended : st.written ≡ false → st.ended ≡ true → StepCase final st s chunk (closing st s)
  -- The input has ended and nothing is left: the S line.
  last : Reading st → final ≡ true → st.gone ≡ 0 → length chunk ≡ 0 → StepCase final st s chunk (closing st s)
  -- The line may still have a form: more of it must be read.
  waits : Reading st → final ≡ false → length chunk ≤ 32 → length chunk ≤ line_length chunk → (0 < length chunk → beyond st.lines (st.bytes + st.gone + line_size chunk) ≡ false) → StepCase final st s chunk (halted st s)
  -- 10.
  far : Present final st chunk → beyond st.lines (st.bytes + st.gone + line_size chunk) ≡ true → StepCase final st s chunk (ending st s chunk)
  -- A line with its newline, or the last line without one.
  newline : Near final st chunk → line_length chunk < length chunk → StepCase final st s chunk (whole st s chunk (line_length chunk) (line_size chunk))
  unended : Near final st chunk → final ≡ true → length chunk ≤ line_length chunk → StepCase final st s chunk (whole st s chunk (line_length chunk) (line_size chunk))
  -- Part of a line that is too long for any form.
  holds : Near final st chunk → final ≡ false → length chunk ≤ line_length chunk → 32 < st.gone + line_size chunk → StepCase final st s chunk (holding st s (line_size chunk))

module _ (final : Bool) (st : State) (s : Sheet) (chunk : List ℕ) where
  part_case : Near final st chunk → final ≡ false → length chunk ≤ line_length chunk → StepCase final st s chunk (part st s (line_size chunk))
  part_case n f plain =
      by_cond (StepCase final st s chunk) (leb (st.gone + line_size chunk) 32)
      (λ e. waits n.present.reading f (omega (arith, leb-true (st.gone + line_size chunk) 32 e)) plain (λ h. n.near))
      (λ e. holds n f plain (leb-false (st.gone + line_size chunk) 32 e))

  line_case : Present final st chunk → StepCase final st s chunk (line_step final st s chunk)
  unfolding line_step
  line_case p =
      let k = line_length chunk in
      by_cond (StepCase final st s chunk) (beyond st.lines (st.bytes + st.gone + line_size chunk)) (far p)
      (λ e.
      let n : Near final st chunk = record { present = p; near = e } in
      by_or (StepCase final st s chunk) (ltb k (length chunk)) final
      (λ t. newline n (ltb-true k (length chunk) t))
      (λ t f. unended n f (ltb-false k (length chunk) t))
      (λ t f. part_case n f (ltb-false k (length chunk) t)))

  -- Every step is one of them.
  pub step_case : StepCase final st s chunk (step final st s chunk)
  unfolding step
  step_case =
      by_cond (StepCase final st s chunk) st.written done (λ on.
      by_cond (StepCase final st s chunk) st.ended (ended on) (λ e.
      let r : Reading st = record { on = on; reads = e } in
      by_and (StepCase final st s chunk) final (eqb (length chunk) 0 && eqb st.gone 0)
      (λ f t. last r f (eqb-true st.gone 0 (and_right (eqb (length chunk) 0) (eqb st.gone 0) t)) (eqb-true (length chunk) 0 (and_left (eqb (length chunk) 0) (eqb st.gone 0) t)))
      (λ f.
      by_and (StepCase final st s chunk) (not final) (eqb (length chunk) 0)
      (λ g t. let empty : length chunk ≡ 0 = eqb-true (length chunk) 0 t in waits r f (omega arith) (omega arith) (λ h. absurd (omega arith)))
      (λ g. absurd (true≢false (rw f at g)))
      (λ g t. line_case (record { reading = r; some = omega (arith, eqb-false (length chunk) 0 t); bytes = λ e. omega (arith, eqb-false (length chunk) 0 t) })))
      (λ f t.
      by_and (StepCase final st s chunk) (not final) (eqb (length chunk) 0)
      (λ g. absurd (true≢false (sym (rw f at g))))
      (λ g. line_case (record { reading = r; some = some_left (eqb (length chunk) 0) refl t; bytes = λ e. absurd (true≢false (sym f ∙ e)) }))
      (λ g. absurd (true≢false (sym (rw f at g)))))))
    where
      some_left : (z : Bool) → eqb (length chunk) 0 ≡ z → (z && eqb st.gone 0) ≡ false → 0 < st.gone + length chunk
      some_left true e t = omega (arith, eqb-false st.gone 0 t)
      some_left false e t = omega (arith, eqb-false (length chunk) 0 e)
