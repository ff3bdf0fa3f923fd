-- One step of the streaming core, for every state: what was still to be written is what the step writes, and then what is still to be written.
use Prim.Native.Nat.{ℕ, ◌+◌, ◌≤◌, ◌<◌}
use mathlib.Core.Path.{◌≡◌, refl, sym, ap, subst, ◌∙◌}
use mathlib.Core.Bool.{Bool, true, false}
use mathlib.Core.List.{List, [], ◌∷◌, ◌++◌, append-nil}
use native.Mathlib.Omega.{arith}
use lib.ListN.{length, take, drop, replicate, length-append, length-replicate}
use lib.Seq.{drop-length}
use Rattle.outline.specs.declared.Sheet.{Sheet}
use Rattle.text_program.specs.declared.State.{State}
use Rattle.printing.specs.Output.{sheet_line}
use Rattle.text_program.specs.Program.{lines_from, output_of}
use Rattle.newlines.specs.LineLength.{line_length}
use Rattle.text_program.specs.Stream.{Step, closing, ending, whole, gone_bytes, step, remaining}
use Rattle.text_program.proofs.Lines.{line_size, FirstLine, lines-part, lines-whole, lines-last}
use Rattle.text_program.proofs.TooFar.{beyond, near-output, far_remains}
use Rattle.text_program.proofs.LongLine.{long_held}
use Rattle.text_program.proofs.StepCases.{Reading, Present, Near, holding, StepCase, done, ended, last, waits, far, newline, unended, holds, step_case}

-- The step r on the front of a chunk, `rest` being what comes after the chunk: what was still to be written before it is what r writes, and then what is
-- still to be written after it.
abbrev pub Remains : State → Sheet → List ℕ → List ℕ → Step → Type 0
Remains st s chunk rest r = remaining st s (chunk ++ rest) ≡ r.output ++ remaining r.state r.sheet (drop r.used chunk ++ rest)

-- ---- each way that a step can go

module _ (st : State) (s : Sheet) where
  -- Reading has ended: the S line is all that is left.
  ended_remains : (chunk rest : List ℕ) → st.written ≡ false → st.ended ≡ true → Remains st s chunk rest (closing st s)
  unfolding remaining
  ended_remains chunk rest on e = rw (on, e) (sym (append-nil (sheet_line s)))

  reads : (rest : List ℕ) → Reading st → remaining st s rest ≡ output_of st.walk s (lines_from st.lines st.bytes (gone_bytes st) rest)
  unfolding remaining
  reads rest r = rw (r.on, r.reads)

  last_remains : (chunk rest : List ℕ) → Reading st → st.gone ≡ 0 → length chunk ≡ 0 → rest ≡ [] → Remains st s chunk rest (closing st s)
  unfolding remaining lines_from output_of
  last_remains [] rest r h e end = rw (r.on, r.reads, h, end) (sym (append-nil (sheet_line s)))
  last_remains (b ∷ chunk) rest r h e end = absurd (omega arith)

  held-length : length (gone_bytes st) ≡ st.gone
  held-length = length-replicate st.gone 0

  far-step : {final : Bool} (chunk rest : List ℕ) → Present final st chunk → beyond st.lines (st.bytes + st.gone + line_size chunk) ≡ true → Remains st s chunk rest (ending st s chunk)
  unfolding remaining
  far-step chunk rest p e = reads (chunk ++ rest) p.reading ∙ far_remains st.walk s st.lines st.bytes (gone_bytes st) chunk rest (rw held-length p.some) (rw held-length e)

  whole_remains : {final : Bool} (chunk rest : List ℕ) → Near final st chunk → FirstLine st.lines st.bytes (gone_bytes st) chunk rest → Remains st s chunk rest (whole st s chunk (line_length chunk) (line_size chunk))
  unfolding remaining
  whole_remains chunk rest n first =
      reads (chunk ++ rest) n.present.reading
      ∙ ap (output_of st.walk s) (rw held-length at first)
      ∙ near-output st.walk s st.lines (st.bytes + st.gone + line_size chunk) (gone_bytes st ++ take (line_length chunk) chunk) (lines_from (st.lines + 1) (st.bytes + st.gone + line_size chunk) [] (drop (line_size chunk) chunk ++ rest)) n.near

  unended_remains : {final : Bool} (chunk : List ℕ) → Near final st chunk → length chunk ≤ line_length chunk → Remains st s chunk [] (whole st s chunk (line_length chunk) (line_size chunk))
  unended_remains chunk n plain = whole_remains chunk [] n (lines-last st.lines st.bytes (gone_bytes st) chunk plain (rw held-length n.present.some))

  held_remains : (chunk rest : List ℕ) → Reading st → length chunk ≤ line_length chunk → 32 < st.gone + line_size chunk → Remains st s chunk rest (holding st s (line_size chunk))
  unfolding remaining
  held_remains chunk rest r plain h =
      let all : line_size chunk ≡ length chunk = omega arith in
      let size : length (gone_bytes st ++ chunk) ≡ st.gone + length chunk = length-append (gone_bytes st) chunk ∙ ap (λ n. n + length chunk) held-length in
      reads (chunk ++ rest) r
      ∙ ap (output_of st.walk s) (lines-part st.lines st.bytes (gone_bytes st) chunk rest plain)
      ∙ long_held st.walk s st.lines st.bytes (gone_bytes st ++ chunk) (replicate (st.gone + length chunk) 0) rest (size ∙ sym (length-replicate (st.gone + length chunk) 0)) (omega arith)
      ∙ rw (all, drop-length)

-- ---- every step

case_remains : (final : Bool) (st : State) (s : Sheet) (chunk rest : List ℕ) → (final ≡ true → rest ≡ []) → (r : Step) → StepCase final st s chunk r → Remains st s chunk rest r
case_remains final st s chunk rest end r (done e) = refl
case_remains final st s chunk rest end r (ended on e) = ended_remains st s chunk rest on e
case_remains final st s chunk rest end r (last q f h e) = last_remains st s chunk rest q h e (end f)
case_remains final st s chunk rest end r (waits q f h plain near) = refl
case_remains final st s chunk rest end r (far p e) = far-step st s chunk rest p e
case_remains final st s chunk rest end r (newline n h) = whole_remains st s chunk rest n (lines-whole st.lines st.bytes (gone_bytes st) chunk rest h)
case_remains final st s chunk rest end r (unended n f plain) = subst (λ l. Remains st s chunk l r) (sym (end f)) (unended_remains st s chunk n plain)
case_remains final st s chunk rest end r (holds n f plain h) = held_remains st s chunk rest n.present.reading plain h

-- For every state, sheet and chunk, and for whatever comes after the chunk: nothing where the chunk is the end of the input.
pub step_remains : (final : Bool) (st : State) (s : Sheet) (chunk rest : List ℕ) → (final ≡ true → rest ≡ []) → Remains st s chunk rest (step final st s chunk)
step_remains final st s chunk rest end = case_remains final st s chunk rest end (step final st s chunk) (step_case final st s chunk)
