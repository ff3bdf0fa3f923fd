-- While reading goes on, a call loses count of no byte: those that it takes are counted in the state.
use Prim.Native.Nat.{ℕ, ◌+◌, ◌≤◌}
use mathlib.Core.Path.{◌≡◌, refl, ◌∙◌}
use mathlib.Core.Bool.{Bool, false, true≢false}
use mathlib.Core.List.{List}
use native.Mathlib.Omega.{arith}
use lib.ListN.{length, drop, length-drop}
use lib.Seq.{drop-drop}
use Rattle.outline.specs.declared.Sheet.{Sheet}
use Rattle.text_program.specs.declared.State.{State}
use Rattle.text_program.specs.Stream.{Step, step, feed_call}
use Rattle.text_program.proofs.Lines.{line_size}
use Rattle.text_program.proofs.TooFar.{near-bytes}
use Rattle.text_program.proofs.StepCases.{Near, StepCase, done, ended, last, waits, far, newline, unended, holds, step_case}
use Rattle.text_program.proofs.Steps.{steps_keep}

-- The bytes of the input up to the end of the chunk: those of whole lines, those that are gone of a line, and the chunk.
abbrev pub bytes_read : State → List ℕ → ℕ
bytes_read st chunk = st.bytes + st.gone + length chunk

pub record Counted (st : State) (chunk : List ℕ) (r : Step) : Type 0 where
  pub reads : st.ended ≡ false
  pub same : bytes_read r.state (drop r.used chunk) ≡ bytes_read st chunk
  pub within : st.bytes + st.gone ≤ 33_000_000 → r.state.bytes + r.state.gone ≤ 33_000_000

module _ (final : Bool) (st : State) (s : Sheet) (chunk : List ℕ) where
  -- A line that is taken, whole or in part.
  counted_line : (r : Step) → Near final st chunk → r.used ≡ line_size chunk → r.state.bytes + r.state.gone ≡ st.bytes + st.gone + line_size chunk → Counted st chunk r
  counted_line r n u e = record { reads = n.present.reading.reads; same = rw length-drop (omega arith); within = λ h. omega (arith, near-bytes st.lines (st.bytes + st.gone + line_size chunk) n.near) }

  case_counted : (r : Step) → StepCase final st s chunk r → r.state.ended ≡ false → Counted st chunk r
  case_counted r (done e) on = record { reads = on; same = refl; within = λ h. h }
  case_counted r (ended w e) on = absurd (true≢false on)
  case_counted r (last q f h e) on = absurd (true≢false on)
  case_counted r (waits q f h plain near) on = record { reads = on; same = refl; within = λ h. h }
  case_counted r (far p e) on = absurd (true≢false on)
  case_counted r (newline n h) on = counted_line r n refl (omega arith)
  case_counted r (unended n f plain) on = counted_line r n refl (omega arith)
  case_counted r (holds n f plain h) on = counted_line r n refl (omega arith)

-- So it is of every call after which reading goes on.
pub feed_counted : (final : Bool) (st : State) (s : Sheet) (chunk : List ℕ) (room : ℕ) → (let r = feed_call final st s chunk room in r.state.ended ≡ false → Counted st chunk r)
unfolding feed_call
feed_counted final st s chunk room =
    steps_keep final (λ st s chunk room r. r.state.ended ≡ false → Counted st chunk r)
    (record {
      none = λ st s chunk room on. record { reads = on; same = refl; within = λ h. h };
      one = λ st s chunk room h. case_counted final st s chunk (step final st s chunk) (step_case final st s chunk);
      more = λ st s chunk room q h later on.
          let l = later on in
          let k = case_counted final st s chunk (step final st s chunk) (step_case final st s chunk) l.reads in
          record { reads = k.reads; same = rw (← drop-drop) (l.same ∙ k.same); within = λ h. l.within (k.within h) };
    })
    (length chunk + 2) st s chunk room
