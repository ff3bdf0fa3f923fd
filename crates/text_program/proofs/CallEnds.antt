-- Where a call of the streaming core stops: it has taken no more than the chunk and, where it had room to go on, has done all that it could.
use Prim.Native.Nat.{ℕ, zero, suc, ◌+◌, ◌-◌, ◌≤◌, ◌<◌}
use mathlib.Core.Path.{◌≡◌, refl}
use mathlib.Core.Bool.{Bool, true, false, cond, true≢false}
use mathlib.Core.List.{List}
use mathlib.Core.Logic.{◌⊎◌, inl, inr}
use native.Mathlib.Omega.{arith}
use native.Mathlib.Numerals.{add-two}
use lib.ListN.{length, drop, length-append, length-drop}
use lib.Seq.{drop-drop}
use lib.Dec.{ltb}
use borrow.Author.Tests.{ltb-true}
use Rattle.outline.specs.declared.Sheet.{Sheet}
use Rattle.printing.specs.Buffer.{line_room}
use Rattle.text_program.specs.declared.State.{State}
use Rattle.text_program.specs.Stream.{Step, followed, step, steps, feed_call}
use Rattle.integers.proofs.Cases.{by_cond}
use Rattle.text_program.proofs.Lines.{line_size}
use Rattle.text_program.proofs.TooFar.{near-bytes}
use Rattle.text_program.proofs.StepCases.{Reading, Present, StepCase, done, ended, last, waits, far, newline, unended, holds, step_case}
use Rattle.text_program.proofs.Steps.{steps_keep}
use Rattle.text_program.proofs.Progress.{work_left, NeedsInput, at_most_two, nothing_left, more_is_less, step_progress, steps_after, first_step}

-- ---- what is taken

case_used : {final : Bool} {st : State} {s : Sheet} {chunk : List ℕ} (r : Step) → StepCase final st s chunk r → r.used ≤ length chunk
case_used r (done e) = omega arith
case_used r (ended on e) = omega arith
case_used r (last q f h e) = omega arith
case_used r (waits q f h plain near) = omega arith
case_used r (far p e) = omega arith
case_used r (newline n h) = omega arith
case_used r (unended n f plain) = omega arith
case_used r (holds n f plain h) = omega arith

-- A call takes no more than the chunk.
pub step-used : (final : Bool) (st : State) (s : Sheet) (chunk : List ℕ) → (step final st s chunk).used ≤ length chunk
step-used final st s chunk = case_used (step final st s chunk) (step_case final st s chunk)

pub feed_used : (final : Bool) (st : State) (s : Sheet) (chunk : List ℕ) (room : ℕ) → (feed_call final st s chunk room).used ≤ length chunk
unfolding feed_call
feed_used final st s chunk room =
    steps_keep final (λ st s chunk room r. r.used ≤ length chunk)
    (record {
      none = λ st s chunk room. omega arith;
      one = λ st s chunk room h. case_used (step final st s chunk) (step_case final st s chunk);
      more = λ st s chunk room q h later. omega (arith, case_used (step final st s chunk) (step_case final st s chunk), simp length-drop at later);
    })
    (length chunk + 2) st s chunk room

-- ---- all that a call could do

-- Only reading helps, and 10 is not due.
pub record Waiting (final : Bool) (st : State) (chunk : List ℕ) : Type 0 where
  pub needs : NeedsInput final chunk
  pub reading : Reading st
  pub near : 0 < length chunk → st.bytes + st.gone + length chunk ≤ 33_000_000

-- S is written, or only reading helps.
abbrev pub Complete : Bool → List ℕ → Step → Type 0
Complete final chunk r = (r.state.written ≡ true) ⊎ Waiting final r.state (drop r.used chunk)

-- A step that does not go on has done all,
case_complete : {final : Bool} {st : State} {s : Sheet} {chunk : List ℕ} (r : Step) → StepCase final st s chunk r → r.more ≡ false → Complete final chunk r
case_complete r (done e) m = inl e
case_complete r (ended on e) m = inl refl
case_complete r (last q f h e) m = inl refl
case_complete {st = st} {chunk = chunk} r (waits q f h plain near) m =
    inr (record {
      needs = record { not_final = f; no_newline = plain; short = h };
      reading = q;
      near = λ some. omega (arith, near-bytes st.lines (st.bytes + st.gone + line_size chunk) (near some));
    })
case_complete r (far p e) m = absurd (true≢false m)
case_complete r (newline n h) m = absurd (true≢false m)
case_complete r (unended n f plain) m = absurd (true≢false m)
case_complete {chunk = chunk} r (holds n f plain h) m =
    let none = length-drop (line_size chunk) chunk in
    inr (record {
      needs = record { not_final = f; no_newline = omega arith; short = omega arith };
      reading = record { on = refl; reads = refl };
      near = λ some. absurd (omega arith);
    })

-- and so have enough steps, unless there is no room for another line.
steps_complete : (most : ℕ) (final : Bool) (st : State) (s : Sheet) (chunk : List ℕ) (room : ℕ) → work_left st chunk ≤ most → (let r = steps most final st s chunk room in line_room + length r.output ≤ room → Complete final chunk r)
unfolding steps
steps_complete zero final st s chunk room l = λ h. inl (nothing_left st chunk l)
steps_complete (suc most) final st s chunk room l =
    by_cond Stops (ltb room line_room) (λ e h. absurd (omega (arith, ltb-true room line_room e))) (λ e.
    by_cond Stops r.more
    (λ m h.
    let less = more_is_less (step_progress final st s chunk) m in
    rw drop-drop at (steps_complete most final r.state r.sheet (drop r.used chunk) (room - length r.output) (omega arith) (omega (arith, simp length-append at h))))
    (λ m h. case_complete r (step_case final st s chunk) m))
  where
    r : Step
    r = step final st s chunk

    Stops : Step → Type 0
    Stops q = line_room + length q.output ≤ room → Complete final chunk q

-- Where a call leaves room for another line, S is written or only reading helps.
pub feed_complete : (final : Bool) (st : State) (s : Sheet) (chunk : List ℕ) (room : ℕ) → (let r = feed_call final st s chunk room in line_room + length r.output ≤ room → Complete final chunk r)
unfolding feed_call
feed_complete final st s chunk room = steps_complete (length chunk + 2) final st s chunk room (omega (arith, at_most_two st))

-- ---- what a call does at least

-- S is written, a byte is taken, or only reading helps.
abbrev pub Advances : Bool → List ℕ → Step → Type 0
Advances final chunk r = (r.state.written ≡ true) ⊎ (0 < r.used) ⊎ NeedsInput final chunk

in_chunk : (final : Bool) {st : State} {chunk : List ℕ} → Present final st chunk → (final ≡ true → 0 < length chunk) → 0 < length chunk
in_chunk true p some = some refl
in_chunk false p some = p.bytes refl

case_advances : {final : Bool} {st : State} {s : Sheet} {chunk : List ℕ} (r : Step) → StepCase final st s chunk r → (final ≡ true → 0 < length chunk) → (q : Step) → Advances final chunk (cond r.more (followed r q) r)
case_advances r (done e) some q = inl e
case_advances r (ended on e) some q = inl refl
case_advances r (last p f h e) some q = inl refl
case_advances r (waits p f h plain near) some q = inr (inr (record { not_final = f; no_newline = plain; short = h }))
case_advances {final} r (far p e) some q = inr (inl (omega (arith, in_chunk final p some)))
case_advances r (newline n h) some q = inr (inl (omega arith))
case_advances r (unended n f plain) some q = inr (inl (omega (arith, some f)))
case_advances r (holds n f plain h) some q = inr (inl (omega (arith, n.present.bytes f)))

-- So it is for every call with room for a line, but one that is told the end of the input and has nothing in the chunk (proofs/LastCall).
pub feed_advances : (final : Bool) (st : State) (s : Sheet) (chunk : List ℕ) (room : ℕ) → line_room ≤ room → (final ≡ true → 0 < length chunk) → Advances final chunk (feed_call final st s chunk room)
unfolding feed_call
feed_advances final st s chunk room h some =
    let m = suc (length chunk) in
    let r = step final st s chunk in
    rw (add-two, first_step m final st s chunk room h) (case_advances r (step_case final st s chunk) some (steps_after m final r chunk room))
