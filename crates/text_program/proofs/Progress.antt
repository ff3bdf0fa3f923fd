-- Progress: each step that goes on, and each call with room for a line, leaves less work, unless only reading helps. So the steps that a call may make are no limit.
use Prim.Native.Nat.{ℕ, zero, suc, ◌+◌, ◌-◌, ◌≤◌, ◌<◌, min}
use mathlib.Core.Path.{◌≡◌, refl, sym, ap, ◌∙◌}
use mathlib.Core.Bool.{Bool, true, false, cond, true≢false}
use mathlib.Core.List.{List, []}
use mathlib.Core.Logic.{◌⊎◌, inl, inr}
use native.Mathlib.Omega.{arith}
use native.Mathlib.Numerals.{add-two}
use lib.ListN.{length, drop, length-append, length-drop}
use lib.Seq.{drop-drop}
use lib.Dec.{eqb, ltb}
use borrow.Author.Tests.{eqb-true, le-ltb}
use Rattle.outline.specs.declared.Sheet.{Sheet}
use Rattle.printing.specs.Buffer.{line_room}
use Rattle.text_program.specs.declared.State.{State}
use Rattle.newlines.specs.LineLength.{line_length}
use Rattle.text_program.specs.Stream.{Step, halted, followed, step, steps, feed_call}
use Rattle.integers.proofs.Cases.{by_cond, both_cond}
use Rattle.text_program.proofs.StepCases.{Reading, StepCase, done, ended, last, waits, far, newline, unended, holds, step_case}
use Rattle.text_program.proofs.Steps.{steps_keep}

-- The lines of the output that may still come when the chunk is gone: S, and before it one for a line whose bytes are gone.
abbrev pub lines_ahead : State → ℕ
lines_ahead st = cond st.written 0 (cond st.ended 1 (cond (eqb st.gone 0) 1 2))

-- What is left to do: the bytes of the chunk, and those lines.
abbrev pub work_left : State → List ℕ → ℕ
work_left st chunk = length chunk + lines_ahead st

-- Only reading helps: the chunk is not the end of the input, has no newline, and is short enough to be the front of a line with a form.
pub record NeedsInput (final : Bool) (chunk : List ℕ) : Type 0 where
  pub not_final : final ≡ false
  pub no_newline : length chunk ≤ line_length chunk
  pub short : length chunk ≤ 32

-- ---- one step

-- Both at the most.
pub at_most_two : (st : State) → lines_ahead st ≤ 2
at_most_two st = by_cond (λ n. n ≤ 2) st.written (λ e. omega arith) (λ e. by_cond (λ n. n ≤ 2) st.ended (λ f. omega arith) (λ f. by_cond (λ n. n ≤ 2) (eqb st.gone 0) (λ g. omega arith) (λ g. omega arith)))

module _ (st : State) (r : Reading st) (n : ℕ) where
  -- More than the S line is left where there is a line,
  line_ahead : 0 < st.gone + n → 1 < n + lines_ahead st
  line_ahead h = rw (r.on, r.reads) (by_cond (λ k. 1 < n + k) (eqb st.gone 0) (λ e. omega (arith, eqb-true st.gone 0 e)) (λ e. omega arith))

  -- and more than that where it is long and has bytes in the chunk.
  long_ahead : 0 < n → 32 < st.gone + n → 2 < n + lines_ahead st
  long_ahead h k = rw (r.on, r.reads) (by_cond (λ k. 2 < n + k) (eqb st.gone 0) (λ e. omega (arith, eqb-true st.gone 0 e)) (λ e. omega arith))

-- A step leaves all as it was, writes nothing and goes on no further, or leaves less work.
pub data StepProgress (final : Bool) (st : State) (chunk : List ℕ) (r : Step) : Type 0 where
  stays : r.more ≡ false → r.output ≡ [] → work_left r.state (drop r.used chunk) ≡ work_left st chunk → (st.written ≡ false → NeedsInput final chunk) → StepProgress final st chunk r
  less : work_left r.state (drop r.used chunk) < work_left st chunk → StepProgress final st chunk r

case_progress : (final : Bool) (st : State) (s : Sheet) (chunk : List ℕ) (r : Step) → StepCase final st s chunk r → StepProgress final st chunk r
case_progress final st s chunk r (done e) = stays refl refl refl (λ on. absurd (true≢false (sym e ∙ on)))
case_progress final st s chunk r (ended on e) = less (rw (on, e) (omega arith))
case_progress final st s chunk r (last q f h e) = less (rw (q.on, q.reads, h) (omega arith))
case_progress final st s chunk r (waits q f h plain near) = stays refl refl refl (λ on. record { not_final = f; no_newline = plain; short = h })
case_progress final st s chunk r (far p e) = less (rw length-drop (omega (arith, line_ahead st p.reading (length chunk) p.some)))
case_progress final st s chunk r (newline n h) = less (rw length-drop (omega (arith, line_ahead st n.present.reading 1 (omega arith))))
case_progress final st s chunk r (unended n f plain) = less (rw length-drop (omega (arith, line_ahead st n.present.reading (length chunk) n.present.some)))
case_progress final st s chunk r (holds n f plain h) = less (rw length-drop (omega (arith, at_most_two r.state, long_ahead st n.present.reading (length chunk) (n.present.bytes f) (omega arith))))

-- Every step does one or the other,
pub step_progress : (final : Bool) (st : State) (s : Sheet) (chunk : List ℕ) → StepProgress final st chunk (step final st s chunk)
step_progress final st s chunk = case_progress final st s chunk (step final st s chunk) (step_case final st s chunk)

-- and one that goes on leaves less.
pub more_is_less : {final : Bool} {st : State} {chunk : List ℕ} {r : Step} → StepProgress final st chunk r → r.more ≡ true → work_left r.state (drop r.used chunk) < work_left st chunk
more_is_less (stays m o e w) t = absurd (true≢false (sym t ∙ m))
more_is_less (less h) t = h

-- ---- calls

-- The steps after the step r.
abbrev pub steps_after : ℕ → Bool → Step → List ℕ → ℕ → Step
steps_after most final r chunk room = steps most final r.state r.sheet (drop r.used chunk) (room - length r.output)

-- No call leaves more work, and one that writes leaves less.
abbrev pub Onward : State → List ℕ → Step → Type 0
Onward st chunk r = work_left r.state (drop r.used chunk) + min 1 (length r.output) ≤ work_left st chunk

step_onward : {final : Bool} {st : State} {chunk : List ℕ} {r : Step} → StepProgress final st chunk r → Onward st chunk r
step_onward (stays m o e w) = omega (arith, ap length o)
step_onward (less h) = omega arith

steps_onward : (most : ℕ) (final : Bool) (st : State) (s : Sheet) (chunk : List ℕ) (room : ℕ) → Onward st chunk (steps most final st s chunk room)
steps_onward most final =
    steps_keep final (λ st s chunk room r. Onward st chunk r)
    (record {
      none = λ st s chunk room. omega arith;
      one = λ st s chunk room h. step_onward (step_progress final st s chunk);
      more = λ st s chunk room q h later. rw (← drop-drop, length-append) (omega (arith, step_onward (step_progress final st s chunk)));
    })
    most

pub feed_onward : (final : Bool) (st : State) (s : Sheet) (chunk : List ℕ) (room : ℕ) → Onward st chunk (feed_call final st s chunk room)
unfolding feed_call
feed_onward final st s chunk room = steps_onward (length chunk + 2) final st s chunk room

-- A call with room for a line makes a step, and goes on after it where the step says so.
pub first_step : (most : ℕ) (final : Bool) (st : State) (s : Sheet) (chunk : List ℕ) (room : ℕ) → line_room ≤ room → (let r = step final st s chunk in steps (suc most) final st s chunk room ≡ cond r.more (followed r (steps_after most final r chunk room)) r)
unfolding steps
first_step most final st s chunk room h = rw (le-ltb room line_room h)

first_progress : (most : ℕ) (final : Bool) (st : State) (chunk : List ℕ) (room : ℕ) → st.written ≡ false → (r : Step) → StepProgress final st chunk r → (let q = cond r.more (followed r (steps_after most final r chunk room)) r in NeedsInput final chunk ⊎ (work_left q.state (drop q.used chunk) < work_left st chunk))
first_progress most final st chunk room on r (stays m o e w) = inl (w on)
first_progress most final st chunk room on r (less h) =
    inr (by_cond (λ (q : Step). work_left q.state (drop q.used chunk) < work_left st chunk) r.more
    (λ m. rw (← drop-drop) (omega (arith, steps_onward most final r.state r.sheet (drop r.used chunk) (room - length r.output))))
    (λ m. h))

-- A call with room for a line, where S is not written yet, leaves less work, or only reading helps.
pub feed_progress : (final : Bool) (st : State) (s : Sheet) (chunk : List ℕ) (room : ℕ) → line_room ≤ room → st.written ≡ false → (let r = feed_call final st s chunk room in NeedsInput final chunk ⊎ (work_left r.state (drop r.used chunk) < work_left st chunk))
unfolding feed_call
feed_progress final st s chunk room h on = rw (add-two, first_step (suc (length chunk)) final st s chunk room h) (first_progress (suc (length chunk)) final st chunk room on (step final st s chunk) (step_progress final st s chunk))

-- ---- the number of steps that a call may make is no limit

-- Once S is written, nothing is done.
written_step : (final : Bool) (st : State) (s : Sheet) (chunk : List ℕ) → st.written ≡ true → step final st s chunk ≡ halted st s
unfolding step
written_step final st s chunk e = by_cond (λ r. r ≡ halted st s) st.written (λ t. refl) (λ f. absurd (true≢false (sym e ∙ f)))

written_steps : (most : ℕ) (final : Bool) (st : State) (s : Sheet) (chunk : List ℕ) (room : ℕ) → st.written ≡ true → steps most final st s chunk room ≡ halted st s
unfolding steps
written_steps zero final st s chunk room e = refl
written_steps (suc most) final st s chunk room e = rw (written_step final st s chunk e) (by_cond (λ r. r ≡ halted st s) (ltb room line_room) (λ h. refl) (λ h. refl))

-- Where no work is left, S is written.
pub nothing_left : (st : State) (chunk : List ℕ) → work_left st chunk ≤ 0 → st.written ≡ true
nothing_left st chunk h = go st.written (omega arith)
  where
    go : (b : Bool) → cond b 0 (cond st.ended 1 (cond (eqb st.gone 0) 1 2)) ≤ 0 → b ≡ true
    go true k = refl
    go false k = absurd (by_cond (λ n. n ≤ 0 → ⊥) st.ended (λ e l. omega arith) (λ e l. by_cond (λ n. n ≤ 0 → ⊥) (eqb st.gone 0) (λ f m. omega arith) (λ f m. omega arith) l) k)

-- Any two numbers of steps that are enough for the work do the same.
enough-steps : (a b : ℕ) (final : Bool) (st : State) (s : Sheet) (chunk : List ℕ) (room : ℕ) → work_left st chunk ≤ a → work_left st chunk ≤ b → steps a final st s chunk room ≡ steps b final st s chunk room
unfolding steps
enough-steps zero b final st s chunk room h k = sym (written_steps b final st s chunk room (nothing_left st chunk h))
enough-steps (suc a) zero final st s chunk room h k = written_steps (suc a) final st s chunk room (nothing_left st chunk k)
enough-steps (suc a) (suc b) final st s chunk room h k =
    let r = step final st s chunk in
    both_cond (λ q. q) (ltb room line_room) (λ e. refl) (λ e.
    both_cond (λ q. q) r.more
    (λ m.
    let l = more_is_less (step_progress final st s chunk) m in
    ap (followed r) (enough-steps a b final r.state r.sheet (drop r.used chunk) (room - length r.output) (omega arith) (omega arith)))
    (λ m. refl))

-- A call that might make more steps would do the same: two more than the chunk has bytes are enough.
pub feed_steps : (most : ℕ) (final : Bool) (st : State) (s : Sheet) (chunk : List ℕ) (room : ℕ) → length chunk + 2 ≤ most → steps most final st s chunk room ≡ feed_call final st s chunk room
unfolding feed_call
feed_steps most final st s chunk room h = enough-steps most (length chunk + 2) final st s chunk room (omega (arith, at_most_two st)) (omega (arith, at_most_two st))
