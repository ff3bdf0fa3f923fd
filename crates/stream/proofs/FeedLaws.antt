-- A call is its first step, and the rest of the call where the step goes on.
use Prim.Native.Nat.{ℕ, suc, ◌+◌, ◌-◌, ◌≤◌, ◌<◌}
use mathlib.Core.Path.{◌≡◌, refl, sym, ap, ap₂, ◌∙◌}
use mathlib.Core.Bool.{Bool, true, false, cond}
use mathlib.Core.List.{List, [], ◌++◌, append_assoc}
use native.Mathlib.Omega.{arith}
use lib.Dec.{ltb}
use borrow.Author.Tests.{le-ltb, ltb-false}
use lib.ListN.{length, drop, length-append, length-drop}
use lib.Seq.{drop-drop}
use Rattle.outline.specs.declared.Sheet.{Sheet}
use Rattle.printing.specs.Buffer.{line_room, fitting}
use Rattle.decimals.specs.Buffer.{overwritten, Written}
use Rattle.integers.proofs.Cases.{by_cond}
use Rattle.decimals.proofs.BufferLaws.{none_written, then}
use Rattle.text_program.specs.declared.State.{State}
use Rattle.text_program.specs.Stream.{Step, halted, followed, step, steps, feed_call}
use Rattle.text_program.proofs.Progress.{work_left, StepProgress, stays, less, step_progress, feed_steps}
use Rattle.text_program.proofs.CallEnds.{step-used}
use Rattle.chunk_lines.specs.declared.Stepped.{Stepped}
use Rattle.chunk_lines.specs.Stepping.{Steps}
use Rattle.stream.specs.private.RoomForLine.{step_with_room}

-- A step after which `text` is written and `used` bytes are taken, and then q.
abbrev pub after : List ℕ → ℕ → Step → Step
after text used q = record { output = text ++ q.output; used = used + q.used; state = q.state; sheet = q.sheet; more = q.more }

module _ (final : Bool) (st : State) (s : Sheet) (chunk : List ℕ) (room : ℕ) where
  -- The call from where a step has come to.
  abbrev rest_of_call : Step → Step
  rest_of_call q = feed_call final q.state q.sheet (drop q.used chunk) (room - length q.output)

  pub first_then_rest : (let q = step_with_room final st s chunk room in feed_call final st s chunk room ≡ cond q.more (after q.output q.used (rest_of_call q)) q)
  unfolding step_with_room steps
  first_then_rest = sym (feed_steps (suc (length chunk + 2)) final st s chunk room (omega arith)) ∙ go (ltb room line_room)
    where
      r : Step
      r = step final st s chunk

      go : (t : Bool) → cond t (halted st s) (cond r.more (followed r (steps (length chunk + 2) final r.state r.sheet (drop r.used chunk) (room - length r.output))) r) ≡ (let q = cond t (halted st s) r in cond q.more (after q.output q.used (rest_of_call q)) q)
      go true = refl
      go false = ap (λ q. cond r.more (followed r q) r) (feed_steps (length chunk + 2) final r.state r.sheet (drop r.used chunk) (room - length r.output) (omega (arith, length-drop r.used chunk)))

  -- A step takes no more than the chunk,
  pub takes_within : (step_with_room final st s chunk room).used ≤ length chunk
  unfolding step_with_room
  takes_within = by_cond (λ (q : Step). q.used ≤ length chunk) (ltb room line_room) (λ e. omega arith) (λ e. step-used final st s chunk)

  -- and where it goes on, less work is left.
  pub leaves_less : (let q = step_with_room final st s chunk room in work_left q.state (drop q.used chunk) + cond q.more 1 0 < work_left st chunk + 1)
  unfolding step_with_room
  leaves_less = by_cond (λ (q : Step). work_left q.state (drop q.used chunk) + cond q.more 1 0 < work_left st chunk + 1) (ltb room line_room) (λ e. omega arith) (λ e. go (step final st s chunk) (step_progress final st s chunk))
    where
      go : (q : Step) → StepProgress final st chunk q → work_left q.state (drop q.used chunk) + cond q.more 1 0 < work_left st chunk + 1
      go q (stays m o e w) = rw m (omega arith)
      go q (less h) = by_cond (λ n. work_left q.state (drop q.used chunk) + n < work_left st chunk + 1) q.more (λ m. omega arith) (λ m. omega arith)

-- What a step prints is written whole: where there is no room for the longest line, it prints nothing.
pub written_whole : (final : Bool) (st : State) (s : Sheet) (chunk out : List ℕ) (to : ℕ) → to ≤ length out → (let text = (step_with_room final st s chunk (length out - to)).output in fitting out to text ≡ text)
unfolding fitting step_with_room
written_whole final st s chunk out to h = go (ltb (length out - to) line_room) refl
  where
    go : (t : Bool) → ltb (length out - to) line_room ≡ t → (let text = (cond t (halted st s) (step final st s chunk)).output in cond (ltb (length out) (to + line_room)) [] text ≡ text)
    go true e = by_cond (λ (text : List ℕ). text ≡ []) (ltb (length out) (to + line_room)) (λ f. refl) (λ f. refl)
    go false e = rw (le-ltb (length out) (to + line_room) (omega (arith, ltb-false (length out - to) line_room e)))

-- ---- a call so far

-- `text` is written and `at` bytes are taken; the whole call is that and what is still to do, if anything is.
pub record SoFar (final : Bool) (st₀ : State) (s₀ : Sheet) (chunk before after-it : List ℕ) (st : State) (s : Sheet) (at to : ℕ) (more : Bool) : Type 0 where
  pub text : List ℕ
  pub place : at ≤ length chunk
  pub long : length after-it ≡ length before
  pub written : Written before 0 text after-it to
  pub whole : feed_call final st₀ s₀ chunk (length before) ≡ cond more (after text at (feed_call final st s (drop at chunk) (length before - to))) (record { output = text; used = at; state = st; sheet = s; more = false })

-- Before the first step.
pub none_yet : (final : Bool) (st : State) (s : Sheet) (chunk out : List ℕ) → SoFar final st s chunk out out st s 0 0 true
none_yet final st s chunk out =
    let room : length out ≡ length out - 0 = omega arith in
    let q = feed_call final st s chunk (length out) in
    let used : q.used ≡ 0 + q.used = omega arith in
    record {
      text = [];
      place = omega arith;
      long = refl;
      written = none_written out 0;
      whole = ap (λ n. record { output = q.output; used = n; state = q.state; sheet = q.sheet; more = q.more }) used ∙ ap (λ n. after [] 0 (feed_call final st s chunk n)) room;
    }

-- A text that is as long as what it replaces ends in the buffer.
ends_within : (o x : List ℕ) → length (overwritten o 0 x) ≡ length o → length x ≤ length o
unfolding overwritten
ends_within o x e = omega (arith, simp length-append at e)

after-after : (x y : List ℕ) (m n : ℕ) (q : Step) → after x m (after y n q) ≡ after (x ++ y) (m + n) q
after-after x y m n q = let sum : m + (n + q.used) ≡ m + n + q.used = omega arith in ap₂ (λ l i. record { output = l; used = i; state = q.state; sheet = q.sheet; more = q.more }) (sym (append_assoc x y q.output)) sum

-- One step more.
module _ {final : Bool} {st₀ : State} {s₀ : Sheet} {chunk before out : List ℕ} {st : State} {s : Sheet} {at to : ℕ} (k : SoFar final st₀ s₀ chunk before out st s at to true) where
  abbrev next : Step
  next = step_with_room final st s (drop at chunk) (length out - to)

  module _ {out' : List ℕ} {to' : ℕ} (e : length out' ≡ length out) (w : Written out to next.output out' to') where
    onward : (b : Bool) → next.more ≡ b → after k.text at (cond b (after next.output next.used (rest_of_call final st s (drop at chunk) (length out - to) next)) next) ≡ cond b (after (k.text ++ next.output) (at + next.used) (feed_call final next.state next.sheet (drop (at + next.used) chunk) (length before - to'))) (record { output = k.text ++ next.output; used = at + next.used; state = next.state; sheet = next.sheet; more = false })
    onward true m =
        let room : length out - to - length next.output ≡ length before - to' = omega (arith, k.long, w.end) in
        after-after k.text next.output at next.used (rest_of_call final st s (drop at chunk) (length out - to) next)
        ∙ ap₂ (λ l n. after (k.text ++ next.output) (at + next.used) (feed_call final next.state next.sheet l n)) (drop-drop next.used at chunk) room
    onward false m = ap (λ b. record { output = k.text ++ next.output; used = at + next.used; state = next.state; sheet = next.sheet; more = b }) m

    pub one_more : SoFar final st₀ s₀ chunk before out' next.state next.sheet (at + next.used) to' next.more
    one_more =
        record {
          text = k.text ++ next.output;
          place = omega (arith, takes_within final st s (drop at chunk) (length out - to), length-drop at chunk, k.place);
          long = e ∙ k.long;
          written = then (omega arith) k.written w;
          whole = k.whole ∙ ap (λ n. after k.text at (feed_call final st s (drop at chunk) (n - to))) (sym k.long) ∙ ap (after k.text at) (first_then_rest final st s (drop at chunk) (length out - to)) ∙ onward next.more refl;
        }

  -- The place in the buffer is in it.
  pub to_within : to ≤ length out
  to_within = omega (arith, ends_within before k.text (ap length (sym k.written.buffer) ∙ k.long), k.written.end, k.long)

  -- The step that the code has taken.
  module _ {out' : List ℕ} {r : Stepped} (h : Steps next out to out' r) where
    pub step_within : at + r.used ≤ length chunk
    step_within = rw h.answer (omega (arith, takes_within final st s (drop at chunk) (length out - to), length-drop at chunk, k.place))

    pub step_less : work_left r.state (drop (at + r.used) chunk) + cond r.more 1 0 < work_left st (drop at chunk) + 1
    step_less = rw (h.answer, ← drop-drop) (leaves_less final st s (drop at chunk) (length out - to))

    pub step-more : length out' ≡ length out → SoFar final st₀ s₀ chunk before out' r.state r.sheet (at + r.used) r.filled r.more
    step-more e =
        let whole = written_whole final st s (drop at chunk) out to to_within in
        rw (h.answer, whole) (one_more e (record { buffer = rw whole at h.buffer; end = refl }))
