-- However the input comes in pieces, and however short the room for output is at each call, what a run that ends has written is the program's output for the whole input.
use Prim.Native.Nat.{ℕ, zero, suc, ◌≤◌, ◌<◌}
use mathlib.Core.Path.{◌≡◌, refl, sym, ap, subst, ◌∙◌}
use mathlib.Core.Bool.{Bool, true, false, true≢false}
use mathlib.Core.List.{List, [], ◌++◌, append_assoc, append-nil}
use mathlib.Core.Logic.{◌⊎◌, inl, inr}
use native.Mathlib.Omega.{arith}
use lib.ListN.{take, drop}
use Rattle.outline.specs.declared.Sheet.{Sheet}
use Rattle.printing.specs.Buffer.{line_room}
use Rattle.text_program.specs.declared.State.{State}
use Rattle.text_program.specs.Program.{program}
use Rattle.text_program.specs.Stream.{Step, feed_call, remaining}
use Rattle.text_program.specs.Chunks.{Place, Run, here, reads, feeds, remaining_at, ChunksSoFar, Chunks, ChunksWithin, FinishingRun}
use Rattle.text_program.proofs.StepRemains.{Remains}
use Rattle.text_program.proofs.FeedRemains.{feed_remains}
use Rattle.text_program.proofs.ReadingFurther.{reading_further}
use Rattle.text_program.proofs.Progress.{work_left, NeedsInput, nothing_left, feed_progress}

-- What a run writes, and what is still to be written after it, is what was still to be written before.
pub run_writes : (p : Place) {st : State} {s : Sheet} {buffer unread out : List ℕ} → Run p st s buffer unread out → out ++ remaining_at p ≡ remaining st s (buffer ++ unread)
run_writes p here = refl
run_writes p {st} {s} {buffer} (reads {unread = u} piece run) = run_writes p run ∙ ap (remaining st s) (append_assoc buffer piece u)
run_writes p {st} {s} {buffer} {unread} (feeds {out = out} final room r end e run) =
    append_assoc r.output out (remaining_at p)
    ∙ ap (λ l. r.output ++ l) (run_writes p run)
    ∙ sym (subst (Remains st s buffer unread) (sym e) (feed_remains final st s buffer room unread end))

pub chunks_so_far : ChunksSoFar
unfolding remaining program
chunks_so_far p input out run = run_writes p run

-- Once the S line is written, nothing is still to be written.
pub chunks : Chunks
unfolding remaining
chunks p input out run e = sym (append-nil out) ∙ sym (ap (λ l. out ++ l) none) ∙ chunks_so_far p input out run
  where
    none : remaining_at p ≡ []
    none = rw e

pub chunks_within : ChunksWithin
chunks_within p input out run e = chunks p (take 33_000_001 input) out run e ∙ reading_further input

-- ---- runs come to an end

-- A run from here to where the S line is written.
abbrev Finish : State → Sheet → List ℕ → List ℕ → Type 0
Finish st s buffer unread = (p : Place) × (out : List ℕ) × (p.state.written ≡ true) × Run p st s buffer unread out

-- Calls until the S line is written, when all is read: each leaves less work.
finish : (room : ℕ) → line_room ≤ room → (most : ℕ) (st : State) (s : Sheet) (buffer : List ℕ) → work_left st buffer ≤ most → Finish st s buffer []
finish room h zero st s buffer l = (record { state = st; sheet = s; buffer = buffer; unread = [] }, [], nothing_left st buffer l, here)
finish room h (suc most) st s buffer l = go (finish room h most r.state r.sheet (drop r.used buffer)) st.written refl
  where
    r : Step
    r = feed_call true st s buffer room

    feed : (work_left r.state (drop r.used buffer) ≤ most → Finish r.state r.sheet (drop r.used buffer) []) → NeedsInput true buffer ⊎ (work_left r.state (drop r.used buffer) < work_left st buffer) → Finish st s buffer []
    feed others (inl w) = absurd (true≢false w.not_final)
    feed others (inr k) = let (p, out, e, run) = others (omega arith) in (p, r.output ++ out, e, feeds true room r (λ e. refl) refl run)

    go : (work_left r.state (drop r.used buffer) ≤ most → Finish r.state r.sheet (drop r.used buffer) []) → (b : Bool) → st.written ≡ b → Finish st s buffer []
    go others true e = (record { state = st; sheet = s; buffer = buffer; unread = [] }, [], e, here)
    go others false e = feed others (feed_progress true st s buffer room h e)

-- All that is left is read at once, and then there is room for a line at each call. That a program whose buffer is bounded ends is shown of `run` itself.
pub finishing_run : FinishingRun
finishing_run from =
    let all = from.buffer ++ from.unread in
    let (p, out, e, run) = finish line_room (omega arith) (work_left from.state all) from.state from.sheet all (omega arith) in
    (p, out, e, subst (λ l. Run p from.state from.sheet from.buffer l out) (append-nil from.unread) (reads from.unread run))
