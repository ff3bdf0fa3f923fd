use Prim.Native.Nat.{ℕ, ◌+◌, ◌-◌, ◌≤◌}
use mathlib.Core.Path.{◌≡◌, refl, ap, subst, ◌∙◌}
use mathlib.Core.Bool.{Bool, true, false}
use mathlib.Core.List.{List}
use native.Mathlib.Omega.{arith}
use lib.IntN.{ℤ, pos}
use lib.ListN.{length, take, drop}
use lib.Seq.{length-take-le}
use borrow.Author.Rules.{rules}
use borrow.Rule.Slice.PartMut.{mid_len}
use Rattle.std.specs.Prelude.{Option, Some, IfSome, Result, Ok, Err, OnErr, is_ok, is_err}
use Rattle.std.specs.Option.{unwrap_or}
use Rattle.std.specs.Io.KnownBytes.{Appends}
use Rattle.decimals.proofs.BufferLaws.{in_front}
use Rattle.outline.specs.declared.Sheet.{Sheet}
use Rattle.printing.specs.Buffer.{line_room}
use Rattle.text_program.specs.declared.State.{State}
use Rattle.text_program.specs.Stream.{feed_call}
use Rattle.text_program.specs.Program.{program}
use Rattle.stream.specs.declared.Fed.{Fed}
use Rattle.stream.specs.Feeding.{Feeds}
use Rattle.plots.proofs.Turns.{start-possible, BeforeRead, AfterCall, after_call}
use Rattle.plots.specs.Front.{AppendsFront}
use Rattle.plots.proofs.SoFar.{SoFar, at-start, at_return, finished, stopped, cut_short, left, moved, after_write, after_read}
use Rattle.plots.proofs.run.Invariants.{Kept}
use Rattle.plots.proofs.run.Goals as goal

-- Whatever the error is.
on_error : {T E P : Type 0} (r : Result T E) → P → OnErr r P
on_error (Ok t) p = tt
on_error (Err e) p = p

-- ---- what is known in a turn: after the call, after the write, and where the bytes that are left stand at the front

module _ {unread₀ held₀ unread held : Option (List ℕ)} {buf₀ out₀ buf out : List ℕ} {st : State} {s : Sheet} {at have : ℕ} {last : Bool} (k : Kept unread₀ held₀ unread held buf₀ out₀ buf out st s at have last) (size : 65536 ≡ length out₀) {after : List ℕ} {r : Fed} (f : Feeds (feed_call last st s (take (have - at) (drop at buf)) (length out)) out after r) where
  fed : AfterCall last st (have - at) (length out) r
  fed =
      subst (λ n. AfterCall last st n (length out) r) (mid_len at have buf k.inside)
      (after_call last st s (take (have - at) (drop at buf)) (length out) (omega (arith, k.out_size)) k.possible r f.answer)

  within : at + r.used ≤ have
  within = omega (arith, fed.taken, k.order)

  -- The call and the write are steps: the write is to standard output, and is whole.
  written : {held' : Option (List ℕ)} (descriptor : Option ℤ) → descriptor ≡ Some (pos 1) → (whole : Bool) → whole ≡ true → Appends held held' (take r.filled after) → SoFar unread₀ held₀ unread held' last r.state r.sheet (take (have - (at + r.used)) (drop (at + r.used) buf))
  written {held'} descriptor d whole w a =
      subst (SoFar unread₀ held₀ unread held' last r.state r.sheet) (left buf at have r.used within)
      (after_write unread₀ held₀ unread held held' last st s (take (have - at) (drop at buf)) out after r (unwrap_or descriptor (pos 0)) (take r.filled after) whole f (ap (λ o. unwrap_or o (pos 0)) d) refl w a k.so_far)

  -- What the call put stands at the front of the output's buffer.
  put : take r.filled after ≡ (feed_call last st s (take (have - at) (drop at buf)) (length out)).output
  put = let size = ap (λ (r : Fed). r.filled) f.answer in in_front {n = r.filled} (record { buffer = f.buffer; end = omega (arith, size) })

  -- The write is not whole.
  written_short : (held' : Option (List ℕ)) → AppendsFront held held' (take r.filled after) → IfSome unread₀ (λ bytes. AppendsFront held₀ held' (program bytes))
  written_short held' a = cut_short unread₀ held₀ unread held held' (length out) (take r.filled after) put a k.so_far

  -- There is room for another line, and the S line is not written: only reading helps.
  waits : length after ≡ length out → line_room ≤ length after - r.filled → r.state.written ≡ false → BeforeRead last st (have - at) r.state (have - (at + r.used))
  waits l room on =
      let same : have - at - r.used ≡ have - (at + r.used) = omega arith in
      subst (BeforeRead last st (have - at) r.state) same (fed.reads (omega (arith, l, room)) on)

-- ---- the goals

pub loop-state-init : goal.loop-state-init
loop-state-init g c =
    record {
      so_far = rw (c.start-state.ensures, c.new_sheet-sheet.ensures) (at-start (g.R.Read.remaining c.args.input.now) (g.W.Write.contents c.args.output.now));
      order = omega arith;
      inside = omega arith;
      buf_size = refl;
      out_size = refl;
      possible = rw (c.start-state.ensures, c.new_sheet-sheet.ensures) start-possible;
    }

pub slice_bounds-write_all-end : goal.slice_bounds-write_all-end
slice_bounds-write_all-end g c =
    omega (arith, (fed c.loop-state.invariant c.requires.out_size c.feed-fed.ensures).written, c.feed-fed.auto.out)

pub slice_bounds-write_all-end-in-loop-state : goal.slice_bounds-write_all-end-in-loop-state
slice_bounds-write_all-end-in-loop-state g c =
    omega (arith, length-take-le {A = ℕ}, (fed c.loop-state.invariant c.requires.out_size c.feed-fed.ensures).written, c.feed-fed.auto.out)

pub returns-in_err-write_all-clause-front_written : goal.returns-in_err-write_all-clause-front_written
returns-in_err-write_all-clause-front_written g c =
    on_error c.from_residual.result (written_short c.loop-state.invariant c.requires.out_size c.feed-fed.ensures _ c.in_err-write_all.ensures.front)

pub returns-then-state-clause-all_written : goal.returns-then-state-clause-all_written
returns-then-state-clause-all_written g c =
    let whole : c.write_all.result ≡ Ok tt = search rules in
    let so_far = written c.loop-state.invariant c.requires.out_size c.feed-fed.ensures (g.W.AsRawFd.raw_fd c.loop-state.output) (c.requires.to_standard_output c.loop-state.output) (is_ok c.write_all.result) (ap is_ok whole) (rw whole at c.write_all.ensures.whole) in
    finished _ _ _ _ so_far (at_return so_far c.if-state.true)

pub overflow_add-at : goal.overflow_add-at
overflow_add-at g c = let k = c.loop-state.invariant in record { fits = omega (arith, within c.loop-state.invariant c.requires.out_size c.feed-fed.ensures, k.inside, k.buf_size, c.requires.buf_size) }

pub copy_within-requires-clause-start_le_end : goal.copy_within-requires-clause-start_le_end
copy_within-requires-clause-start_le_end g c = within c.loop-state.invariant c.requires.out_size c.feed-fed.ensures

pub overflow_sub-have : goal.overflow_sub-have
overflow_sub-have g c = within c.loop-state.invariant c.requires.out_size c.feed-fed.ensures

pub overflow_sub-out : goal.overflow_sub-out
overflow_sub-out g c = omega (arith, (fed c.loop-state.invariant c.requires.out_size c.feed-fed.ensures).written, c.feed-fed.auto.out)

pub loop-state-smaller-then-out-fed-lt-LINE_ROOM : goal.loop-state-smaller-then-out-fed-lt-LINE_ROOM
loop-state-smaller-then-out-fed-lt-LINE_ROOM g c =
    let l = c.loop-state in
    let r = c.feed-fed.result in
    let e : l.have - (l.at + r.used) ≡ l.have - l.at - r.used = omega arith in
    rw e ((fed c.loop-state.invariant c.requires.out_size c.feed-fed.ensures).full (omega (arith, c.feed-fed.auto.out)))

pub loop-state-preserved-then-out-fed-lt-LINE_ROOM : goal.loop-state-preserved-then-out-fed-lt-LINE_ROOM
loop-state-preserved-then-out-fed-lt-LINE_ROOM g c =
    let whole : c.write_all.result ≡ Ok tt = search rules in
    let k = c.loop-state.invariant in
    record {
      so_far = written c.loop-state.invariant c.requires.out_size c.feed-fed.ensures (g.W.AsRawFd.raw_fd c.loop-state.output) (c.requires.to_standard_output c.loop-state.output) (is_ok c.write_all.result) (ap is_ok whole) (rw whole at c.write_all.ensures.whole);
      order = within c.loop-state.invariant c.requires.out_size c.feed-fed.ensures;
      inside = k.inside;
      buf_size = k.buf_size;
      out_size = c.feed-fed.auto.out ∙ k.out_size;
      possible = (fed c.loop-state.invariant c.requires.out_size c.feed-fed.ensures).possible;
    }

pub read_after-requires : goal.read_after-requires
read_after-requires g c =
    let k = c.loop-state.invariant in
    omega (arith, (waits c.loop-state.invariant c.requires.out_size c.feed-fed.ensures c.feed-fed.auto.out c.if-out-fed-lt-LINE_ROOM.false c.if-state.false).few, c.copy_within.ensures.len, k.buf_size, c.requires.buf_size)

pub returns-in_err-size-clause-front_written : goal.returns-in_err-size-clause-front_written
returns-in_err-size-clause-front_written g c =
    let whole : c.write_all.result ≡ Ok tt = search rules in
    on_error c.from_residual-in_err-size.result (stopped _ _ _ _ (written c.loop-state.invariant c.requires.out_size c.feed-fed.ensures (g.W.AsRawFd.raw_fd c.loop-state.output) (c.requires.to_standard_output c.loop-state.output) (is_ok c.write_all.result) (ap is_ok whole) (rw whole at c.write_all.ensures.whole)) c.if-state.false)

pub loop-state-smaller : goal.loop-state-smaller
loop-state-smaller g c =
    let read : c.read_after.result ≡ Ok c.in_ok-size.size = search rules in
    let k = c.loop-state.invariant in
    let left = c.loop-state.have - (c.loop-state.at + c.feed-fed.result.used) in
    let n = c.in_ok-size.size in
    let e : left + n - 0 ≡ left + n = omega arith in
    rw e ((waits c.loop-state.invariant c.requires.out_size c.feed-fed.ensures c.feed-fed.auto.out c.if-out-fed-lt-LINE_ROOM.false c.if-state.false).less n (omega (arith, (rw read at c.read_after.ensures.size_in_bounds), c.copy_within.ensures.len, k.buf_size, c.requires.buf_size)))

pub loop-state-preserved : goal.loop-state-preserved
loop-state-preserved g c =
    let whole : c.write_all.result ≡ Ok tt = search rules in
    let read : c.read_after.result ≡ Ok c.in_ok-size.size = search rules in
    let k = c.loop-state.invariant in
    let l = c.loop-state in
    let r = c.feed-fed.result in
    let m = c.read_after in
    let from = l.at + r.used in
    let size = c.in_ok-size.size in
    let b = waits c.loop-state.invariant c.requires.out_size c.feed-fed.ensures c.feed-fed.auto.out c.if-out-fed-lt-LINE_ROOM.false c.if-state.false in
    let inside : l.have - from + size ≤ length m.new.buf = omega (arith, b.few, (rw read at c.read_after.ensures.size_in_bounds), m.auto.buf, c.copy_within.ensures.len, k.buf_size, c.requires.buf_size) in
    let front = c.read_after.ensures.buf_unchanged ∙ moved l.buf c.copy_within.new.self from l.have k.inside c.copy_within.ensures.after in
    let so_far = written c.loop-state.invariant c.requires.out_size c.feed-fed.ensures (g.W.AsRawFd.raw_fd c.loop-state.output) (c.requires.to_standard_output c.loop-state.output) (is_ok c.write_all.result) (ap is_ok whole) (rw whole at c.write_all.ensures.whole) in
    record {
      so_far = after_read _ _ _ _ _ r.state r.sheet (take (l.have - from) (drop from l.buf)) m.new.buf (l.have - from) size (is_err m.result) front inside (ap is_err read) (rw read at c.read_after.ensures.taken) (rw read at c.read_after.ensures.end) (rw b.not_last at so_far);
      order = omega arith;
      inside = inside;
      buf_size = m.auto.buf ∙ c.copy_within.ensures.len ∙ k.buf_size;
      out_size = c.feed-fed.auto.out ∙ k.out_size;
      possible = (fed c.loop-state.invariant c.requires.out_size c.feed-fed.ensures).possible;
    }
