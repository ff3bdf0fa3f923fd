-- What a call of the streaming core leaves to the program's loop: its places are in the buffers, and the loop is nearer to its end.
use Prim.Native.Nat.{ℕ, zero, suc, ◌+◌, ◌*◌, ◌-◌, ◌≤◌, ◌<◌, min}
use mathlib.Core.Path.{◌≡◌, sym, ap, subst, ◌∙◌}
use mathlib.Core.Bool.{Bool, false, cond, true≢false}
use mathlib.Core.List.{List}
use mathlib.Core.Logic.{inl, inr}
use native.Mathlib.Omega.{arith}
use lib.Dec.{eqb}
use lib.ListN.{length, drop, length-drop}
use borrow.Author.Tests.{eqb-true, eqb-false}
use Rattle.outline.specs.declared.Sheet.{Sheet}
use Rattle.outline.specs.WalkCalls.{new_sheet}
use Rattle.printing.specs.Buffer.{line_room}
use Rattle.integers.proofs.Cases.{by_cond}
use Rattle.text_program.specs.declared.State.{State}
use Rattle.text_program.specs.Stream.{Step, start, feed_call}
use Rattle.text_program.proofs.Progress.{lines_ahead, feed_onward}
use Rattle.text_program.proofs.CallEnds.{Waiting, Complete, feed_used, feed_complete}
use Rattle.text_program.proofs.BytesRead.{feed_counted}
use Rattle.text_program.proofs.Room.{Fits, feed_room}
use Rattle.stream.specs.declared.Fed.{Fed}

-- How many bytes may still be read where `size` are in the buffer: with byte 33,000,001, or a byte after it that is read with it, reading ends.
abbrev pub unread : State → ℕ → ℕ
unread st size = cond st.ended 0 (33_000_000 + 65_536 - (st.bytes + st.gone + size))

-- What falls with each turn: a byte that is read moves into the buffer, so it counts twice before; and the end of the input is found once.
abbrev pub to_do : State → ℕ → Bool → ℕ
to_do st size last = 2 * unread st size + size + lines_ahead st + cond last 0 1

-- Numbers that the loop keeps.
pub record Possible (st : State) (s : Sheet) : Type 0 where
  pub fits : Fits st s
  pub within : st.ended ≡ false → st.bytes + st.gone ≤ 33_000_000

-- At the start all is zero.
pub start-possible : Possible start new_sheet
start-possible = record { fits = record { lines = omega arith; sheet = record { count = omega arith; totals = record { a2 = omega arith; x6 = omega arith; y6 = omega arith; xx12 = omega arith; xy24 = omega arith; yy12 = omega arith } } }; within = λ e. omega arith }

-- Only reading helps: `have` bytes are left, and less is left to do when n are read, or the end of the input is found.
pub record BeforeRead (last : Bool) (st : State) (size : ℕ) (after : State) (have : ℕ) : Type 0 where
  pub not_last : last ≡ false
  pub few : have ≤ 32
  pub less : (n : ℕ) → n ≤ 65_536 → to_do after (have + n) (eqb n 0) < to_do st size last

-- After a call on `size` bytes, with room for `room`, that answers r.
pub record AfterCall (last : Bool) (st : State) (size room : ℕ) (r : Fed) : Type 0 where
  pub taken : r.used ≤ size
  pub written : r.filled ≤ room
  pub possible : Possible r.state r.sheet
  -- The room is short: the call has written, so less is left to do.
  pub full : room - r.filled < line_room → to_do r.state (size - r.used) last < to_do st size last
  pub reads : line_room ≤ room - r.filled → r.state.written ≡ false → BeforeRead last st size r.state (size - r.used)

module _ (last : Bool) (st : State) (s : Sheet) (chunk : List ℕ) (room : ℕ) (h : line_room ≤ room) (k : Possible st s) where
  abbrev call : Step
  call = feed_call last st s chunk room

  abbrev rest : ℕ
  rest = length chunk - call.used

  -- A call does not add to the work, and takes from it where it writes.
  onward : rest + lines_ahead call.state + min 1 (length call.output) ≤ length chunk + lines_ahead st
  onward = omega (arith, length-drop call.used chunk, feed_onward last st s chunk room)

  still_possible : Possible call.state call.sheet
  still_possible = record { fits = (feed_room last st s chunk room k.fits).1; within = λ e. let c = feed_counted last st s chunk room e in c.within (k.within c.reads) }

  -- Where reading goes on, every byte that was read is counted.
  counted : call.state.ended ≡ false → call.state.bytes + call.state.gone + rest ≡ st.bytes + st.gone + length chunk
  counted e = omega (arith, (feed_counted last st s chunk room e).same, length-drop call.used chunk)

  unread_before : call.state.ended ≡ false → unread st (length chunk) ≡ 33_000_000 + 65_536 - (st.bytes + st.gone + length chunk)
  unread_before e = rw (feed_counted last st s chunk room e).reads

  no_more_unread : unread call.state rest ≤ unread st (length chunk)
  no_more_unread = by_cond (λ n. n ≤ unread st (length chunk)) call.state.ended (λ e. omega arith) (λ e. omega (arith, counted e, unread_before e))

  module _ (l : line_room ≤ room - length call.output) (on : call.state.written ≡ false) where
    waiting : Waiting last call.state (drop call.used chunk)
    waiting = go (feed_complete last st s chunk room (omega arith))
      where
        go : Complete last chunk call → Waiting last call.state (drop call.used chunk)
        go (inl e) = absurd (true≢false (sym e ∙ on))
        go (inr w) = w

    near : call.state.bytes + call.state.gone + rest ≤ 33_000_000
    near = omega (arith, length-drop call.used chunk, also (length (drop call.used chunk)) waiting.near (still_possible.within waiting.reading.reads))
      where
        also : {b : ℕ} (n : ℕ) → (0 < n → b + n ≤ 33_000_000) → b ≤ 33_000_000 → b + n ≤ 33_000_000
        also zero some none = omega arith
        also (suc n) some none = some (omega arith)

    less_after_read : (n : ℕ) → n ≤ 65_536 → to_do call.state (rest + n) (eqb n 0) < to_do st (length chunk) last
    less_after_read n m =
        let e = waiting.reading.reads in
        let after : unread call.state (rest + n) ≡ 33_000_000 + 65_536 - (call.state.bytes + call.state.gone + (rest + n)) = rw e in
        let not_found : ◌≡◌ {A = ℕ} (cond last 0 1) 1 = ap (λ b. cond b 0 1) waiting.needs.not_final in
        by_cond (λ m. 2 * unread call.state (rest + n) + (rest + n) + lines_ahead call.state + m < to_do st (length chunk) last) (eqb n 0)
        (λ z. omega (arith, onward, counted e, unread_before e, near, eqb-true n 0 z))
        (λ z. omega (arith, onward, counted e, unread_before e, near, eqb-false n 0 z))

  pub after_call : (r : Fed) → r ≡ record { state = call.state; sheet = call.sheet; used = call.used; filled = length call.output } → AfterCall last st (length chunk) room r
  after_call r e =
      subst (AfterCall last st (length chunk) room) (sym e)
      (record {
        taken = feed_used last st s chunk room;
        written = (feed_room last st s chunk room k.fits).0;
        possible = still_possible;
        full = λ l. omega (arith, onward, no_more_unread);
        reads = λ l on. record { not_last = (waiting l on).needs.not_final; few = omega (arith, length-drop call.used chunk, (waiting l on).needs.short); less = less_after_read l on };
      })
