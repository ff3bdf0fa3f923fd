-- The statements of `Chunks` put to runs at values: an input that comes in pieces, through calls with little room or none, and an input that goes on after 10. Then to every run.
use mathlib.Core.Path.{◌≡◌, refl, sym, subst, ◌∙◌}
use mathlib.Core.Bool.{true, false, true≢false}
use mathlib.Core.List.{List, [], ◌∷◌, ◌++◌, append-nil}
use Prim.Native.Nat.{ℕ, suc, ◌+◌, ◌<◌}
use native.Mathlib.Omega.{arith}
use native.Mathlib.Nat.{add-zero}
use native.Mathlib.Numerals.{add-two}
use lib.ListN.{length, take, drop, replicate}
use lib.Seq.{drop-length}
use lib.Ieee.{lt}
use Rattle.receiver.specs.Floats.{not_finite, below_zero, plus_zero}
use borrow.Author.Tests.{ne_eqb, lt-ltb}
use Rattle.outline.specs.EdgeSums.{zeros, over, exceed}
use Rattle.outline.specs.declared.Kind.TheVariants.{Hole}
use Rattle.outline.specs.ListCall.{beyond}
use Rattle.outline.specs.WalkCalls.{origin, open_walk, closed, new_sheet, extended, impossible_walk, impossible_sheet, begin_call, point_call, end_call}
use Rattle.text_program.specs.declared.State.{State}
use Rattle.centroid.specs.Centroid.{outline_centroid_call}
use Rattle.text_numbers.specs.Numbers.{all_digits, value_from, leading_zero, is_natural, natural_of, number_of}
use Rattle.parsing.specs.Grammar.{with_first, fields, is_byte, letter_of, point_of, form_of_fields, form_of}
use Rattle.newlines.specs.LineLength.{line_length}
use Rattle.decimals.specs.Decimal.{digits, decimal, signed}
use Rattle.printing.specs.Output.{totals_text, centre_text, refusal_line, sheet_line}
use Rattle.text_program.specs.Program.{carried_walk, carried_end, carry_out, program}
use Rattle.text_program.specs.Stream.{start, closing, ending, line_step, step, steps, feed_call}
use Rattle.text_program.specs.Chunks.{Place, Run, here, reads, feeds, remaining_at}
use Rattle.newlines.proofs.Newlines.{line_within}
use Rattle.text_program.proofs.Lines.{line_size}
use Rattle.text_program.proofs.Worked.{text}
use Rattle.text_program.proofs.Progress.{first_step}
use Rattle.text_program.proofs.Chunks.{chunks_so_far, chunks, chunks_within, finishing_run}

-- A line of 33 bytes, B H, P 0 0 and E without a newline, in three pieces: the second begins with the first line's newline and stops in the middle of the third.
abbrev first_piece : List ℕ
first_piece = replicate 33 66

abbrev second_piece : List ℕ
second_piece = 10 ∷ 66 ∷ 9 ∷ 72 ∷ 10 ∷ 80 ∷ 9 ∷ 48 ∷ []

abbrev third_piece : List ℕ
third_piece = 9 ∷ 48 ∷ 10 ∷ 69 ∷ []

abbrev input : List ℕ
input = first_piece ++ second_piece ++ third_piece

-- All is read, and E waits in the buffer for what may follow it.
abbrev waiting : Place
waiting = record { state = record { lines = 3; bytes = 44; gone = 0; ended = false; written = false; walk = open_walk Hole 1 origin origin zeros plus_zero }; sheet = new_sheet; buffer = 69 ∷ []; unread = [] }

-- A call that is not told that the input has ended.
not_ended : {unread : List ℕ} → false ≡ true → unread ≡ []
not_ended e = absurd (true≢false (sym e))

-- The run to there, and on. The first line's bytes are taken, and only their number is kept; then there is no room, so nothing is done; then room for one line;
-- then two lines print nothing, the second of them in two pieces.
to_waiting : (p : Place) (out : List ℕ) → Run p waiting.state new_sheet (69 ∷ []) [] out → Run p start new_sheet [] input (text ("R 1 9" ∷ []) ++ out)
unfolding over exceed beyond extended not_finite below_zero lt impossible_walk begin_call point_call all_digits value_from leading_zero is_natural natural_of number_of with_first fields is_byte letter_of point_of form_of_fields form_of line_length digits decimal signed refusal_line carried_walk carry_out line_step step steps feed_call
to_waiting p out run =
    reads first_piece
    (feeds false 192 _ not_ended refl
    (reads second_piece
    (feeds false 191 _ not_ended refl
    (feeds false 192 _ not_ended refl
    (feeds false 192 _ not_ended refl
    (reads third_piece
    (feeds false 192 _ not_ended refl run)))))))

-- Stopped there: the rest is still to be written.
pub stopped : text ("R 1 9" ∷ []) ++ remaining_at waiting ≡ program input
stopped = chunks_so_far waiting input (text ("R 1 9" ∷ [])) (to_waiting waiting [] here)

-- S is written.
abbrev finished : Place
finished = record { state = record { lines = 4; bytes = 45; gone = 0; ended = true; written = true; walk = waiting.state.walk }; sheet = new_sheet; buffer = []; unread = [] }

-- The input has ended: E is refused, and the next call writes S.
to_finished : Run finished waiting.state new_sheet (69 ∷ []) [] (text ("R 4 24" ∷ "S 0 0 0 0 0 0 0 - -" ∷ []))
unfolding over exceed beyond not_finite below_zero lt impossible_walk impossible_sheet end_call outline_centroid_call with_first fields is_byte letter_of form_of_fields form_of line_length digits decimal signed totals_text centre_text refusal_line sheet_line carried_end carry_out line_step step steps feed_call
to_finished = feeds true 192 _ (λ e. refl) refl (feeds true 192 _ (λ e. refl) refl here)

pub in_pieces : text ("R 1 9" ∷ "R 4 24" ∷ "S 0 0 0 0 0 0 0 - -" ∷ []) ≡ program input
in_pieces = chunks finished input (text ("R 1 9" ∷ "R 4 24" ∷ "S 0 0 0 0 0 0 0 - -" ∷ [])) (to_waiting finished (text ("R 4 24" ∷ "S 0 0 0 0 0 0 0 - -" ∷ [])) to_finished) refl

-- ---- 10

abbrev reading_ended : State
reading_ended = record { lines = 0; bytes = 0; gone = 0; ended = true; written = false; walk = closed }

-- A first line that has no end in the first 33,000,001 bytes.
module _ (long : List ℕ) (far : 33_000_000 < line_length long) where
  refuses : step false start new_sheet long ≡ ending start new_sheet long
  unfolding step line_step
  refuses = let h = line_within long in rw (ne_eqb (length long) 0 (λ e. omega arith), lt-ltb 33_000_000 (0 + 0 + line_size long) (omega arith))

  -- The first call has room for that line alone,
  first_call : feed_call false start new_sheet long 192 ≡ record { output = text ("R 1 10" ∷ []); used = length long; state = reading_ended; sheet = new_sheet; more = false }
  unfolding feed_call steps digits decimal signed refusal_line
  first_call = rw (add-two, first_step (suc (length long)) false start new_sheet long 192 (omega arith), refuses, add-zero (length long))

  -- and the second writes S, whatever is in the buffer.
  second_call : (buffer : List ℕ) → feed_call false reading_ended new_sheet buffer 192 ≡ closing reading_ended new_sheet
  unfolding feed_call step
  second_call buffer = rw (add-two, first_step (suc (length buffer)) false reading_ended new_sheet buffer 192 (omega arith))

  to_closed : (p : Place) (unread out : List ℕ) → Run p (closing reading_ended new_sheet).state new_sheet [] unread out → Run p start new_sheet [] (long ++ unread) (text ("R 1 10" ∷ "S 0 0 0 0 0 0 0 - -" ∷ []) ++ out)
  unfolding over exceed outline_centroid_call digits decimal signed totals_text centre_text sheet_line
  to_closed p unread out run =
      reads long
      (feeds false 192 _ not_ended (sym first_call)
      (feeds false 192 _ not_ended (sym (second_call (drop (length long) long)))
      (subst (λ buffer. Run p (closing reading_ended new_sheet).state new_sheet buffer unread out) (sym (drop-length long)) run)))

  -- Of the bytes behind it one is read and stays in the buffer, and one is not read.
  pub bytes_left : text ("R 1 10" ∷ "S 0 0 0 0 0 0 0 - -" ∷ []) ≡ program (long ++ 66 ∷ 10 ∷ [])
  bytes_left =
      let p : Place = record { state = (closing reading_ended new_sheet).state; sheet = new_sheet; buffer = 66 ∷ []; unread = 10 ∷ [] } in
      chunks p (long ++ 66 ∷ 10 ∷ []) (text ("R 1 10" ∷ "S 0 0 0 0 0 0 0 - -" ∷ [])) (to_closed p (66 ∷ 10 ∷ []) [] (reads (66 ∷ []) here)) refl

-- No byte is read after the first 33,000,001, whatever there is.
pub cut_off : (all : List ℕ) → 33_000_000 < line_length (take 33_000_001 all) → text ("R 1 10" ∷ "S 0 0 0 0 0 0 0 - -" ∷ []) ≡ program all
cut_off all far =
    let p : Place = record { state = (closing reading_ended new_sheet).state; sheet = new_sheet; buffer = []; unread = [] } in
    let out = text ("R 1 10" ∷ "S 0 0 0 0 0 0 0 - -" ∷ []) in
    chunks_within p all out (subst (λ l. Run p start new_sheet [] l out) (append-nil (take 33_000_001 all)) (to_closed (take 33_000_001 all) far p [] [] here)) refl

-- ---- runs go on to their end

-- From the start: for every input there is a run that writes the program's output.
pub from_start : (all : List ℕ) → (p : Place) × (p.state.written ≡ true) × Run p start new_sheet [] all (program all)
from_start all =
    let (p, out, e, run) = finishing_run (record { state = start; sheet = new_sheet; buffer = []; unread = all }) in
    (p, e, subst (Run p start new_sheet [] all) (chunks p all out run e) run)

-- From a place on the way.
pub from_waiting : (p : Place) × (rest : List ℕ) × Run p waiting.state new_sheet (69 ∷ []) [] rest × (text ("R 1 9" ∷ []) ++ rest ≡ program input)
from_waiting = let (p, rest, e, run) = finishing_run waiting in (p, rest, run, chunks p input (text ("R 1 9" ∷ []) ++ rest) (to_waiting p rest run) e)

-- From every place that a run has come to: what that run has written, and what is still to be written, is the program's output, and the run can go on.
pub from_place : (p : Place) (all out : List ℕ) → Run p start new_sheet [] all out → (q : Place) × (rest : List ℕ) × (q.state.written ≡ true) × Run q p.state p.sheet p.buffer p.unread rest × (out ++ remaining_at p ≡ program all)
from_place p all out run = let (q, rest, e, more) = finishing_run p in (q, rest, e, more, chunks_so_far p all out run)

-- For every input there is a run that reads no byte after the first 33,000,001 and writes the program's output.
pub within_start : (all : List ℕ) → (p : Place) × (p.state.written ≡ true) × Run p start new_sheet [] (take 33_000_001 all) (program all)
within_start all =
    let (p, out, e, run) = finishing_run (record { state = start; sheet = new_sheet; buffer = []; unread = take 33_000_001 all }) in
    (p, e, subst (Run p start new_sheet [] (take 33_000_001 all)) (chunks_within p all out run e) run)

-- Two runs on one input, whatever their pieces and their room, have written the same once each has written S.
pub same_output : (p q : Place) (all a b : List ℕ) → Run p start new_sheet [] all a → p.state.written ≡ true → Run q start new_sheet [] all b → q.state.written ≡ true → a ≡ b
same_output p q all a b run e other f = chunks p all a run e ∙ sym (chunks q all b other f)
