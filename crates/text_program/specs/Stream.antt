-- The streaming core, ours: what one step and one call do with a chunk of the input and the room for output, for every state and every chunk.
-- `Chunks` states that however the input is chunked, the output is `program`'s.
use Rattle.std.specs.Prelude.{ℕ, zero, suc, ◌+◌, ◌-◌, min, Bool, true, false, not, ◌&&◌, ◌||◌, cond, List, [], ◌++◌, leb, ltb, eqb, length, take, drop, replicate}
use Rattle.outline.specs.declared.Walk.{Walk}
use Rattle.outline.specs.declared.Sheet.{Sheet}
use Rattle.outline.specs.WalkCalls.{closed}
use Rattle.text_program.specs.declared.State.{State}
use Rattle.parsing.specs.Grammar.{form_of}
use Rattle.newlines.specs.LineLength.{line_length}
use Rattle.printing.specs.Output.{refusal_line, sheet_line}
use Rattle.printing.specs.Buffer.{line_room}
use Rattle.text_program.specs.Program.{Carried, carry_out, output_of, lines_from}

-- What a step or a call does: what it writes, how many bytes of the chunk it takes, and what it leaves.
pub record Step : Type 0 where
  pub output : List ℕ
  pub used : ℕ
  pub state : State
  pub sheet : Sheet
  pub more : Bool

-- The state before the first byte.
abbrev pub start : State
start = record { lines = 0; bytes = 0; gone = 0; ended = false; written = false; walk = closed }

abbrev pub halted : State → Sheet → Step
halted st s = record { output = []; used = 0; state = st; sheet = s; more = false }

-- The last line of the output.
abbrev pub closing : State → Sheet → Step
closing st s = record { output = sheet_line s; used = 0; state = record { lines = st.lines; bytes = st.bytes; gone = st.gone; ended = true; written = true; walk = st.walk }; sheet = s; more = false }

-- 10: the line that is reached is refused, and the rest of the chunk is passed over.
abbrev pub ending : State → Sheet → List ℕ → Step
ending st s chunk =
    record {
      output = refusal_line (st.lines + 1) 10;
      used = length chunk;
      state = record { lines = st.lines; bytes = st.bytes; gone = st.gone; ended = true; written = false; walk = st.walk };
      sheet = s;
      more = true;
    }

-- Zeros stand for the bytes of a line that are gone: no form has one.
abbrev pub gone_bytes : State → List ℕ
gone_bytes st = replicate st.gone 0

-- A line of `size` bytes that is carried out, and counted.
abbrev pub after_line : State → Walk → ℕ → State
after_line st w size = record { lines = st.lines + 1; bytes = st.bytes + st.gone + size; gone = 0; ended = false; written = false; walk = w }

abbrev pub carried_step : State → Carried → ℕ → Step
carried_step st c size = record { output = c.output; used = size; state = after_line st c.walk size; sheet = c.sheet; more = true }

-- A whole line, of `n` bytes in the chunk without its newline and `size` with it.
abbrev pub whole : State → Sheet → List ℕ → ℕ → ℕ → Step
whole st s chunk n size = carried_step st (carry_out (st.lines + 1) (form_of (gone_bytes st ++ take n chunk)) st.walk s) size

-- Part of a line: it stays in the chunk while it may still have a form; else it is taken, and only its size is kept.
abbrev pub part : State → Sheet → ℕ → Step
part st s size =
    cond (leb (st.gone + size) 32) (halted st s)
    (record { output = []; used = size; state = record { lines = st.lines; bytes = st.bytes; gone = st.gone + size; ended = false; written = false; walk = st.walk }; sheet = s; more = false })

-- The line at the front of the chunk. `final` says that no byte comes after the chunk.
unfoldable pub line_step : Bool → State → Sheet → List ℕ → Step
line_step final st s chunk =
    let n = line_length chunk in
    let size = min (suc n) (length chunk) in
    cond (leb 1_000_000 st.lines || ltb 33_000_000 (st.bytes + st.gone + size)) (ending st s chunk)
    (cond (ltb n (length chunk) || final) (whole st s chunk n size)
    (part st s size))

-- One step: nothing once the S line is written; the S line once reading has ended, or nothing is left at the end of the input; nothing where more must be read;
-- else a line.
unfoldable pub step : Bool → State → Sheet → List ℕ → Step
step final st s chunk =
    cond st.written (halted st s)
    (cond st.ended (closing st s)
    (cond (final && (eqb (length chunk) 0 && eqb st.gone 0)) (closing st s)
    (cond (not final && eqb (length chunk) 0) (halted st s)
    (line_step final st s chunk))))

-- r and then q.
abbrev pub followed : Step → Step → Step
followed r q = record { output = r.output ++ q.output; used = r.used + q.used; state = q.state; sheet = q.sheet; more = q.more }

-- Steps while there is room, at most `most` of them.
unfoldable pub steps : ℕ → Bool → State → Sheet → List ℕ → ℕ → Step
steps zero final st s chunk room = halted st s
steps (suc most) final st s chunk room =
    let r = step final st s chunk in
    cond (ltb room line_room) (halted st s)
    (cond r.more (followed r (steps most final r.state r.sheet (drop r.used chunk) (room - length r.output))) r)

-- A call: each step that goes on takes a byte, but for one (a line of which all bytes are gone, or 10 on it), and the S line may follow.
unfoldable pub feed_call : Bool → State → Sheet → List ℕ → ℕ → Step
feed_call final st s chunk room = steps (length chunk + 2) final st s chunk room

-- What is still to be written where `rest` is still to come.
unfoldable pub remaining : State → Sheet → List ℕ → List ℕ
remaining st s rest =
    cond st.written []
    (cond st.ended (sheet_line s)
    (output_of st.walk s (lines_from st.lines st.bytes (gone_bytes st) rest)))
