-- Ours: a run of the program reads the input in pieces and makes calls between them. Whatever the pieces and the room at each call, it writes document 01's output.
use Rattle.std.specs.Prelude.{ℕ, ◌≡◌, Bool, true, List, [], ◌++◌, take, drop}
use Rattle.outline.specs.declared.Sheet.{Sheet}
use Rattle.outline.specs.WalkCalls.{new_sheet}
use Rattle.text_program.specs.declared.State.{State}
use Rattle.text_program.specs.Program.{program}
use Rattle.text_program.specs.Stream.{Step, start, feed_call, remaining}

-- Where a run has come to: `buffer` has the bytes that were read and not taken yet, `unread` those that are still to be read.
pub record Place : Type 0 where
  pub state : State
  pub sheet : Sheet
  pub buffer : List ℕ
  pub unread : List ℕ

-- A run of the program from a place to the place p; `out` is what is written on the way.
pub data Run (p : Place) : State → Sheet → List ℕ → List ℕ → List ℕ → Type 0 where
  here : Run p p.state p.sheet p.buffer p.unread []
  -- Some bytes more are read.
  reads : {st : State} {s : Sheet} {buffer unread out : List ℕ} (piece : List ℕ) → Run p st s (buffer ++ piece) unread out → Run p st s buffer (piece ++ unread) out
  -- A call takes bytes of the buffer and writes. It may be told that the input has ended only where it has.
  feeds : {st : State} {s : Sheet} {buffer unread out : List ℕ} (final : Bool) (room : ℕ) (r : Step) → (final ≡ true → unread ≡ []) → r ≡ feed_call final st s buffer room → Run p r.state r.sheet (drop r.used buffer) unread out → Run p st s buffer unread (r.output ++ out)

-- What is still to be written at a place.
abbrev pub remaining_at : Place → List ℕ
remaining_at p = remaining p.state p.sheet (p.buffer ++ p.unread)

-- A run that stops anywhere: what is written is the front of the program's output, and the rest is still to be written.
abbrev pub ChunksSoFar : Type 0
ChunksSoFar =
    -- Wherever the run stops,
    (p : Place)
    -- whatever the input is
    (input : List ℕ)
    -- and whatever is written on the way,
    (out : List ℕ)
    -- from the start, with a new sheet and nothing read yet:
    → Run p start new_sheet [] input out
    -- that, and what is still to be written there, is the program's output for the input.
    → out ++ remaining_at p ≡ program input

-- A run that has written the S line: what is written is the program's output.
abbrev pub Chunks : Type 0
Chunks =
    -- Wherever the run ends,
    (end : Place)
    -- whatever the input is
    (input : List ℕ)
    -- and whatever is written on the way,
    (out : List ℕ)
    -- from the start, with a new sheet and nothing read yet,
    → Run end start new_sheet [] input out
    -- once the S line is written:
    → end.state.written ≡ true
    -- that is the program's output for the input.
    → out ≡ program input

-- The same where the input is cut off behind the byte that ends the reading.
abbrev pub ChunksWithin : Type 0
ChunksWithin =
    -- Wherever the run stops,
    (p : Place)
    -- whatever the input is
    (input : List ℕ)
    -- and whatever is written on the way,
    (out : List ℕ)
    -- from the start, with a new sheet and nothing read yet, and with no byte to read after the first 33,000,001,
    → Run p start new_sheet [] (take 33_000_001 input) out
    -- once the S line is written:
    → p.state.written ≡ true
    -- that is the program's output for the input.
    → out ≡ program input

-- From wherever a run has come to, it can go on until the S line is written. So there are runs of which `Chunks` speaks, for every input.
abbrev pub FinishingRun : Type 0
FinishingRun =
    -- Whatever the place,
    (from : Place)
    -- there is a place
    → (p : Place)
    -- and there is an output
    × (out : List ℕ)
    -- so that the S line is written
    × (p.state.written ≡ true)
    -- and a run leads there and writes it.
    × Run p from.state from.sheet from.buffer from.unread out
