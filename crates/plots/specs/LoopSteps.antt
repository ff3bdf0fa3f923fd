-- Ours: what the program's loop has done, and what it comes to. The invariant of `run` holds it (proofs/run), proofs/SoFar has the proof of the statement, and the contract
-- of `run` says what follows where it is known what the input has.
use Rattle.std.specs.Prelude.{ℕ, ◌≡◌, Bool, true, false, List, [], ◌++◌, eqb, ℤ, pos, length, drop}
use Rattle.outline.specs.declared.Sheet.{Sheet}
use Rattle.outline.specs.WalkCalls.{new_sheet}
use Rattle.text_program.specs.declared.State.{State}
use Rattle.text_program.specs.Program.{program}
use Rattle.text_program.specs.Stream.{Step, start, feed_call}

-- The steps that lead to a state, a sheet and a buffer of bytes not taken yet, where `input` was read and `out` was written. `last`: the input has ended.
pub data LoopSteps : Bool → State → Sheet → List ℕ → List ℕ → List ℕ → Type 0 where
  none : LoopSteps false start new_sheet [] [] []
  -- A call, on what the call before it left, and a write: `write_all` was given standard output and what the call put. One that answers an error has written less.
  called : {last : Bool} {st : State} {s : Sheet} {buffer input out : List ℕ} (room : ℕ) (r : Step) (descriptor : ℤ) (text : List ℕ) (whole : Bool) → r ≡ feed_call last st s buffer room → descriptor ≡ pos 1 → text ≡ r.output → whole ≡ true → LoopSteps last st s buffer input out → LoopSteps last r.state r.sheet (drop r.used buffer) input (out ++ text)
  -- A read that did not fail, to after the bytes of the buffer. One that gives none has found the end of the input.
  received : {st : State} {s : Sheet} {buffer input out : List ℕ} (piece : List ℕ) (failed : Bool) → failed ≡ false → LoopSteps false st s buffer input out → LoopSteps (eqb (length piece) 0) st s (buffer ++ piece) (input ++ piece) out

-- Once the S line is written, what was written is the program's output for what was read, whatever may still come.
abbrev pub AllWritten : Type 0
AllWritten =
    -- Whether or not the end of the input was found,
    (last : Bool)
    -- whatever the state,
    (st : State)
    -- the sheet
    (s : Sheet)
    -- and the buffer that the steps lead to,
    (buffer : List ℕ)
    -- for all that was read
    (input : List ℕ)
    -- and written on the way,
    (out : List ℕ)
    -- by steps of the loop,
    → LoopSteps last st s buffer input out
    -- where the S line is written,
    → st.written ≡ true
    -- and for whatever may still come,
    → (rest : List ℕ)
    -- nothing if the end was found:
    → (last ≡ true → rest ≡ [])
    -- what was written is the program's output for all of it.
    → out ≡ program (input ++ rest)
