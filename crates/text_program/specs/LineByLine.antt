-- Document 01, "The text program", and document 02, CR 3: the output line by line, as their sentences say it, by the numbers that the lines' calls answer. `program` has
-- this output and no other.
use Rattle.std.specs.Prelude.{ℕ, ◌+◌, ◌≡◌, true, false, List, [], ◌∷◌, ◌++◌, ◌≢◌, length}
use Rattle.outline.specs.declared.Totals.{Totals}
use Rattle.outline.specs.declared.Sheet.{Sheet}
use Rattle.outline.specs.ListCall.{accepted, numbers, list_call}
use Rattle.outline.specs.WalkCalls.{closed, new_sheet, turned, sheet_with}
use Rattle.outline.specs.CallLists as Calls
use Rattle.outline.specs.CallLists.{Call, Trace, number_of, next, from}
use Rattle.parsing.specs.Grammar.{Form, begin, end, abandon, point, other, form_of}
use Rattle.printing.specs.Output.{outline_line, refusal_line, sheet_line}
use Rattle.text_program.specs.Program.{Line, lines_from, too_far, program}

-- The call that a line asks for: none if it has none of the forms. An end is handed the sheet of that moment.
unfoldable pub call_of : Form → Sheet → List Call
call_of (begin k) s = Calls.begin k ∷ []
call_of end s = Calls.end s ∷ []
call_of abandon s = Calls.abandon ∷ []
call_of other s = []
call_of (point x y) s = Calls.point (record { x = x; y = y }) ∷ []

-- A line within the limits, after calls that left the trace r (the walk, and the ring since it was opened) and the sheet s: what it prints, and the trace and the sheet
-- that it leaves.
pub data LinePrints (r : Trace) (s : Sheet) (l : Line) : List ℕ → Trace → Sheet → Type 0 where
  -- 9, and no call.
  formless : form_of l.bytes ≡ other → LinePrints r s l (refusal_line l.number 9) r s
  -- A begin, a point or an abandon that is accepted is silent.
  silent : (c : Call) → call_of (form_of l.bytes) s ≡ c ∷ [] → form_of l.bytes ≢ end → number_of r.walk c ≡ 0 → LinePrints r s l [] (next r c) s
  -- An end that is accepted: which outline of the sheet it is, counted from 1, its points, and the totals that the list call answers for them, turned by the kind of the
  -- last accepted B line. The sheet has one outline and these totals more.
  outline : (totals : Totals) → form_of l.bytes ≡ end → number_of r.walk (Calls.end s) ≡ 0 → list_call (numbers r.ring.points) ≡ accepted totals → LinePrints r s l (outline_line (s.count + 1) (length r.ring.points) (turned r.ring.kind totals)) (next r (Calls.end s)) (sheet_with s (turned r.ring.kind totals))
  -- Refusal: the line's own number and its call's. Nothing else changes.
  refused : (c : Call) → call_of (form_of l.bytes) s ≡ c ∷ [] → number_of r.walk c ≢ 0 → LinePrints r s l (refusal_line l.number (number_of r.walk c)) r s

-- Lines after such calls, and all the output from there on.
pub data Output : Trace → Sheet → List Line → List ℕ → Type 0 where
  -- At the end S, whether or not the walk is open.
  ends : {r : Trace} {s : Sheet} → Output r s [] (sheet_line s)
  -- 10 before everything else, and after it S alone.
  far : {r : Trace} {s : Sheet} (l : Line) (ls : List Line) → too_far l ≡ true → Output r s (l ∷ ls) (refusal_line l.number 10 ++ sheet_line s)
  -- A line within the limits, and then the others.
  near : {r left : Trace} {s kept : Sheet} {out rest : List ℕ} (l : Line) (ls : List Line) → too_far l ≡ false → LinePrints r s l out left kept → Output left kept ls rest → Output r s (l ∷ ls) (out ++ rest)

-- These cases give the program's output,
abbrev pub LineByLine : Type 0
LineByLine =
    -- whatever the input is,
    (input : List ℕ)
    -- from a closed walk and a new sheet on.
    → Output (from closed) new_sheet (lines_from 0 0 [] input) (program input)

-- and no other.
abbrev pub LineByLineOnly : Type 0
LineByLineOnly =
    -- Whatever the input is,
    (input : List ℕ)
    -- and whatever output
    (out : List ℕ)
    -- the cases give for it, from a closed walk and a new sheet on,
    → Output (from closed) new_sheet (lines_from 0 0 [] input) out
    -- that is the program's.
    → out ≡ program input
