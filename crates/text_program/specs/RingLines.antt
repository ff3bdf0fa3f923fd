-- Document 02, CR 3, in the text program: a ring walked the other way prints the same, as a statement. proofs/RingLines has the proof.
use Rattle.std.specs.Prelude.{ℕ, ◌≡◌, true}
use Rattle.outline.specs.declared.Sheet.{Sheet}
use Rattle.outline.specs.Pieces.{start_at, Direction, walked}
use Rattle.outline.specs.CallLists.{Walking, reached}
use Rattle.parsing.specs.Grammar.{end}
use Rattle.text_program.specs.Program.{Carried, carry_out}

-- Two lines that print the same, and leave the same sheet.
pub record SamePrint (a b : Carried) : Type 0 where
  pub output : a.output ≡ b.output
  pub sheet : a.sheet ≡ b.sheet

abbrev pub PrintedBack : Type 0
PrintedBack =
    -- For every walk that calls from one marked closed have made
    (first : Walking)
    -- and left open, with points or without,
    → (reached first).walk.is_open ≡ true
    -- and every other such walk
    → (second : Walking)
    → (reached second).walk.is_open ≡ true
    -- of the same kind:
    → (reached second).ring.kind ≡ (reached first).ring.kind
    -- if, for some start
    → (start : ℕ)
    -- and either direction,
    → (direction : Direction)
    -- the second's points are the first's, so walked and started,
    → (reached second).ring.points ≡ start_at start (walked direction (reached first).ring.points)
    -- then an E line, whatever its number,
    → (line : ℕ)
    -- and whatever the sheet,
    → (s : Sheet)
    -- prints the same O line or the same R line for both, and leaves the same sheet.
    → SamePrint (carry_out line end (reached first).walk s) (carry_out line end (reached second).walk s)
