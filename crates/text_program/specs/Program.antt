-- Document 01, "The text program" and refusals 9 and 10, and document 02, CR 3: all of the input to all of the output.
use Rattle.std.specs.Prelude.{ℕ, ◌+◌, Bool, ◌||◌, cond, List, [], ◌∷◌, ◌++◌, ltb, eqb, length}
use Rattle.outline.specs.declared.Walk.{Walk}
use Rattle.outline.specs.declared.Sheet.{Sheet}
use Rattle.outline.specs.WalkCalls.{closed, new_sheet, WalkOutcome, EndOutcome, begin_call, point_call, end_call, abandon_call}
use Rattle.parsing.specs.Grammar.{Form, begin, end, abandon, point, other, form_of}
use Rattle.printing.specs.Output.{outline_line, refusal_line, sheet_line}

-- ---- lines

-- A line's number, counted from 1; the place of its last byte in the input, counted from 1, its newline included; its bytes, its newline left off.
pub record Line : Type 0 where
  pub number : ℕ
  pub last : ℕ
  pub bytes : List ℕ

-- The lines of the rest of the input, after `count` lines of `size` bytes in all and the bytes `held` of the present line.
-- What is left at the end of the input without a newline is a line too, unless nothing is.
unfoldable pub lines_from : ℕ → ℕ → List ℕ → List ℕ → List Line
lines_from count size [] [] = []
lines_from count size (b ∷ held) [] = record { number = count + 1; last = size + length (b ∷ held); bytes = b ∷ held } ∷ []
lines_from count size held (b ∷ rest) =
    cond (eqb b 10)
    (record { number = count + 1; last = size + length held + 1; bytes = held } ∷ lines_from (count + 1) (size + length held + 1) [] rest)
    (lines_from count size (held ++ b ∷ []) rest)

-- Refusal 10: line 1,000,001, or byte 33,000,001.
unfoldable pub too_far : Line → Bool
too_far l = ltb 1_000_000 l.number || ltb 33_000_000 l.last

-- ---- what a line does

pub record Carried : Type 0 where
  pub output : List ℕ
  pub walk : Walk
  pub sheet : Sheet

-- Of begin, point and abandon only a refusal is told.
abbrev pub told : ℕ → ℕ → List ℕ
told line number = cond (eqb number 0) [] (refusal_line line number)

unfoldable pub carried_walk : ℕ → WalkOutcome → Sheet → Carried
carried_walk line r s = record { output = told line r.number; walk = r.walk; sheet = s }

-- End prints the outline's line, with the sheet's count after it, or a refusal.
unfoldable pub carried_end : ℕ → ℕ → EndOutcome → Carried
carried_end line points r = record { output = cond (eqb r.number 0) (outline_line r.sheet.count points r.totals) (refusal_line line r.number); walk = r.walk; sheet = r.sheet }

-- A line of none of the forms is 9, before every other number.
unfoldable pub carry_out : ℕ → Form → Walk → Sheet → Carried
carry_out line (begin k) w s = carried_walk line (begin_call w k) s
carry_out line (point x y) w s = carried_walk line (point_call w (record { x = x; y = y })) s
carry_out line abandon w s = carried_walk line (abandon_call w) s
carry_out line end w s = carried_end line w.count (end_call w s)
carry_out line other w s = record { output = refusal_line line 9; walk = w; sheet = s }

-- ---- the output

-- The lines in turn, then S. 10 comes before the line is carried out, and no line follows it. A walk that was not ended adds nothing.
unfoldable pub output_of : Walk → Sheet → List Line → List ℕ
output_of w s [] = sheet_line s
output_of w s (l ∷ ls) =
    let r = carry_out l.number (form_of l.bytes) w s in
    cond (too_far l) (refusal_line l.number 10 ++ sheet_line s)
    (r.output ++ output_of r.walk r.sheet ls)

unfoldable pub program : List ℕ → List ℕ
program input = output_of closed new_sheet (lines_from 0 0 [] input)
