-- The program's output in parts: what the lines within the limits print, one after the other, 10 if a line is too far, and the S line.
use Prim.Native.Nat.{ℕ}
use mathlib.Core.Path.{◌≡◌, refl, sym, ap, ◌∙◌}
use mathlib.Core.Bool.{Bool, true, false, cond}
use mathlib.Core.List.{List, [], ◌∷◌, ◌++◌, append_assoc}
use Rattle.outline.specs.declared.Walk.{Walk}
use Rattle.outline.specs.declared.Sheet.{Sheet}
use Rattle.outline.specs.WalkCalls.{closed, new_sheet}
use Rattle.parsing.specs.Grammar.{form_of}
use Rattle.printing.specs.Output.{refusal_line, sheet_line}
use Rattle.text_program.specs.Program.{Line, lines_from, too_far, Carried, carry_out, output_of, program}

-- What a line does.
abbrev pub carried : Walk → Sheet → Line → Carried
carried w s l = carry_out l.number (form_of l.bytes) w s

-- What lines print, and the walk and the sheet that they leave.
unfoldable pub carried_all : Walk → Sheet → List Line → Carried
carried_all w s [] = record { output = []; walk = w; sheet = s }
carried_all w s (l ∷ ls) =
    let r = carried w s l in
    let q = carried_all r.walk r.sheet ls in
    record { output = r.output ++ q.output; walk = q.walk; sheet = q.sheet }

-- Lines after others print with the walk and the sheet that those leave.
pub in_turn : (w : Walk) (s : Sheet) (before ls : List Line) → (let c = carried_all w s before in (carried_all w s (before ++ ls)).output ≡ c.output ++ (carried_all c.walk c.sheet ls).output)
unfolding carried_all
in_turn w s [] ls = refl
in_turn w s (l ∷ before) ls =
    let r = carried w s l in
    let c = carried_all r.walk r.sheet before in
    ap (λ o. r.output ++ o) (in_turn r.walk r.sheet before ls) ∙ sym (append_assoc r.output c.output (carried_all c.walk c.sheet ls).output)

-- The lines before the first that is too far.
unfoldable pub lines_within : List Line → List Line
lines_within [] = []
lines_within (l ∷ ls) = cond (too_far l) [] (l ∷ lines_within ls)

-- 10 for the first that is too far, if there is one.
unfoldable pub line_beyond : List Line → List ℕ
line_beyond [] = []
line_beyond (l ∷ ls) = cond (too_far l) (refusal_line l.number 10) (line_beyond ls)

output_parts : (w : Walk) (s : Sheet) (ls : List Line) → (let c = carried_all w s (lines_within ls) in output_of w s ls ≡ c.output ++ line_beyond ls ++ sheet_line c.sheet)
unfolding output_of carried_all lines_within line_beyond
output_parts w s [] = refl
output_parts w s (l ∷ ls) = go (too_far l) (output_parts r.walk r.sheet ls)
  where
    r : Carried
    r = carried w s l

    q : Carried
    q = carried_all r.walk r.sheet (lines_within ls)

    go : (t : Bool) → output_of r.walk r.sheet ls ≡ q.output ++ line_beyond ls ++ sheet_line q.sheet → (let c = carried_all w s (cond t [] (l ∷ lines_within ls)) in cond t (refusal_line l.number 10 ++ sheet_line s) (r.output ++ output_of r.walk r.sheet ls) ≡ c.output ++ cond t (refusal_line l.number 10) (line_beyond ls) ++ sheet_line c.sheet)
    go true e = refl
    go false e = ap (λ o. r.output ++ o) e ∙ simp append_assoc

-- The S line is that of the sheet that the lines within the limits leave.
pub program_parts : (input : List ℕ) → (let ls = lines_from 0 0 [] input in let c = carried_all closed new_sheet (lines_within ls) in program input ≡ c.output ++ line_beyond ls ++ sheet_line c.sheet)
unfolding program
program_parts input = output_parts closed new_sheet (lines_from 0 0 [] input)
