-- What the O lines and the S line say. An O line has the totals that the list call answers for the points accepted since the last accepted B line, turned by that line's
-- kind; the S line has the number of the O lines and the sums of their totals. The walks, rings and sheets are those of the calls that the lines ask for.
use Prim.Native.Nat.{ℕ, ◌+◌}
use mathlib.Core.Path.{◌≡◌, refl, sym, ap, ap₂, subst, subst₂, ◌∙◌}
use mathlib.Core.Bool.{Bool, true, false, cond}
use mathlib.Core.List.{List, [], ◌∷◌, ◌++◌}
use lib.ListN.{length}
use lib.Dec.{eqb}
use Rattle.outline.specs.declared.Totals.{Totals}
use Rattle.outline.specs.declared.Walk.{Walk}
use Rattle.outline.specs.declared.Sheet.{Sheet}
use Rattle.outline.specs.ListCall.{numbers, list_call}
use Rattle.outline.specs.Pieces.{sum_of}
use Rattle.outline.specs.WalkCalls.{closed, new_sheet, turned, end_call}
use Rattle.outline.specs.CallLists.{Call, Ring, Trace, walk_after, next, after, from, sheet_after, added_by}
use Rattle.outline.specs.SheetSums.{HoldsSums}
use Rattle.outline.specs.WalkedOutline.{IsOutline}
use Rattle.outline.specs.EveryOutline.{ended_with}
use Rattle.outline.proofs.CallCases.{end-accepted}
use Rattle.outline.proofs.WalkedOutline.{walked-outline}
use Rattle.outline.proofs.SheetSums.{sheet-sums}
use Rattle.parsing.specs.Grammar.{Form, begin, end, abandon, point, other, form_of}
use Rattle.printing.specs.Output.{outline_line, sheet_line}
use Rattle.text_program.specs.Program.{Line, Carried, carried_walk, carried_end, carry_out, lines_from, program}
use Rattle.text_program.specs.LineByLine.{call_of}
use Rattle.text_program.proofs.LinesInTurn.{carried, carried_all, lines_within, line_beyond, program_parts}

-- ---- the calls that lines ask for

-- Lines, each with the walk and the sheet that the lines before it leave.
unfoldable pub calls_of : Walk → Sheet → List Line → List Call
calls_of w s [] = []
calls_of w s (l ∷ ls) = let r = carried w s l in call_of (form_of l.bytes) s ++ calls_of r.walk r.sheet ls

-- The totals of the O line that a line prints, if it prints one.
unfoldable pub outline_of : Form → Walk → Sheet → List Totals
outline_of (begin k) w s = []
outline_of end w s = let r = end_call w s in cond (eqb r.number 0) (r.totals ∷ []) []
outline_of abandon w s = []
outline_of other w s = []
outline_of (point x y) w s = []

-- All of them, in turn.
unfoldable pub outlines_of : Walk → Sheet → List Line → List Totals
outlines_of w s [] = []
outlines_of w s (l ∷ ls) = let r = carried w s l in outline_of (form_of l.bytes) w s ++ outlines_of r.walk r.sheet ls

-- ---- walks: each line leaves the walk that its call leaves

pub after-append : (r : Trace) (a b : List Call) → after r (a ++ b) ≡ after (after r a) b
unfolding after
after-append r [] b = refl
after-append r (c ∷ a) b = after-append (next r c) a b

line_walk : (n : ℕ) (form : Form) (r : Trace) (s : Sheet) → (after r (call_of form s)).walk ≡ (carry_out n form r.walk s).walk
unfolding after call_of next walk_after carry_out carried_walk carried_end
line_walk n (begin k) r s = refl
line_walk n end r s = refl
line_walk n abandon r s = refl
line_walk n other r s = refl
line_walk n (point x y) r s = refl

lines-walk : (ls : List Line) (r : Trace) (s : Sheet) → (after r (calls_of r.walk s ls)).walk ≡ (carried_all r.walk s ls).walk
unfolding calls_of carried_all after
lines-walk [] r s = refl
lines-walk (l ∷ ls) r s =
    let c = carried r.walk s l in
    let call = call_of (form_of l.bytes) s in
    ap (λ (t : Trace). t.walk) (after-append r call (calls_of c.walk c.sheet ls))
    ∙ subst (λ w. (after (after r call) (calls_of w c.sheet ls)).walk ≡ (carried_all w c.sheet ls).walk) (line_walk l.number (form_of l.bytes) r s) (lines-walk ls (after r call) c.sheet)

-- ---- sheets: each end leaves the sheet that its walk leaves, and adds the totals that its O line has

-- The walk that an end hands in.
unfoldable end_walk : Form → Walk → List Walk
end_walk (begin k) w = []
end_walk end w = w ∷ []
end_walk abandon w = []
end_walk other w = []
end_walk (point x y) w = []

unfoldable end_walks : Walk → Sheet → List Line → List Walk
end_walks w s [] = []
end_walks w s (l ∷ ls) = let r = carried w s l in end_walk (form_of l.bytes) w ++ end_walks r.walk r.sheet ls

line_sheet : (n : ℕ) (form : Form) (w : Walk) (s : Sheet) (ws : List Walk) → sheet_after s (end_walk form w ++ ws) ≡ sheet_after (carry_out n form w s).sheet ws
unfolding sheet_after end_walk carry_out carried_walk carried_end
line_sheet n (begin k) w s ws = refl
line_sheet n end w s ws = refl
line_sheet n abandon w s ws = refl
line_sheet n other w s ws = refl
line_sheet n (point x y) w s ws = refl

lines-sheet : (ls : List Line) (w : Walk) (s : Sheet) → sheet_after s (end_walks w s ls) ≡ (carried_all w s ls).sheet
unfolding end_walks carried_all sheet_after
lines-sheet [] w s = refl
lines-sheet (l ∷ ls) w s =
    let c = carried w s l in
    line_sheet l.number (form_of l.bytes) w s (end_walks c.walk c.sheet ls) ∙ lines-sheet ls c.walk c.sheet

line_added : (n : ℕ) (form : Form) (w : Walk) (s : Sheet) (ws : List Walk) → added_by s (end_walk form w ++ ws) ≡ outline_of form w s ++ added_by (carry_out n form w s).sheet ws
unfolding added_by end_walk outline_of carry_out carried_walk carried_end
line_added n (begin k) w s ws = refl
line_added n end w s ws = go (eqb (end_call w s).number 0)
  where
    go : (b : Bool) → (let r = end_call w s in cond b (r.totals ∷ added_by r.sheet ws) (added_by r.sheet ws) ≡ cond b (r.totals ∷ []) [] ++ added_by r.sheet ws)
    go true = refl
    go false = refl
line_added n abandon w s ws = refl
line_added n other w s ws = refl
line_added n (point x y) w s ws = refl

lines_added : (ls : List Line) (w : Walk) (s : Sheet) → added_by s (end_walks w s ls) ≡ outlines_of w s ls
unfolding end_walks outlines_of added_by
lines_added [] w s = refl
lines_added (l ∷ ls) w s =
    let c = carried w s l in
    line_added l.number (form_of l.bytes) w s (end_walks c.walk c.sheet ls) ∙ ap (λ ts. outline_of (form_of l.bytes) w s ++ ts) (lines_added ls c.walk c.sheet)

-- ---- the laws, for every list of lines

-- From the start: the walk and the sheet after lines,
abbrev pub after_lines : List Line → Carried
after_lines ls = carried_all closed new_sheet ls

-- the trace of their calls,
abbrev pub trace_after : List Line → Trace
trace_after ls = after (from closed) (calls_of closed new_sheet ls)

-- in it the ring since the last accepted B line: that line's kind, and the points accepted since,
abbrev pub ring_since : List Line → Ring
ring_since ls = (trace_after ls).ring

-- and the totals of the O lines, in turn.
abbrev pub outlines_in : List Line → List Totals
outlines_in ls = outlines_of closed new_sheet ls

-- The walk of the trace is that of the lines, and is the walk of the ring.
pub same_walk : (ls : List Line) → (trace_after ls).walk ≡ (after_lines ls).walk
same_walk ls = lines-walk ls (from closed) new_sheet

pub is_outline : (ls : List Line) → IsOutline (trace_after ls)
is_outline ls = walked-outline (record { start = closed; is_closed = refl; calls = calls_of closed new_sheet ls })

lines-sums : (ls : List Line) → HoldsSums (after_lines ls).sheet (outlines_in ls)
lines-sums ls = subst₂ HoldsSums (lines-sheet ls closed new_sheet) (lines_added ls closed new_sheet) (sheet-sums (end_walks closed new_sheet ls))

-- S: the sheet's count is the number of the O lines, and its totals are the sums of theirs.
pub sheet_law : (ls : List Line) → (after_lines ls).sheet ≡ record { count = length (outlines_in ls); totals = sum_of (outlines_in ls) }
sheet_law ls = let sums = lines-sums ls in λ i. record { count = sums.count i; totals = sums.totals i }

-- The totals that the list call answers for the points of a ring, turned by its kind.
abbrev pub answered_for : Ring → Totals
answered_for g = turned g.kind (list_call (numbers g.points)).totals

-- An accepted end answers those of the ring, and adds them to the sheet.
pub end-answers : (r : Trace) (s : Sheet) → IsOutline r → (end_call r.walk s).number ≡ 0 → end_call r.walk s ≡ ended_with s (answered_for r.ring) r.walk.outage
end-answers r s o z =
    let (h, e) = end-accepted r.walk s z in
    e ∙ ap (λ t. ended_with s t r.walk.outage) (ap₂ turned (ap (λ (w : Walk). w.kind) (o.is_walk h.closable.is_open)) (sym (ap (λ a. a.totals) (o.list_call_agrees h.closable))))

-- What it prints.
pub end_prints : (n : ℕ) (r : Trace) (s : Sheet) → IsOutline r → (end_call r.walk s).number ≡ 0 → (let g = r.ring in ((list_call (numbers g.points)).number ≡ 0) × ((carry_out n end r.walk s).output ≡ outline_line (s.count + 1) (length g.points) (answered_for g)))
unfolding carry_out carried_end
end_prints n r s o z =
    let c = o.closable s z in
    (ap (λ a. a.number) (o.list_call_agrees c), ap (λ e. (carried_end n r.walk.count e).output) (end-answers r s o z) ∙ ap (λ (w : Walk). outline_line (s.count + 1) w.count (answered_for r.ring)) (o.is_walk c.is_open))

-- O: a line that is an accepted end, after the lines `before`. The list call accepts the points since the last accepted B line, and the line has the number of the O
-- lines with this one, the number of those points, and the totals that the list call answers for them, turned by that B line's kind.
pub outline_law : (before : List Line) (l : Line) → form_of l.bytes ≡ end → (let c = after_lines before in let g = ring_since before in (end_call c.walk c.sheet).number ≡ 0 → ((list_call (numbers g.points)).number ≡ 0) × ((carried c.walk c.sheet l).output ≡ outline_line (length (outlines_in before) + 1) (length g.points) (answered_for g)))
outline_law before l e = rw (e, ← (lines-sums before).count, ← same_walk before) (end_prints l.number (trace_after before) (after_lines before).sheet (is_outline before))

-- The whole output: S has the number and the sums of the O lines of the lines within the limits.
pub program-sheet : (input : List ℕ) → (let ls = lines_from 0 0 [] input in let within = lines_within ls in program input ≡ (after_lines within).output ++ line_beyond ls ++ sheet_line (record { count = length (outlines_in within); totals = sum_of (outlines_in within) }))
program-sheet input =
    let ls = lines_from 0 0 [] input in
    let within = lines_within ls in
    program_parts input ∙ ap (λ s. (after_lines within).output ++ line_beyond ls ++ sheet_line s) (sheet_law within)

-- The totals that an accepted end counts for S are those of its O line.
pub line_outline : (r : Trace) (s : Sheet) → IsOutline r → (end_call r.walk s).number ≡ 0 → outline_of end r.walk s ≡ answered_for r.ring ∷ []
unfolding outline_of
line_outline r s o z = rw (end-answers r s o z)
