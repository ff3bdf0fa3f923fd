-- The program's output is the one that the sentences of document 01 and of document 02's CR 3 say, line by line: each line prints nothing, one O line or one R line, by
-- the number that its call answers.
use Prim.Native.Nat.{ℕ, ◌+◌}
use mathlib.Core.Path.{◌≡◌, refl, sym, ap, subst, ◌∙◌}
use mathlib.Core.Bool.{Bool, true, false, true≢false}
use mathlib.Core.List.{List, [], ◌∷◌, ◌++◌}
use mathlib.Core.Logic.{◌≢◌, ◌⊎◌, inl, inr}
use native.Mathlib.Omega.{arith}
use lib.ListN.{length, get_or}
use lib.Dec.{eqb}
use borrow.Author.Tests.{eqb-true, eqb-false, ne_eqb}
use Rattle.outline.specs.declared.Walk.{Walk}
use Rattle.outline.specs.declared.Sheet.{Sheet}
use Rattle.outline.specs.WalkCalls.{closed, new_sheet, closed_totals, turned, sheet_with, EndOutcome, end_call}
use Rattle.outline.specs.CallLists as Calls
use Rattle.outline.specs.CallLists.{Call, Trace, number_of, walk_after, next, after, from}
use Rattle.outline.specs.WalkedOutline.{IsOutline}
use Rattle.outline.proofs.CallCases as Case
use Rattle.outline.proofs.CallCases.{EndCase, end_case}
use Rattle.outline.proofs.Refusals.{walk_unchanged}
use Rattle.outline.proofs.WalkedOutline.{walked-outline}
use Rattle.parsing.specs.Grammar.{Form, begin, end, abandon, point, other, form_of}
use Rattle.printing.specs.Output.{outline_line, refusal_line, sheet_line}
use Rattle.text_program.specs.Program.{Line, too_far, told, carried_walk, carried_end, carry_out, output_of, lines_from, program}
use Rattle.text_program.specs.LineByLine.{call_of, LinePrints, formless, silent, outline, refused, Output, ends, far, near, LineByLine, LineByLineOnly}
use Rattle.text_program.proofs.LinesInTurn.{carried}
use Rattle.text_program.proofs.OutputLaws.{after-append, answered_for, end-answers, end_prints}

-- ---- traces that calls from a closed walk on have left

abbrev Reached : Trace → Type 0
Reached r = (calls : List Call) × (after (from closed) calls ≡ r)

reached-next : {r : Trace} → Reached r → (c : Call) → Reached (next r c)
unfolding after
reached-next (calls, e) c = (calls ++ c ∷ [], after-append (from closed) calls (c ∷ []) ∙ ap (λ r. next r c) e)

reached-outline : {r : Trace} → Reached r → IsOutline r
reached-outline (calls, e) = subst IsOutline e (walked-outline (record { start = closed; is_closed = refl; calls = calls }))

-- ---- what a line does, by its call

-- A line is an end or is not.
unfoldable pub is_end : Form → Bool
is_end (begin k) = false
is_end end = true
is_end abandon = false
is_end other = false
is_end (point x y) = false

pub not_end : (f : Form) → is_end f ≡ false → f ≢ end
unfolding is_end
not_end f e q = true≢false (sym (ap is_end q) ∙ e)

by_end : (f : Form) → (f ≡ end) ⊎ (f ≢ end)
unfolding is_end
by_end (begin k) = inr (not_end (begin k) refl)
by_end end = inl refl
by_end abandon = inr (not_end abandon refl)
by_end other = inr (not_end other refl)
by_end (point x y) = inr (not_end (point x y) refl)

-- The one call of a list is its first.
same_call : {a c : Call} → a ∷ [] ≡ c ∷ [] → a ≡ c
same_call {a} e = ap (λ l. get_or l 0 a) e

-- Begin, point and abandon,
walk_line : (n : ℕ) (f : Form) (w : Walk) (s : Sheet) (c : Call) → call_of f s ≡ c ∷ [] → f ≢ end → carry_out n f w s ≡ record { output = told n (number_of w c); walk = walk_after w c; sheet = s }
unfolding call_of carry_out carried_walk number_of walk_after
walk_line n (begin k) w s c e h = rw (← same_call e)
walk_line n end w s c e h = absurd (h refl)
walk_line n abandon w s c e h = rw (← same_call e)
walk_line n other w s c e h = absurd (omega (arith, ap length e))
walk_line n (point x y) w s c e h = rw (← same_call e)

-- a refused end,
refused_end_lem : (n : ℕ) (w : Walk) (s : Sheet) → (end_call w s).number ≢ 0 → carried_end n w.count (end_call w s) ≡ record { output = refusal_line n (end_call w s).number; walk = w; sheet = s }
unfolding carried_end
refused_end_lem n w s = go (end_call w s) (end_case w s)
  where
    go : (e : EndOutcome) → EndCase w s e → e.number ≢ 0 → carried_end n w.count e ≡ record { output = refusal_line n e.number; walk = w; sheet = s }
    go e (Case.refused k q) h = rw (ne_eqb k 0 h)
    go e (Case.accepted k) h = absurd (h refl)

-- and so every call that is refused.
refused_line : (n : ℕ) (f : Form) (w : Walk) (s : Sheet) (c : Call) → call_of f s ≡ c ∷ [] → number_of w c ≢ 0 → carry_out n f w s ≡ record { output = refusal_line n (number_of w c); walk = w; sheet = s }
unfolding call_of carry_out number_of
refused_line n f w s c e h = go f e (by_end f)
  where
    go : (f : Form) → call_of f s ≡ c ∷ [] → (f ≡ end) ⊎ (f ≢ end) → carry_out n f w s ≡ record { output = refusal_line n (number_of w c); walk = w; sheet = s }
    go f e (inl q) = subst (λ c. number_of w c ≢ 0 → carry_out n f w s ≡ record { output = refusal_line n (number_of w c); walk = w; sheet = s }) (same_call (ap (λ f. call_of f s) (sym q) ∙ e)) (λ k. ap (λ f. carry_out n f w s) q ∙ refused_end_lem n w s k) h
    go f e (inr q) = walk_line n f w s c e q ∙ rw (ne_eqb (number_of w c) 0 h, walk_unchanged w c h)

-- ---- the cases of a line

-- They say what the line does, and the next line's trace is reached too.
line_does : {r : Trace} {s : Sheet} {l : Line} {left : Trace} {kept : Sheet} {out : List ℕ} → Reached r → LinePrints r s l out left kept → (carried r.walk s l ≡ record { output = out; walk = left.walk; sheet = kept }) × Reached left
unfolding carry_out carried_end next number_of walk_after
line_does {r} {s = s} {l = l} h (formless f) = (ap (λ f. carry_out l.number f r.walk s) f, h)
line_does {r} {s = s} {l = l} h (silent c a f z) = (walk_line l.number (form_of l.bytes) r.walk s c a f ∙ rw z, reached-next h c)
line_does {r} {s = s} {l = l} h (outline totals f z a) =
    let o = reached-outline h in
    let g = r.ring in
    let same : answered_for g ≡ turned g.kind totals = ap (λ t. turned g.kind t.totals) a in
    let output = (end_prints l.number r s o z).1 ∙ ap (outline_line (s.count + 1) (length g.points)) same in
    let sheet = ap (λ e. e.sheet) (end-answers r s o z) ∙ ap (sheet_with s) same in
    (ap (λ f. carry_out l.number f r.walk s) f ∙ (λ i. record { output = output i; walk = (end_call r.walk s).walk; sheet = sheet i }), reached-next h (Calls.end s))
line_does {r} {s = s} {l = l} h (refused c a k) = (refused_line l.number (form_of l.bytes) r.walk s c a k, h)

-- Every line is one of them.
abbrev Some : Trace → Sheet → Line → Type 0
Some r s l = (out : List ℕ) × (left : Trace) × (kept : Sheet) × LinePrints r s l out left kept

by_number : (r : Trace) (s : Sheet) (l : Line) (c : Call) → call_of (form_of l.bytes) s ≡ c ∷ [] → (number_of r.walk c ≡ 0 → Some r s l) → Some r s l
by_number r s l c a taken = go (eqb (number_of r.walk c) 0) refl
  where
    go : (b : Bool) → eqb (number_of r.walk c) 0 ≡ b → Some r s l
    go true e = taken (eqb-true (number_of r.walk c) 0 e)
    go false e = (refusal_line l.number (number_of r.walk c), r, s, refused c a (eqb-false (number_of r.walk c) 0 e))

line_prints : (r : Trace) (s : Sheet) (l : Line) → Reached r → Some r s l
unfolding call_of number_of is_end
line_prints r s l h = go (form_of l.bytes) refl
  where
    silently : (f : Form) (c : Call) → form_of l.bytes ≡ f → call_of f s ≡ c ∷ [] → f ≢ end → Some r s l
    silently f c e a k = let b = ap (λ f. call_of f s) e ∙ a in by_number r s l c b (λ z. ([], next r c, s, silent c b (λ q. k (sym e ∙ q)) z))

    go : (f : Form) → form_of l.bytes ≡ f → Some r s l
    go (begin k) e = silently (begin k) (Calls.begin k) e refl (not_end (begin k) refl)
    go end e =
        by_number r s l (Calls.end s) (ap (λ f. call_of f s) e) (λ z.
        let g = r.ring in
        let o = reached-outline h in
        let totals = closed_totals r.walk in
        let printed = turned g.kind totals in
        (outline_line (s.count + 1) (length g.points) printed, next r (Calls.end s), sheet_with s printed, outline totals e z (o.list_call_agrees (o.closable s z))))
    go abandon e = silently abandon Calls.abandon e refl (not_end abandon refl)
    go other e = (refusal_line l.number 9, r, s, formless e)
    go (point x y) e = silently (point x y) (Calls.point (record { x = x; y = y })) e refl (not_end (point x y) refl)

-- ---- the whole output

only-output : {r : Trace} {s : Sheet} {ls : List Line} {out : List ℕ} → Reached r → Output r s ls out → out ≡ output_of r.walk s ls
unfolding output_of
only-output h ends = refl
only-output h (far l ls e) = rw e
only-output h (near {out = out} l ls e p q) = let (c, k) = line_does h p in rw (e, c) (ap (λ o. out ++ o) (only-output k q))

some_output : (r : Trace) (s : Sheet) (ls : List Line) → Reached r → (out : List ℕ) × Output r s ls out
some_output r s [] h = (sheet_line s, ends)
some_output r s (l ∷ ls) h = let (out, left, kept, p) = line_prints r s l h in go (too_far l) refl p (some_output left kept ls (line_does h p).1)
  where
    go : (b : Bool) → too_far l ≡ b → {out : List ℕ} {left : Trace} {kept : Sheet} → LinePrints r s l out left kept → (rest : List ℕ) × Output left kept ls rest → (out : List ℕ) × Output r s (l ∷ ls) out
    go true e p q = (refusal_line l.number 10 ++ sheet_line s, far l ls e)
    go false e {out} p (rest, q) = (out ++ rest, near l ls e p q)

pub line_by_line_only : LineByLineOnly
unfolding program after
line_by_line_only input out = only-output ([], refl)

pub line_by_line : LineByLine
unfolding after
line_by_line input =
    let ls = lines_from 0 0 [] input in
    let (out, q) = some_output (from closed) new_sheet ls ([], refl) in
    subst (Output (from closed) new_sheet ls) (line_by_line_only input out q) q
