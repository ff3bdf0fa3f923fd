-- A call writes no more than it has room for.
use Prim.Native.Nat.{ℕ, ◌+◌, ◌^◌, ◌≤◌, ◌<◌}
use mathlib.Core.Bool.{Bool, not, ◌||◌}
use mathlib.Core.List.{List, [], ◌++◌}
use native.Mathlib.Omega.{arith}
use lib.ListN.{length, take, length-append}
use lib.IntN.{ℤ, pos, negsuc, nat_abs, ◌+ℤ◌}
use lib.Dec.{eqb, ltb, leb}
use borrow.Author.Tests.{leb-false, not-false}
use Rattle.integers.proofs.Flags.{both_failed}
use Rattle.integers.proofs.Order.{nat_abs_parts, sum_parts}
use Rattle.outline.specs.declared.Position.{Position}
use Rattle.outline.specs.declared.Totals.{Totals}
use Rattle.outline.specs.declared.Kind.{Kind}
use Rattle.outline.specs.declared.Walk.{Walk}
use Rattle.outline.specs.declared.Sheet.{Sheet}
use Rattle.outline.specs.EdgeSums.{plus, exceed}
use Rattle.outline.specs.ListCall.{outside}
use Rattle.outline.specs.MapCall.{total_limits}
use Rattle.outline.specs.WalkCalls.{closed_totals, zero_area, added_totals, impossible_walk, impossible_sheet, WalkOutcome, EndOutcome, begin_call, point_call, end_call, abandon_call}
use Rattle.outline.specs.private.Fit.{Fit}
use Rattle.outline.proofs.Limits.{exceed_fit}
use Rattle.outline.proofs.PossibleWalks.{possible_open, sheet_within}
use Rattle.text_program.specs.declared.State.{State}
use Rattle.parsing.specs.Grammar.{Form, begin, end, abandon, point, other, form_of}
use Rattle.printing.specs.Output.{refusal_line}
use Rattle.printing.specs.Buffer.{line_room}
use Rattle.text_program.specs.Program.{Carried, carried_walk, carried_end, carry_out}
use Rattle.newlines.specs.LineLength.{line_length}
use Rattle.text_program.specs.Stream.{Step, gone_bytes, whole, step, feed_call}
use Rattle.integers.proofs.Cases.{by_cond}
use Rattle.text_program.proofs.Lines.{line_size}
use Rattle.text_program.proofs.TooFar.{near-lines}
use Rattle.text_program.proofs.StepCases.{Near, StepCase, done, ended, last, waits, far, newline, unended, holds, step_case}
use Rattle.text_program.proofs.Steps.{steps_keep}
use Rattle.printing.proofs.LineLengths.{wide, outline-length, sheet-length, refusal_length}

-- A sheet's count and totals fit their types.
pub record SheetFits (s : Sheet) : Type 0 where
  pub count : s.count < 2 ^ 32
  pub totals : Fit wide s.totals

-- ---- totals

added_size : (a b : ℤ) → nat_abs b ≤ nat_abs (a +ℤ b) + nat_abs a
added_size a (pos n) = omega (arith, sum_parts a (pos n), nat_abs_parts (a +ℤ pos n), nat_abs_parts a)
added_size a (negsuc n) = omega (arith, sum_parts a (negsuc n), nat_abs_parts (a +ℤ negsuc n), nat_abs_parts a)

-- Totals that are added to a sheet within its limits and leave it there are at most twice the limits.
added_within : (s t : Totals) → Fit total_limits s → Fit total_limits (plus s t) → Fit wide t
added_within s t h k =
    record {
      a2 = omega (arith, added_size s.a2 t.a2, h.a2, k.a2);
      x6 = omega (arith, added_size s.x6 t.x6, h.x6, k.x6);
      y6 = omega (arith, added_size s.y6 t.y6, h.y6, k.y6);
      xx12 = omega (arith, added_size s.xx12 t.xx12, h.xx12, k.xx12);
      xy24 = omega (arith, added_size s.xy24 t.xy24, h.xy24, k.xy24);
      yy12 = omega (arith, added_size s.yy12 t.yy12, h.yy12, k.yy12);
    }

wider : (t : Totals) → Fit total_limits t → Fit wide t
wider t h = record { a2 = omega (arith, h.a2); x6 = omega (arith, h.x6); y6 = omega (arith, h.y6); xx12 = omega (arith, h.xx12); xy24 = omega (arith, h.xy24); yy12 = omega (arith, h.yy12) }

-- ---- what a line prints

-- A line's output is no longer than `line_room`, and the sheet that it leaves fits.
pub record Prints (c : Carried) : Type 0 where
  pub short : length c.output ≤ line_room
  pub sheet : SheetFits c.sheet

-- Refusals have two digits at most.
abbrev Small : WalkOutcome → Type 0
Small r = r.number < 100

begin_small : (w : Walk) (k : Kind) → Small (begin_call w k)
unfolding begin_call
begin_small w k = by_cond Small (impossible_walk w) (λ e. omega arith) (λ e. by_cond Small w.is_open (λ f. omega arith) (λ f. omega arith))

point_small : (w : Walk) (p : Position) → Small (point_call w p)
unfolding point_call
point_small w p = by_cond Small (impossible_walk w) (λ e. omega arith) (λ e. by_cond Small (not w.is_open) (λ f. omega arith) (λ f. by_cond Small (outside p) (λ g. omega arith) (λ g. by_cond Small (leb 1024 w.count) (λ k. omega arith) (λ k. omega arith))))

abandon_small : (w : Walk) → Small (abandon_call w)
unfolding abandon_call
abandon_small w = by_cond Small (impossible_walk w) (λ e. omega arith) (λ e. by_cond Small (not w.is_open) (λ f. omega arith) (λ f. omega arith))

module _ (line : ℕ) (h : line ≤ 2 ^ 32) (s : Sheet) (f : SheetFits s) where
  -- Begin, point and abandon,
  walk_prints : (r : WalkOutcome) → r.number < 100 → Prints (carried_walk line r s)
  unfolding carried_walk
  walk_prints r n = record { short = by_cond (λ l. length l ≤ line_room) (eqb r.number 0) {yes = []} {no = refusal_line line r.number} (λ e. omega arith) (λ e. refusal_length line r.number (omega arith) (omega arith)); sheet = f }

  -- end,
  end_prints : (w : Walk) → Prints (carried_end line w.count (end_call w s))
  unfolding carried_end end_call
  end_prints w =
      by_cond Fine (impossible_walk w || impossible_sheet s) (λ e. record { short = refusal_length line 28 (omega arith) (omega arith); sheet = f }) (λ possible.
      by_cond Fine (not w.is_open) (λ e. record { short = refusal_length line 21 (omega arith) (omega arith); sheet = f }) (λ o.
      by_cond Fine (ltb w.count 3) (λ e. record { short = refusal_length line 24 (omega arith) (omega arith); sheet = f }) (λ n.
      by_cond Fine (zero_area (closed_totals w)) (λ e. record { short = refusal_length line 32 (omega arith) (omega arith); sheet = f }) (λ area.
      by_cond Fine (leb 64 s.count) (λ e. record { short = refusal_length line 25 (omega arith) (omega arith); sheet = f }) (λ room.
      by_cond Fine (exceed total_limits (plus s.totals (added_totals w))) (λ e. record { short = refusal_length line 26 (omega arith) (omega arith); sheet = f }) (λ e.
      let both = both_failed (impossible_walk w) (impossible_sheet s) possible in
      let sums = exceed_fit total_limits (plus s.totals (added_totals w)) e in
      let count : s.count + 1 < 2 ^ 32 = omega (arith, leb-false 64 s.count room) in
      record {
        short = outline-length (s.count + 1) w.count (added_totals w) count (omega (arith, (possible_open w both.0 (not-false w.is_open o)).count)) (added_within s.totals (added_totals w) (exceed_fit total_limits s.totals (sheet_within s both.1)) sums);
        sheet = record { count = count; totals = wider (plus s.totals (added_totals w)) sums };
      }))))))
    where
      Fine : EndOutcome → Type 0
      Fine r = Prints (carried_end line w.count r)

  -- and so every line, whatever it asks for.
  pub line_prints : (form : Form) (w : Walk) → Prints (carry_out line form w s)
  unfolding carry_out
  line_prints (begin k) w = walk_prints _ (begin_small w _)
  line_prints end w = end_prints w
  line_prints abandon w = walk_prints _ (abandon_small w)
  line_prints other w = record { short = refusal_length line 9 (omega arith) (omega arith); sheet = f }
  line_prints (point x y) w = walk_prints _ (point_small w _)

-- ---- steps and calls

-- A state and a sheet whose numbers fit their types.
pub record Fits (st : State) (s : Sheet) : Type 0 where
  pub lines : st.lines < 2 ^ 32
  pub sheet : SheetFits s

-- A step writes one line at most, and leaves what fits.
pub record OneLine (r : Step) : Type 0 where
  pub short : length r.output ≤ line_room
  pub fits : Fits r.state r.sheet

module _ (final : Bool) (st : State) (s : Sheet) (chunk : List ℕ) (f : Fits st s) where
  near_line : Near final st chunk → OneLine (whole st s chunk (line_length chunk) (line_size chunk))
  near_line n =
      let p = line_prints (st.lines + 1) (omega (arith, f.lines)) s f.sheet (form_of (gone_bytes st ++ take (line_length chunk) chunk)) st.walk in
      record { short = p.short; fits = record { lines = omega (arith, near-lines st.lines (st.bytes + st.gone + line_size chunk) n.near); sheet = p.sheet } }

  case_line : (r : Step) → StepCase final st s chunk r → OneLine r
  case_line r (done e) = record { short = omega arith; fits = f }
  case_line r (ended on e) = record { short = sheet-length s f.sheet.count f.sheet.totals; fits = record { lines = f.lines; sheet = f.sheet } }
  case_line r (last q g h e) = record { short = sheet-length s f.sheet.count f.sheet.totals; fits = record { lines = f.lines; sheet = f.sheet } }
  case_line r (waits q g h plain near) = record { short = omega arith; fits = f }
  case_line r (far p e) = record { short = refusal_length (st.lines + 1) 10 (omega (arith, f.lines)) (omega arith); fits = record { lines = f.lines; sheet = f.sheet } }
  case_line r (newline n h) = near_line n
  case_line r (unended n g plain) = near_line n
  case_line r (holds n g plain h) = record { short = omega arith; fits = record { lines = f.lines; sheet = f.sheet } }

  -- So it is of every step.
  pub step_line : OneLine (step final st s chunk)
  step_line = case_line (step final st s chunk) (step_case final st s chunk)

-- A call writes no more than it has room for, and leaves what fits.
pub feed_room : (final : Bool) (st : State) (s : Sheet) (chunk : List ℕ) (room : ℕ) → Fits st s → (let r = feed_call final st s chunk room in (length r.output ≤ room) × Fits r.state r.sheet)
unfolding feed_call
feed_room final st s chunk room =
    steps_keep final (λ st s chunk room r. Fits st s → (length r.output ≤ room) × Fits r.state r.sheet)
    (record {
      none = λ st s chunk room f. (omega arith, f);
      one = λ st s chunk room h f. let l = step_line final st s chunk f in (omega (arith, l.short), l.fits);
      more = λ st s chunk room q h later f. let l = step_line final st s chunk f in let k = later l.fits in (simp length-append (omega (arith, l.short, k.0)), k.1);
    })
    (length chunk + 2) st s chunk room
