-- Demand 1: whatever the number, a call that is not accepted answers zeros and hands walk and sheet back as they came. And 28 is the answer for exactly the
-- walks and sheets that it refuses.
use mathlib.Core.Path.{◌≡◌, refl, sym, ◌∙◌}
use mathlib.Core.Bool.{Bool, true, false, ◌||◌, cond, or-false}
use mathlib.Core.List.{List}
use mathlib.Core.Logic.{◌≢◌}
use Prim.Native.Nat.{ℕ}
use native.Mathlib.Omega.{arith}
use lib.IntN.{ℤ}
use Rattle.receiver.specs.declared.Entry.TheVariants.{Fix, Outage}
use Rattle.receiver.specs.Floats.{plus_zero}
use borrow.Author.Tests.{eqb-false, le-ltb}
use Rattle.outline.specs.declared.Totals.{Totals}
use Rattle.outline.specs.declared.AffineMap.{AffineMap}
use Rattle.outline.specs.declared.Walk.{Walk}
use Rattle.outline.specs.declared.Sheet.{Sheet}
use Rattle.outline.specs.EdgeSums.{outline_totals, zeros, exceed, outline_bounds}
use Rattle.outline.specs.ListCall.{accepted, refused, points, any_outside, wrong_length, list_call}
use Rattle.outline.specs.MapCall.{disallowed, mapped, total_limits, map_call}
use Rattle.outline.specs.WalkCalls.{closed_totals, zero_area, impossible_walk, impossible_sheet, EndOutcome, refused_end, begin_call, point_call, end_call, abandon_call}
use Rattle.outline.specs.EntryCalls.{fix_call, outage_call, entry_call}
use Rattle.outline.specs.CallLists.{Call, begin, point, entry, end, abandon, number_of, walk_after, impossible_sheet_in}
use Rattle.outline.specs.WalkedOutline.{Closable}
use Rattle.integers.proofs.Flags.{neither}
use Rattle.outline.proofs.CallCases as Case

-- ---- the calls that answer totals alone

pub list-zeros : (zs : List ℤ) → (list_call zs).number ≢ 0 → (list_call zs).totals ≡ zeros
unfolding list_call
list-zeros zs = go (wrong_length zs) (any_outside (points zs))
  where
    go : (a b : Bool) → (let r = cond a (refused 2) (cond b (refused 1) (accepted (outline_totals (points zs)))) in r.number ≢ 0 → r.totals ≡ zeros)
    go true b n = refl
    go false true n = refl
    go false false n = absurd (n refl)

pub map-zeros : (m : AffineMap) (t : Totals) → (map_call m t).number ≢ 0 → (map_call m t).totals ≡ zeros
unfolding map_call
map-zeros m t = go (disallowed m) (exceed outline_bounds t) (exceed total_limits (mapped m t))
  where
    go : (a b c : Bool) → (let r = cond a (refused 3) (cond b (refused 4) (cond c (refused 5) (accepted (mapped m t)))) in r.number ≢ 0 → r.totals ≡ zeros)
    go true b c n = refl
    go false true c n = refl
    go false false true n = refl
    go false false false n = absurd (n refl)

-- 3 is the answer for exactly the maps that are not allowed, whatever the totals.
pub first_3 : (m : AffineMap) (t : Totals) → disallowed m ≡ true → (map_call m t).number ≡ 3
unfolding map_call
first_3 m t e = rw e

pub not_3 : (m : AffineMap) (t : Totals) → (map_call m t).number ≢ 3 → disallowed m ≡ false
not_3 m t n = go (disallowed m) refl
  where
    go : (b : Bool) → disallowed m ≡ b → disallowed m ≡ false
    go true e = absurd (n (first_3 m t e))
    go false e = e

pub allowed_not_3 : (m : AffineMap) (t : Totals) → disallowed m ≡ false → (map_call m t).number ≢ 3
unfolding map_call
allowed_not_3 m t e = rw e (go (exceed outline_bounds t) (exceed total_limits (mapped m t)))
  where
    go : (b c : Bool) → (cond b (refused 4) (cond c (refused 5) (accepted (mapped m t)))).number ≢ 3
    go true c = λ h. omega arith
    go false true = λ h. omega arith
    go false false = λ h. omega arith

-- ---- the calls on a walk

-- A refused call of any kind leaves the walk as it was.
pub walk_unchanged : (w : Walk) (c : Call) → number_of w c ≢ 0 → walk_after w c ≡ w
walk_unchanged w c = go (number_of w c) (walk_after w c) (Case.call_case w c)
  where
    go : (n : ℕ) (left : Walk) → Case.CallCase w c n left → n ≢ 0 → left ≡ w
    go n left (Case.refused k r) h = refl
    go n left (Case.accepted k) h = absurd (h refl)

-- A refused end gives zeros, and plus zero for the longest outage, and leaves the sheet as it was.
pub end_unchanged : (w : Walk) (s : Sheet) → (end_call w s).number ≢ 0 → ((end_call w s).totals ≡ zeros) × ((end_call w s).outage ≡ plus_zero) × ((end_call w s).sheet ≡ s)
end_unchanged w s = go (end_call w s) (Case.end_case w s)
  where
    go : (e : EndOutcome) → Case.EndCase w s e → e.number ≢ 0 → (e.totals ≡ zeros) × (e.outage ≡ plus_zero) × (e.sheet ≡ s)
    go e (Case.refused k r) h = (refl, refl, refl)
    go e (Case.accepted k) h = absurd (h refl)

-- A call with a walk and a sheet that 28 does not refuse is not answered with 28.
pub not_28 : (w : Walk) → impossible_walk w ≡ false → (c : Call) → impossible_sheet_in c ≡ false → number_of w c ≢ 28
not_28 w e c f = go (number_of w c) (walk_after w c) (Case.call_case w c)
  where
    go : (n : ℕ) (left : Walk) → Case.CallCase w c n left → n ≢ 28
    go n left (Case.refused k r) = r.only_28 (neither e f)
    go n left (Case.accepted k) = λ h. omega arith

-- 28 comes first: a call with a walk or a sheet that 28 refuses is answered with 28, whatever else is wrong.
pub first_28 : (w : Walk) (c : Call) → (impossible_walk w || impossible_sheet_in c) ≡ true → number_of w c ≡ 28
unfolding number_of impossible_sheet_in begin_call point_call entry_call fix_call outage_call end_call abandon_call
first_28 w (begin k) e = rw (sym (or-false (impossible_walk w)) ∙ e, number_of)
first_28 w (point p) e = rw (sym (or-false (impossible_walk w)) ∙ e, number_of)
first_28 w (entry (Fix f)) e = rw (sym (or-false (impossible_walk w)) ∙ e, number_of)
first_28 w (entry (Outage seconds)) e = rw (sym (or-false (impossible_walk w)) ∙ e, number_of)
first_28 w (end s) e = rw (e, number_of)
first_28 w abandon e = rw (sym (or-false (impossible_walk w)) ∙ e, number_of)

-- ---- 32

-- A walk of zero area is refused with 32, by every sheet that 28 takes,
pub end_32 : (w : Walk) (s : Sheet) → impossible_walk w ≡ false → impossible_sheet s ≡ false → Closable w → zero_area (closed_totals w) ≡ true → end_call w s ≡ refused_end 32 w s
unfolding end_call
end_32 w s e f c z = rw (e, f, c.is_open, le-ltb w.count 3 c.enough, z)

-- and no other is.
pub only_32 : (w : Walk) (s : Sheet) → (end_call w s).number ≡ 32 → Closable w × (zero_area (closed_totals w) ≡ true)
only_32 w s = go (end_call w s) (Case.end_case w s)
  where
    go : (e : EndOutcome) → Case.EndCase w s e → e.number ≡ 32 → Closable w × (zero_area (closed_totals w) ≡ true)
    go e (Case.refused k r) h = r.only_32 h
    go e (Case.accepted k) h = absurd (eqb-false 0 32 refl h)
