-- Each call is refused, and leaves everything as it was, or is accepted for reasons that are listed. All that is shown of the calls goes by these cases.
use mathlib.Core.Path.{◌≡◌, refl, sym, ◌∙◌}
use mathlib.Core.Bool.{Bool, true, false, not, ◌||◌, cond, true≢false}
use mathlib.Core.Logic.{◌≢◌}
use Prim.Native.Nat.{ℕ, ◌<◌}
use lib.Dec.{leb, ltb, eqb}
use lib.Ieee.{Float}
use borrow.Author.Tests.{ltb-false, leb-false, eqb-false, not-false}
use Rattle.integers.proofs.Cases.{by_cond}
use Rattle.receiver.specs.declared.Fix.{Fix as FixOf}
use Rattle.receiver.specs.declared.Entry.TheVariants.{Fix, Outage}
use Rattle.receiver.specs.Floats.{not_finite, below_zero}
use Rattle.outline.specs.declared.Position.{Position}
use Rattle.outline.specs.declared.Kind.{Kind}
use Rattle.outline.specs.declared.Walk.{Walk}
use Rattle.outline.specs.declared.Sheet.{Sheet}
use Rattle.outline.specs.EdgeSums.{plus, exceed}
use Rattle.outline.specs.ListCall.{outside}
use Rattle.outline.specs.MapCall.{total_limits}
use Rattle.outline.specs.FixCall.{fix_point, fix_not_finite}
use Rattle.outline.specs.WalkCalls.{opened, closed, extended, closed_totals, zero_area, added_totals, impossible_walk, impossible_sheet, WalkOutcome, EndOutcome, refused_walk, refused_end, begin_call, point_call, end_call, abandon_call}
use Rattle.outline.specs.EntryCalls.{with_outage, fix_call, outage_call, entry_call}
use Rattle.outline.specs.CallLists.{Call, begin, point, entry, end, abandon, number_of, walk_after, impossible_sheet_in}
use Rattle.outline.specs.WalkedOutline.{Closable}
use Rattle.outline.specs.EveryOutline.{ended_with}

-- The number of a refusal: not 0, and 28 only where 28 refuses the walk or the sheet.
pub record Refusal (impossible : Bool) (n : ℕ) : Type 0 where
  pub not_0 : n ≢ 0
  pub only_28 : impossible ≡ false → n ≢ 28

number_28 : {impossible : Bool} → impossible ≡ true → Refusal impossible 28
number_28 e = record { not_0 = eqb-false 28 0 refl; only_28 = λ f. absurd (true≢false (sym e ∙ f)) }

other : (n : ℕ) {impossible : Bool} → eqb n 0 ≡ false → eqb n 28 ≡ false → Refusal impossible n
other n e f = record { not_0 = eqb-false n 0 e; only_28 = λ g. eqb-false n 28 f }

-- ---- end

pub record Ends (w : Walk) (s : Sheet) : Type 0 where
  pub closable : Closable w
  pub area : zero_area (closed_totals w) ≡ false
  pub room : s.count < 64
  pub within : exceed total_limits (plus s.totals (added_totals w)) ≡ false

-- The number of a refused end: 32 only for a ring of zero area.
pub record EndRefusal (w : Walk) (s : Sheet) (n : ℕ) : Type 0 where
  pub refusal : Refusal (impossible_walk w || impossible_sheet s) n
  pub only_32 : n ≡ 32 → Closable w × (zero_area (closed_totals w) ≡ true)

pub data EndCase (w : Walk) (s : Sheet) : EndOutcome → Type 0 where
  refused : (n : ℕ) → EndRefusal w s n → EndCase w s (refused_end n w s)
  accepted : Ends w s → EndCase w s (ended_with s (added_totals w) w.outage)

-- The end of a walk, by what its tests give.
abbrev pub by_tests : Walk → Sheet → (a b c d f g : Bool) → EndOutcome
by_tests w s a b c d f g =
    cond a (refused_end 28 w s) (cond b (refused_end 21 w s) (cond c (refused_end 24 w s) (cond d (refused_end 32 w s) (cond f (refused_end 25 w s) (cond g (refused_end 26 w s) (ended_with s (added_totals w) w.outage))))))

-- P of the end, whatever its tests give.
abbrev pub EveryEnd : Walk → Sheet → (EndOutcome → Type 0) → Type 0
EveryEnd w s P =
    (a b c d f g : Bool) →
    (impossible_walk w || impossible_sheet s) ≡ a →
    not w.is_open ≡ b →
    ltb w.count 3 ≡ c →
    zero_area (closed_totals w) ≡ d →
    leb 64 s.count ≡ f →
    exceed total_limits (plus s.totals (added_totals w)) ≡ g →
    P (by_tests w s a b c d f g)

pub end_by : (w : Walk) (s : Sheet) (P : EndOutcome → Type 0) → EveryEnd w s P → P (end_call w s)
unfolding end_call
end_by w s P k = k (impossible_walk w || impossible_sheet s) (not w.is_open) (ltb w.count 3) (zero_area (closed_totals w)) (leb 64 s.count) (exceed total_limits (plus s.totals (added_totals w))) refl refl refl refl refl refl

pub end_case : (w : Walk) (s : Sheet) → EndCase w s (end_call w s)
end_case w s = end_by w s (EndCase w s) go
  where
    closable : not w.is_open ≡ false → ltb w.count 3 ≡ false → Closable w
    closable e f = record { is_open = not-false w.is_open e; enough = ltb-false w.count 3 f }

    plain : (n : ℕ) → eqb n 32 ≡ false → Refusal (impossible_walk w || impossible_sheet s) n → EndCase w s (refused_end n w s)
    plain n e r = refused n (record { refusal = r; only_32 = λ h. absurd (eqb-false n 32 e h) })

    go : EveryEnd w s (EndCase w s)
    go true b c d f g ea eb ec ed ef eg = plain 28 refl (number_28 ea)
    go false true c d f g ea eb ec ed ef eg = plain 21 refl (other 21 refl refl)
    go false false true d f g ea eb ec ed ef eg = plain 24 refl (other 24 refl refl)
    go false false false true f g ea eb ec ed ef eg = refused 32 (record { refusal = other 32 refl refl; only_32 = λ h. (closable eb ec, ed) })
    go false false false false true g ea eb ec ed ef eg = plain 25 refl (other 25 refl refl)
    go false false false false false true ea eb ec ed ef eg = plain 26 refl (other 26 refl refl)
    go false false false false false false ea eb ec ed ef eg = accepted (record { closable = closable eb ec; area = ed; room = leb-false 64 s.count ef; within = eg })

-- An accepted end: why it is accepted, and all that it answers and leaves.
pub end-accepted : (w : Walk) (s : Sheet) → (end_call w s).number ≡ 0 → Ends w s × (end_call w s ≡ ended_with s (added_totals w) w.outage)
end-accepted w s = go (end_call w s) (end_case w s)
  where
    go : (e : EndOutcome) → EndCase w s e → e.number ≡ 0 → Ends w s × (e ≡ ended_with s (added_totals w) w.outage)
    go e (refused n h) z = absurd (h.refusal.not_0 z)
    go e (accepted h) z = (h, refl)

-- ---- point

-- Why a point is accepted.
pub record Extends (w : Walk) (p : Position) : Type 0 where
  pub is_open : w.is_open ≡ true
  pub inside : outside p ≡ false
  pub room : w.count < 1024

-- The number of a refused point is never 33, which is a fix's alone.
pub data PointCase (w : Walk) (p : Position) : WalkOutcome → Type 0 where
  refused : (n : ℕ) → Refusal (impossible_walk w || false) n → n ≢ 33 → PointCase w p (refused_walk n w)
  accepted : Extends w p → PointCase w p (record { number = 0; walk = extended w p })

pub point_case : (w : Walk) (p : Position) → PointCase w p (point_call w p)
unfolding point_call
point_case w p = go (impossible_walk w) (not w.is_open) (outside p) (leb 1024 w.count) refl refl refl refl
  where
    go : (a b c d : Bool) → impossible_walk w ≡ a → not w.is_open ≡ b → outside p ≡ c → leb 1024 w.count ≡ d → PointCase w p (cond a (refused_walk 28 w) (cond b (refused_walk 21 w) (cond c (refused_walk 1 w) (cond d (refused_walk 23 w) (record { number = 0; walk = extended w p })))))
    go true b c d ea eb ec ed = refused 28 (number_28 (rw ea)) (eqb-false 28 33 refl)
    go false true c d ea eb ec ed = refused 21 (other 21 refl refl) (eqb-false 21 33 refl)
    go false false true d ea eb ec ed = refused 1 (other 1 refl refl) (eqb-false 1 33 refl)
    go false false false true ea eb ec ed = refused 23 (other 23 refl refl) (eqb-false 23 33 refl)
    go false false false false ea eb ec ed = accepted (record { is_open = not-false w.is_open eb; inside = ec; room = leb-false 1024 w.count ed })

-- ---- an outage

-- Why an outage is accepted.
pub record TakesOutage (w : Walk) (seconds : Float) : Type 0 where
  pub is_open : w.is_open ≡ true
  pub finite : not_finite seconds ≡ false
  pub not_below : below_zero seconds ≡ false

pub data OutageCase (w : Walk) (seconds : Float) : WalkOutcome → Type 0 where
  refused : (n : ℕ) → Refusal (impossible_walk w || false) n → OutageCase w seconds (refused_walk n w)
  accepted : TakesOutage w seconds → OutageCase w seconds (record { number = 0; walk = with_outage w seconds })

pub outage_case : (w : Walk) (seconds : Float) → OutageCase w seconds (outage_call w seconds)
unfolding outage_call
outage_case w seconds =
    by_cond (OutageCase w seconds) (impossible_walk w) (λ e. refused 28 (number_28 (rw e))) (λ _.
    by_cond (OutageCase w seconds) (not w.is_open) (λ _. refused 21 (other 21 refl refl)) (λ o.
    by_cond (OutageCase w seconds) (not_finite seconds) (λ _. refused 33 (other 33 refl refl)) (λ f.
    by_cond (OutageCase w seconds) (below_zero seconds) (λ _. refused 34 (other 34 refl refl)) (λ b.
    accepted (record { is_open = not-false w.is_open o; finite = f; not_below = b })))))

-- ---- every call, by its number and the walk that it leaves

pub data Taken (w : Walk) : Call → Walk → Type 0 where
  begun : (k : Kind) → w.is_open ≡ false → Taken w (begin k) (opened k)
  extends : (p : Position) → Extends w p → Taken w (point p) (extended w p)
  fixes : (f : FixOf) → Extends w (fix_point f) → Taken w (entry (Fix f)) (extended w (fix_point f))
  takes_outage : (seconds : Float) → TakesOutage w seconds → Taken w (entry (Outage seconds)) (with_outage w seconds)
  ends : (s : Sheet) → Ends w s → Taken w (end s) closed
  abandoned : w.is_open ≡ true → Taken w abandon closed

pub data CallCase (w : Walk) (c : Call) : ℕ → Walk → Type 0 where
  refused : (n : ℕ) → Refusal (impossible_walk w || impossible_sheet_in c) n → CallCase w c n w
  accepted : {left : Walk} → Taken w c left → CallCase w c 0 left

pub call_case : (w : Walk) (c : Call) → CallCase w c (number_of w c) (walk_after w c)
unfolding number_of walk_after impossible_sheet_in begin_call abandon_call entry_call fix_call
call_case w (begin k) = go (impossible_walk w) w.is_open refl refl
  where
    go : (a b : Bool) → impossible_walk w ≡ a → w.is_open ≡ b → (let r = cond a (refused_walk 28 w) (cond b (refused_walk 22 w) (record { number = 0; walk = opened k })) in CallCase w (begin k) r.number r.walk)
    go true b ea eb = refused 28 (number_28 (rw ea))
    go false true ea eb = refused 22 (other 22 refl refl)
    go false false ea eb = accepted (begun k eb)
call_case w (point p) = go (point_call w p) (point_case w p)
  where
    go : (r : WalkOutcome) → PointCase w p r → CallCase w (point p) r.number r.walk
    go r (refused n h k) = refused n h
    go r (accepted h) = accepted (extends p h)
call_case w (entry (Fix f)) =
    by_cond Left (impossible_walk w) (λ e. refused 28 (number_28 (rw e))) (λ _.
    by_cond Left (not w.is_open) (λ _. refused 21 (other 21 refl refl)) (λ _.
    by_cond Left (fix_not_finite f) (λ _. refused 33 (other 33 refl refl)) (λ _.
    as_point (point_call w (fix_point f)) (point_case w (fix_point f)))))
  where
    Left : WalkOutcome → Type 0
    Left r = CallCase w (entry (Fix f)) r.number r.walk

    as_point : (r : WalkOutcome) → PointCase w (fix_point f) r → Left r
    as_point r (refused n h k) = refused n h
    as_point r (accepted h) = accepted (fixes f h)
call_case w (entry (Outage seconds)) = go (outage_call w seconds) (outage_case w seconds)
  where
    go : (r : WalkOutcome) → OutageCase w seconds r → CallCase w (entry (Outage seconds)) r.number r.walk
    go r (refused n h) = refused n h
    go r (accepted h) = accepted (takes_outage seconds h)
call_case w (end s) = go (end_call w s) (end_case w s)
  where
    go : (e : EndOutcome) → EndCase w s e → CallCase w (end s) e.number e.walk
    go e (refused n r) = refused n r.refusal
    go e (accepted k) = accepted (ends s k)
call_case w abandon = go (impossible_walk w) (not w.is_open) refl refl
  where
    go : (a b : Bool) → impossible_walk w ≡ a → not w.is_open ≡ b → (let r = cond a (refused_walk 28 w) (cond b (refused_walk 21 w) (record { number = 0; walk = closed })) in CallCase w abandon r.number r.walk)
    go true b ea eb = refused 28 (number_28 (rw ea))
    go false true ea eb = refused 21 (other 21 refl refl)
    go false false ea eb = accepted (abandoned (not-false w.is_open eb))
