-- Document 02, CR 9, as statements: a fix beside the point call, what an outage answers, keeps and leaves alone, and 28 of the longest outage. proofs/EntryLaws has the proofs.
use Rattle.std.specs.Prelude.{◌≡◌, true, false, ◌||◌, ◌≢◌, Float}
use Rattle.std.specs.Float.Ieee.{lt}
use Rattle.receiver.specs.declared.Fix.{Fix as FixOf}
use Rattle.receiver.specs.declared.Entry.TheVariants.{Fix, Outage}
use Rattle.receiver.specs.Floats.{not_finite, below_zero}
use Rattle.outline.specs.declared.Position.{Position}
use Rattle.outline.specs.declared.Walk.{Walk}
use Rattle.outline.specs.FixCall.{fix_point, fix_not_finite}
use Rattle.outline.specs.WalkCalls.{impossible_walk, refused_walk, point_call}
use Rattle.outline.specs.EntryCalls.{entry_call}
use Rattle.outline.specs.CallLists.{Call, number_of}

abbrev pub FixAsPoint : Type 0
FixAsPoint =
    -- For every walk, also one handed in that no calls have made,
    (w : Walk)
    -- and every fix
    (f : FixOf)
    -- that is not answered with 33:
    → (entry_call w (Fix f)).number ≢ 33
    -- it is answered as the point call with the rounded point is, and leaves the same walk, refused or not.
    → entry_call w (Fix f) ≡ point_call w (fix_point f)

-- 33 is the answer for exactly the fixes with a float that is not finite, where 28 and 21 do not come first.
pub record Fix33 (w : Walk) (f : FixOf) : Type 0 where
  pub refused : impossible_walk w ≡ false → w.is_open ≡ true → fix_not_finite f ≡ true → entry_call w (Fix f) ≡ refused_walk 33 w
  pub only : (entry_call w (Fix f)).number ≡ 33 → (impossible_walk w ≡ false) × (w.is_open ≡ true) × (fix_not_finite f ≡ true)

-- An outage comes under 28, 21, 33 and 34, in that order, and under no other. What none of them refuses is accepted, and is kept if it is greater than the longest one so far.
pub record OutageNumbers (w : Walk) (seconds : Float) : Type 0 where
  pub not_open : impossible_walk w ≡ false → w.is_open ≡ false → entry_call w (Outage seconds) ≡ refused_walk 21 w
  pub not_finite_lem : impossible_walk w ≡ false → w.is_open ≡ true → not_finite seconds ≡ true → entry_call w (Outage seconds) ≡ refused_walk 33 w
  pub below_zero_lem : impossible_walk w ≡ false → w.is_open ≡ true → not_finite seconds ≡ false → below_zero seconds ≡ true → entry_call w (Outage seconds) ≡ refused_walk 34 w
  pub accepted : impossible_walk w ≡ false → w.is_open ≡ true → not_finite seconds ≡ false → below_zero seconds ≡ false → (entry_call w (Outage seconds)).number ≡ 0
  pub greater : (entry_call w (Outage seconds)).number ≡ 0 → lt w.outage seconds ≡ true → (entry_call w (Outage seconds)).walk.outage ≡ seconds
  pub not_greater : lt w.outage seconds ≡ false → (entry_call w (Outage seconds)).walk.outage ≡ w.outage

-- A point call, accepted or refused, keeps the longest outage of every walk. A fix does so too, as a point call does.
abbrev pub PointKeepsOutage : Type 0
PointKeepsOutage =
    -- For every walk
    (w : Walk)
    -- and every point:
    (p : Position)
    -- the longest outage stays.
    → (point_call w p).walk.outage ≡ w.outage

-- An outage, accepted or refused, adds no point: all of a walk but its longest outage stays.
pub record SamePoints (w left : Walk) : Type 0 where
  pub is_open : left.is_open ≡ w.is_open
  pub kind : left.kind ≡ w.kind
  pub count : left.count ≡ w.count
  pub first : left.first ≡ w.first
  pub last : left.last ≡ w.last
  pub totals : left.totals ≡ w.totals

abbrev pub OutageAddsNoPoint : Type 0
OutageAddsNoPoint =
    -- For every walk
    (w : Walk)
    -- and every outage:
    (seconds : Float)
    -- the points, the kind and the totals stay.
    → SamePoints w (entry_call w (Outage seconds)).walk

abbrev pub Outage28 : Type 0
Outage28 =
    -- For every walk
    (w : Walk)
    -- that is open
    → w.is_open ≡ true
    -- and whose longest outage 33 or 34 would refuse:
    → (not_finite w.outage || below_zero w.outage) ≡ true
    -- every call on it, with whatever sheet, answers 28.
    → (c : Call)
    → number_of w c ≡ 28
