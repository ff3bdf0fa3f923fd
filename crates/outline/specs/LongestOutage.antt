-- Document 02, CR 9, as statements: the longest outage that a walk keeps, and what begin, end and abandon do with it. proofs/LongestOutage has the proofs.
use Rattle.std.specs.Prelude.{◌≡◌, true, false, ◌≢◌, ◌⊎◌, Float}
use mathlib.Core.List.{List, Memᴰ}
use Rattle.std.specs.Float.Ieee.{lt}
use Rattle.receiver.specs.Floats.{plus_zero}
use Rattle.outline.specs.declared.Kind.{Kind}
use Rattle.outline.specs.declared.Walk.{Walk}
use Rattle.outline.specs.declared.Sheet.{Sheet}
use Rattle.outline.specs.WalkCalls.{begin_call, end_call, abandon_call}
use Rattle.outline.specs.CallLists.{Walking, reached}

-- What is claimed of the greatest of a first float and some more, by the order of numbers. One that is only equal to the first does not take its place: minus zero does not stand for
-- plus zero. Of plus zero and floats of 32 bits there is one greatest (proofs/LongestOutage, greatest-unique).
pub record Greatest (first : Float) (more : List Float) (x : Float) : Type 0 where
  -- It is the first, or one of the others, greater than the first,
  pub one_of : (x ≡ first) ⊎ ((lt first x ≡ true) × Memᴰ x more)
  -- and none of the others is greater.
  pub none-greater : (o : Float) → Memᴰ o more → lt x o ≡ false

abbrev pub LongestOutage : Type 0
LongestOutage =
    -- For every walk marked closed and every list of calls from it on, entries among them, refused ones included,
    (k : Walking)
    -- that leave the walk open:
    → (reached k).walk.is_open ≡ true
    -- its longest outage is the greatest of plus zero and the outages accepted since the last accepted begin.
    → Greatest plus_zero (reached k).ring.outages (reached k).walk.outage

-- What is claimed of the longest outage at an end, for every walk and sheet, also such as no calls have made.
pub record OutageAtEnd (w : Walk) (s : Sheet) : Type 0 where
  -- An accepted end answers that of the walk as it stands, and leaves plus zero;
  pub answered : (end_call w s).number ≡ 0 → (end_call w s).outage ≡ w.outage
  pub left : (end_call w s).number ≡ 0 → (end_call w s).walk.outage ≡ plus_zero
  -- a refused one answers plus zero, and leaves that of the walk.
  pub refused : (end_call w s).number ≢ 0 → (end_call w s).outage ≡ plus_zero
  pub kept : (end_call w s).number ≢ 0 → (end_call w s).walk.outage ≡ w.outage

-- An accepted begin or abandon leaves plus zero.
pub record OutageCleared (w : Walk) : Type 0 where
  pub begun : (k : Kind) → (begin_call w k).number ≡ 0 → (begin_call w k).walk.outage ≡ plus_zero
  pub abandoned : (abandon_call w).number ≡ 0 → (abandon_call w).walk.outage ≡ plus_zero
