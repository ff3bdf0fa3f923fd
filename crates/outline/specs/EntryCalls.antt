-- Document 02, CR 9, and the refusals 28, 21, 33, 34, 1 and 23: the outcome of an entry of a receiver given to a walk.
use Rattle.std.specs.Prelude.{not, cond, Float}
use Rattle.std.specs.Float.Ieee.{lt}
use Rattle.receiver.specs.declared.Fix.{Fix as FixOf}
use Rattle.receiver.specs.declared.Entry.{Entry}
use Rattle.receiver.specs.declared.Entry.TheVariants.{Fix, Outage}
use Rattle.receiver.specs.Floats.{not_finite, below_zero}
use Rattle.outline.specs.declared.Walk.{Walk}
use Rattle.outline.specs.FixCall.{fix_point, fix_not_finite}
use Rattle.outline.specs.WalkCalls.{open_walk, impossible_walk, WalkOutcome, refused_walk, point_call}

-- The longest outage, after one more of so many seconds: replaced only by a greater one.
unfoldable pub longer : Float → Float → Float
longer kept seconds = cond (lt kept seconds) seconds kept

-- The open walk after an outage, which adds no point: all but the longest outage stays.
abbrev pub with_outage : Walk → Float → Walk
with_outage w seconds = open_walk w.kind w.count w.first w.last w.totals (longer w.outage seconds)

-- Order: 28, 21, 33, 1, 23. Where 28, 21 and 33 do not come, a fix is the point call with the rounded point.
unfoldable pub fix_call : Walk → FixOf → WalkOutcome
fix_call w f =
    cond (impossible_walk w) (refused_walk 28 w)
    (cond (not w.is_open) (refused_walk 21 w)
    (cond (fix_not_finite f) (refused_walk 33 w)
    (point_call w (fix_point f))))

-- Order: 28, 21, 33, 34. A full walk takes an outage too.
unfoldable pub outage_call : Walk → Float → WalkOutcome
outage_call w seconds =
    cond (impossible_walk w) (refused_walk 28 w)
    (cond (not w.is_open) (refused_walk 21 w)
    (cond (not_finite seconds) (refused_walk 33 w)
    (cond (below_zero seconds) (refused_walk 34 w)
    (record { number = 0; walk = with_outage w seconds }))))

unfoldable pub entry_call : Walk → Entry → WalkOutcome
entry_call w (Fix f) = fix_call w f
entry_call w (Outage seconds) = outage_call w seconds
