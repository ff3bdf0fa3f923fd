-- 100 tells a short buffer from everything else: no outcome has a number as high, so a call answers 100 only where its buffer is too short.
use Prim.Native.Nat.{◌<◌}
use mathlib.Core.Path.{◌≡◌}
use mathlib.Core.Bool.{Bool, true, false, cond}
use mathlib.Core.List.{List}
use native.Mathlib.Omega.{arith}
use lib.Dec.{eqb}
use lib.IntN.{ℤ, nat_abs}
use lib.ListN.{length}
use Rattle.outline.specs.declared.AffineMap.{AffineMap}
use Rattle.outline.specs.declared.Totals.{Totals}
use Rattle.outline.specs.EdgeSums.{exceed, outline_bounds, outline_totals}
use Rattle.outline.specs.ListCall.{accepted, refused, points, wrong_length, any_outside, list_call}
use Rattle.outline.specs.MapCall.{disallowed, mapped, total_limits, map_call}
use Rattle.centroid.specs.Centroid.{CentroidOutcome, refused as no_centre_lem, centred, outline_centroid_call}
use Rattle.replies.specs.Reply.{short_buffer}
use Rattle.replies.proofs.ShortBuffer.{only_short}
use Rattle.outline_replies.specs.OutlineReply.{totals_reply, centre_reply}

pub list-number : (zs : List ℤ) → (list_call zs).number < short_buffer
unfolding list_call
list-number zs = by_tests (wrong_length zs) (any_outside (points zs)) (outline_totals (points zs))
  where
    by_tests : (two one : Bool) (t : Totals) → (cond two (refused 2) (cond one (refused 1) (accepted t))).number < short_buffer
    by_tests true one t = omega arith
    by_tests false true t = omega arith
    by_tests false false t = omega arith

map-number : (m : AffineMap) (t : Totals) → (map_call m t).number < short_buffer
unfolding map_call
map-number m t = by_tests (disallowed m) (exceed outline_bounds t) (exceed total_limits (mapped m t)) (mapped m t)
  where
    by_tests : (three four five : Bool) (s : Totals) → (cond three (refused 3) (cond four (refused 4) (cond five (refused 5) (accepted s)))).number < short_buffer
    by_tests true four five s = omega arith
    by_tests false true five s = omega arith
    by_tests false false true s = omega arith
    by_tests false false false s = omega arith

centre-number : (t : Totals) → (outline_centroid_call t).number < short_buffer
unfolding outline_centroid_call
centre-number t = by_tests (exceed total_limits t) (eqb (nat_abs t.a2) 0) (centred _ _ _) (omega arith)
  where
    by_tests : (eleven none : Bool) (o : CentroidOutcome) → o.number < short_buffer → (cond eleven (no_centre_lem 11) (cond none (no_centre_lem 27) o)).number < short_buffer
    by_tests true none o h = omega arith
    by_tests false true o h = omega arith
    by_tests false false o h = h

pub list_short : (zs out : List ℤ) → (totals_reply (list_call zs) out).number ≡ short_buffer → length out < 6
list_short zs out = only_short (list_call zs).number _ out (list-number zs)

pub map_short : (m : AffineMap) (t : Totals) (out : List ℤ) → (totals_reply (map_call m t) out).number ≡ short_buffer → length out < 6
map_short m t out = only_short (map_call m t).number _ out (map-number m t)

pub centre_short : (t : Totals) (out : List ℤ) → (centre_reply (outline_centroid_call t) out).number ≡ short_buffer → length out < 2
centre_short t out = only_short (outline_centroid_call t).number _ out (centre-number t)
