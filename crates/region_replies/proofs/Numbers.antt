-- 100 tells a short buffer from everything else: no outcome has a number as high, so the region call answers 100 only where its buffer is too short.
use Prim.Native.Nat.{◌<◌}
use mathlib.Core.Path.{◌≡◌}
use mathlib.Core.List.{List}
use native.Mathlib.Omega.{arith}
use lib.IntN.{ℤ}
use lib.ListN.{length}
use Rattle.cells.specs.declared.Run.{Run}
use Rattle.cells.specs.RegionCall.{RegionOutcome, region_call}
use Rattle.cells.proofs.RegionCases.{RegionCase, eight, six, seven, taken, region_case}
use Rattle.replies.specs.Reply.{short_buffer}
use Rattle.replies.proofs.ShortBuffer.{only_short}
use Rattle.region_replies.specs.RegionReply.{region_reply}

region-number : (rs : List Run) → (region_call rs).number < short_buffer
region-number rs = go (region_case rs)
  where
    go : {o : RegionOutcome} → RegionCase rs o → o.number < short_buffer
    go (eight many) = omega arith
    go (six few bad) = omega arith
    go (seven few good wrong) = omega arith
    go (taken few good ordered) = omega arith

pub region_short : (rs : List Run) (out : List ℤ) → (region_reply (region_call rs) out).number ≡ short_buffer → length out < 7
region_short rs out = only_short (region_call rs).number _ out (region-number rs)
