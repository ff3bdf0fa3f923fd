-- 100 tells a short buffer from everything else: no outcome of the call has a number as high, so it answers 100 only where its buffer is too short.
use Prim.Native.Nat.{◌<◌}
use mathlib.Core.Path.{◌≡◌}
use mathlib.Core.Bool.{Bool, true, false, cond}
use mathlib.Core.List.{List}
use native.Mathlib.Omega.{arith}
use lib.IntN.{ℤ}
use lib.ListN.{length}
use Rattle.outline.specs.ListCall.{points, any_beyond, any_outside, wrong_length}
use Rattle.replies.specs.Reply.{short_buffer}
use Rattle.replies.proofs.ShortBuffer.{only_short}
use Rattle.third_order.specs.ThirdTerms.{third_totals}
use Rattle.third_order.specs.ThirdCall.{accepted_thirds, refused_thirds, third_limit, third_call}
use Rattle.third_replies.specs.ThirdReply.{third_reply}

third_number : (zs : List ℤ) → (third_call zs).number < short_buffer
unfolding third_call
third_number zs = by_tests (wrong_length zs) (any_outside (points zs)) (any_beyond third_limit (points zs))
  where
    by_tests : (shape outside far : Bool) → (cond shape (refused_thirds 2) (cond outside (refused_thirds 1) (cond far (refused_thirds 35) (accepted_thirds (third_totals (points zs)))))).number < short_buffer
    by_tests true outside far = omega arith
    by_tests false true far = omega arith
    by_tests false false true = omega arith
    by_tests false false false = omega arith

pub third_short : (zs out : List ℤ) → (third_reply (third_call zs) out).number ≡ short_buffer → length out < 4
third_short zs out = only_short (third_call zs).number _ out (third_number zs)
