-- 100 tells a short buffer from everything else: no outcome of a fix has a number as high, so the call answers 100 only where its buffer is too short.
use Prim.Native.Nat.{◌<◌}
use mathlib.Core.Path.{◌≡◌}
use mathlib.Core.Bool.{Bool, true, false, cond}
use mathlib.Core.List.{List}
use native.Mathlib.Omega.{arith}
use lib.IntN.{ℤ}
use lib.ListN.{length}
use Rattle.receiver.specs.declared.Fix.{Fix}
use Rattle.outline.specs.declared.Position.{Position}
use Rattle.outline.specs.ListCall.{outside}
use Rattle.outline.specs.FixCall.{no_point, fix_point, fix_not_finite, fix_point_call}
use Rattle.replies.specs.Reply.{short_buffer}
use Rattle.replies.proofs.ShortBuffer.{only_short}
use Rattle.fix_replies.specs.FixReply.{fix_reply}

fix-number : (f : Fix) → (fix_point_call f).number < short_buffer
unfolding fix_point_call
fix-number f = by_tests (fix_not_finite f) (outside (fix_point f)) (fix_point f)
  where
    by_tests : (not-Finite far : Bool) (p : Position) → (cond not-Finite (no_point 33) (cond far (no_point 1) (record { number = 0; point = p }))).number < short_buffer
    by_tests true far p = omega arith
    by_tests false true p = omega arith
    by_tests false false p = omega arith

pub fix_short : (f : Fix) (out : List ℤ) → (fix_reply (fix_point_call f) out).number ≡ short_buffer → length out < 2
fix_short f out = only_short (fix_point_call f).number _ out (fix-number f)
