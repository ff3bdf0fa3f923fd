-- 100 tells a short buffer from everything else: a reply whose own number is below 100 has the number 100 only where its buffer is too short.
use Prim.Native.Nat.{ℕ, ◌<◌}
use mathlib.Core.Path.{◌≡◌, refl}
use mathlib.Core.Bool.{Bool, true, false, cond}
use mathlib.Core.List.{List, ◌++◌}
use native.Mathlib.Omega.{arith}
use borrow.Author.Tests.{ltb-true}
use lib.Dec.{ltb}
use lib.IntN.{ℤ}
use lib.ListN.{length, drop}
use Rattle.replies.specs.Reply.{Reply, short_buffer, reply}

pub only_short : (number : ℕ) (values buffer : List ℤ) → number < short_buffer → (reply number values buffer).number ≡ short_buffer → length buffer < length values
unfolding reply
only_short number values buffer h = by_test (ltb (length buffer) (length values)) refl
  where
    by_test : (short : Bool) → ltb (length buffer) (length values) ≡ short → (cond {A = Reply} short (record { number = short_buffer; buffer = buffer }) (record { number = number; buffer = values ++ drop (length values) buffer })).number ≡ short_buffer → length buffer < length values
    by_test true e k = ltb-true (length buffer) (length values) e
    by_test false e k = absurd (omega (arith, h, k))
