-- 100 tells a short buffer from everything else: no comparison has a number as high, so the call answers 100 only where its buffer is too short.
use Prim.Native.Nat.{◌<◌}
use mathlib.Core.Path.{◌≡◌}
use mathlib.Core.List.{List}
use lib.Dec.{eqb}
use lib.IntN.{ℤ}
use lib.ListN.{length}
use Rattle.integers.proofs.Cases.{by_cond}
use Rattle.outline.specs.ListCall.{list_call}
use Rattle.two_walks.specs.Comparison.{comparison_number, figures_call, part_of}
use Rattle.replies.specs.Reply.{short_buffer}
use Rattle.replies.proofs.ShortBuffer.{only_short}
use Rattle.outline_replies.proofs.Numbers.{list-number}
use Rattle.comparison_replies.specs.ComparisonReply.{comparison_reply}

comparison_number_lem : (first second : List ℤ) → comparison_number first second < short_buffer
unfolding comparison_number
comparison_number_lem first second = by_cond (λ n. n < short_buffer) (eqb (list_call first).number 0) (λ _. list-number second) (λ _. list-number first)

pub comparison_short : (first second out : List ℤ) → (comparison_reply (figures_call first second) (part_of first second) out).number ≡ short_buffer → length out < 10
unfolding figures_call
comparison_short first second out = only_short (comparison_number first second) _ out (comparison_number_lem first second)
