-- Replies worked by computation: where x and y stand, what stays behind them, the zeros of a refusal, and the number of a short buffer.
use mathlib.Core.Path.{◌≡◌, refl}
use mathlib.Core.List.{[], ◌∷◌}
use lib.IntN.{pos, negsuc}
use lib.ListN.{replicate}
use Rattle.outline.specs.FixCall.{FixOutcome, no_point}
use Rattle.replies.specs.Reply.{reply}
use Rattle.fix_replies.specs.FixReply.{fix_reply}

-- The point (-2000, 3).
abbrev accepted : FixOutcome
accepted = record { number = 0; point = record { x = negsuc 1999; y = pos 3 } }

-- Into a buffer with two entries more than there are values: those stay.
point : fix_reply accepted (replicate 4 (pos 9)) ≡ record { number = 0; buffer = negsuc 1999 ∷ pos 3 ∷ pos 9 ∷ pos 9 ∷ [] }
unfolding reply
point = refl

-- A buffer of two is long enough.
room_for_two : fix_reply accepted (replicate 2 (pos 9)) ≡ record { number = 0; buffer = negsuc 1999 ∷ pos 3 ∷ [] }
unfolding reply
room_for_two = refl

-- A refusal: its number, and zeros over what the buffer had.
not_finite_lem : fix_reply (no_point 33) (replicate 3 (pos 9)) ≡ record { number = 33; buffer = pos 0 ∷ pos 0 ∷ pos 9 ∷ [] }
unfolding reply
not_finite_lem = refl

outside_limits_lem : fix_reply (no_point 1) (replicate 2 (pos 9)) ≡ record { number = 1; buffer = replicate 2 (pos 0) }
unfolding reply
outside_limits_lem = refl

-- A buffer with one entry too few is as it was, and the number is 100, whether the fix is accepted or refused.
short : fix_reply accepted (pos 9 ∷ []) ≡ record { number = 100; buffer = pos 9 ∷ [] }
unfolding reply
short = refl

short_for_a_refusal : fix_reply (no_point 33) (pos 9 ∷ []) ≡ record { number = 100; buffer = pos 9 ∷ [] }
unfolding reply
short_for_a_refusal = refl

no_buffer : fix_reply (no_point 1) [] ≡ record { number = 100; buffer = [] }
unfolding reply
no_buffer = refl
