-- Replies worked by computation: where each total stands, what stays behind them, the zeros of a refusal, and the number of a short buffer.
use mathlib.Core.Path.{◌≡◌, refl}
use mathlib.Core.List.{[], ◌∷◌}
use lib.IntN.{pos, negsuc}
use lib.ListN.{replicate}
use Rattle.third_order.specs.ThirdCall.{ThirdOutcome, accepted_thirds, refused_thirds}
use Rattle.replies.specs.Reply.{reply}
use Rattle.third_replies.specs.ThirdReply.{third_reply}

-- Four totals that differ.
abbrev answer : ThirdOutcome
answer = accepted_thirds (record { xxx20 = negsuc 0; xxy60 = pos 2; xyy60 = pos 3; yyy20 = pos 4 })

-- Into a buffer with two entries more than there are values: those stay.
totals : third_reply answer (replicate 6 (pos 9)) ≡ record { number = 0; buffer = negsuc 0 ∷ pos 2 ∷ pos 3 ∷ pos 4 ∷ pos 9 ∷ pos 9 ∷ [] }
unfolding reply
totals = refl

-- A buffer of four is long enough.
room_for_four : third_reply answer (replicate 4 (pos 9)) ≡ record { number = 0; buffer = negsuc 0 ∷ pos 2 ∷ pos 3 ∷ pos 4 ∷ [] }
unfolding reply
room_for_four = refl

-- A refusal: its number, and zeros over what the buffer had.
beyond : third_reply (refused_thirds 35) (replicate 5 (pos 9)) ≡ record { number = 35; buffer = pos 0 ∷ pos 0 ∷ pos 0 ∷ pos 0 ∷ pos 9 ∷ [] }
unfolding reply
beyond = refl

-- A buffer with one entry too few is as it was, and the number is 100, whether the list is accepted or refused.
short : third_reply answer (replicate 3 (pos 9)) ≡ record { number = 100; buffer = replicate 3 (pos 9) }
unfolding reply
short = refl

short_for_a_refusal : third_reply (refused_thirds 35) (replicate 3 (pos 9)) ≡ record { number = 100; buffer = replicate 3 (pos 9) }
unfolding reply
short_for_a_refusal = refl
