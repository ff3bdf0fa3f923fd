-- Replies worked by computation: where each value stands, what stays behind the values, the number of a short buffer.
use mathlib.Core.Path.{◌≡◌, refl}
use mathlib.Core.List.{[], ◌∷◌}
use lib.IntN.{pos}
use lib.ListN.{replicate}
use Rattle.outline.specs.ListCall.{accepted, refused}
use Rattle.centroid.specs.Centroid.{refused as no_centre_lem}
use Rattle.replies.specs.Reply.{reply}
use Rattle.outline_replies.specs.OutlineReply.{totals_reply, centre_reply}

-- Into a buffer with one entry more than there are values: that entry stays.
totals : totals_reply (accepted (record { a2 = pos 1; x6 = pos 2; y6 = pos 3; xx12 = pos 4; xy24 = pos 5; yy12 = pos 6 })) (replicate 7 (pos 9)) ≡ record { number = 0; buffer = pos 1 ∷ pos 2 ∷ pos 3 ∷ pos 4 ∷ pos 5 ∷ pos 6 ∷ pos 9 ∷ [] }
unfolding reply
totals = refl

centre : centre_reply (record { number = 0; x = pos 1; y = pos 2 }) (replicate 3 (pos 9)) ≡ record { number = 0; buffer = pos 1 ∷ pos 2 ∷ pos 9 ∷ [] }
unfolding reply
centre = refl

-- A refusal: its number, and zeros over what the buffer had. The buffer is as long as the values are many.
refused-totals : totals_reply (refused 2) (replicate 6 (pos 9)) ≡ record { number = 2; buffer = replicate 6 (pos 0) }
unfolding reply
refused-totals = refl

refused-centre : centre_reply (no_centre_lem 27) (replicate 2 (pos 9)) ≡ record { number = 27; buffer = replicate 2 (pos 0) }
unfolding reply
refused-centre = refl

-- A buffer with one entry too few is as it was, and the number is 100, whether the call is accepted or refused.
short_for_totals : totals_reply (refused 2) (replicate 5 (pos 9)) ≡ record { number = 100; buffer = replicate 5 (pos 9) }
unfolding reply
short_for_totals = refl

short_for_centre : centre_reply (record { number = 0; x = pos 1; y = pos 2 }) (pos 9 ∷ []) ≡ record { number = 100; buffer = pos 9 ∷ [] }
unfolding reply
short_for_centre = refl
