-- Two values put into a buffer, worked by computation: the entry behind them stays, and a buffer with one entry too few is as it was.
use mathlib.Core.Path.{◌≡◌, refl}
use mathlib.Core.List.{[], ◌∷◌}
use lib.IntN.{pos}
use Rattle.replies.specs.Reply.{reply}

longer : reply 7 (pos 1 ∷ pos 2 ∷ []) (pos 8 ∷ pos 9 ∷ pos 10 ∷ []) ≡ record { number = 7; buffer = pos 1 ∷ pos 2 ∷ pos 10 ∷ [] }
unfolding reply
longer = refl

same_length : reply 7 (pos 1 ∷ pos 2 ∷ []) (pos 8 ∷ pos 9 ∷ []) ≡ record { number = 7; buffer = pos 1 ∷ pos 2 ∷ [] }
unfolding reply
same_length = refl

one_short : reply 7 (pos 1 ∷ pos 2 ∷ []) (pos 8 ∷ []) ≡ record { number = 100; buffer = pos 8 ∷ [] }
unfolding reply
one_short = refl
