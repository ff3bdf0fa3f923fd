-- Replies worked by computation: where each of the ten values stands, what stays behind them, and the number of a short buffer.
use mathlib.Core.Path.{◌≡◌, refl}
use mathlib.Core.Bool.{true, false}
use mathlib.Core.List.{[], ◌∷◌}
use lib.IntN.{pos, neg_ℤ}
use lib.ListN.{replicate}
use Rattle.two_walks.specs.Comparison.{FiguresOutcome, no_figures}
use Rattle.replies.specs.Reply.{reply}
use Rattle.comparison_replies.specs.ComparisonReply.{comparison_reply}

abbrev ten_values : FiguresOutcome
ten_values =
    record {
      number = 0;
      figures = record { differences = record { a2 = pos 1; x6 = pos 2; y6 = pos 3; xx12 = pos 4; xy24 = pos 5; yy12 = neg_ℤ (pos 6) }; forward = 7; backward = 8 };
    }

-- Into a buffer with one entry more than there are values: that entry stays. The part is the second list, of six numbers.
of_the_second : comparison_reply ten_values (record { of_second = true; numbers = replicate 6 (pos 3) }) (replicate 11 (pos 9)) ≡ record { number = 0; buffer = pos 1 ∷ pos 2 ∷ pos 3 ∷ pos 4 ∷ pos 5 ∷ neg_ℤ (pos 6) ∷ pos 7 ∷ pos 8 ∷ pos 1 ∷ pos 6 ∷ pos 9 ∷ [] }
unfolding reply
of_the_second = refl

of_the_first : comparison_reply ten_values (record { of_second = false; numbers = replicate 8 (pos 3) }) (replicate 10 (pos 9)) ≡ record { number = 0; buffer = pos 1 ∷ pos 2 ∷ pos 3 ∷ pos 4 ∷ pos 5 ∷ neg_ℤ (pos 6) ∷ pos 7 ∷ pos 8 ∷ pos 0 ∷ pos 8 ∷ [] }
unfolding reply
of_the_first = refl

-- A refusal: its number, and ten zeros over what the buffer had.
refused : comparison_reply (record { number = 2; figures = no_figures }) (record { of_second = false; numbers = [] }) (replicate 10 (pos 9)) ≡ record { number = 2; buffer = replicate 10 (pos 0) }
unfolding reply
refused = refl

-- A buffer with one entry too few is as it was, and the number is 100, whether the walks are accepted or refused.
short : comparison_reply ten_values (record { of_second = true; numbers = [] }) (replicate 9 (pos 3)) ≡ record { number = 100; buffer = replicate 9 (pos 3) }
unfolding reply
short = refl

short_for_a_refusal : comparison_reply (record { number = 1; figures = no_figures }) (record { of_second = false; numbers = [] }) (replicate 9 (pos 3)) ≡ record { number = 100; buffer = replicate 9 (pos 3) }
unfolding reply
short_for_a_refusal = refl
