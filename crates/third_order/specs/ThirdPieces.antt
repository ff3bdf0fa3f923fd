-- Document 02, CR 10: the laws of cuts, starts and reversal for the four totals, as one statement over a whole list of cuts. proofs/ThirdPieces has its proof, which is drawn from the law
-- for any edge term that changes sign with its edge (outline, OddTermAddsUp).
use Rattle.std.specs.Prelude.{◌≡◌, ℕ, ℤ}
use mathlib.Core.List.{List, [], ◌∷◌, map, Memᴰ}
use Rattle.outline.specs.ListCall.{points, numbers}
use Rattle.outline.specs.Pieces.{Piece, Cut, pieces_of, Direction, forwards, backwards, placed}
use Rattle.third_order.specs.declared.ThirdTotals.{ThirdTotals}
use Rattle.third_order.specs.ThirdTerms.{no_thirds, plus_thirds, negated_thirds}
use Rattle.third_order.specs.ThirdCall.{accepted_thirds, third_call}

-- The four totals of a piece, as the call answers them.
abbrev pub thirds_of : Piece → ThirdTotals
thirds_of p = (third_call (numbers p)).totals

-- Four sums of integers, of any size.
unfoldable pub sum_of_thirds : List ThirdTotals → ThirdTotals
sum_of_thirds [] = no_thirds
sum_of_thirds (t ∷ ts) = plus_thirds t (sum_of_thirds ts)

-- The signs turn where the pieces are walked backwards.
unfoldable pub directed_thirds : Direction → ThirdTotals → ThirdTotals
directed_thirds forwards t = t
directed_thirds backwards t = negated_thirds t

-- What is claimed of some pieces, all walked in one direction, and of the uncut outline's totals t.
pub record ThirdsAddUp (direction : Direction) (t : ThirdTotals) (pieces : List Piece) : Type 0 where
  -- The call refuses no piece, not with 35 either.
  pub accepts : (p : Piece) → Memᴰ p pieces → third_call (numbers p) ≡ accepted_thirds (thirds_of p)
  -- The pieces' totals, each of the four by itself, add up to t, with all four signs turned if walked backwards.
  pub sum : sum_of_thirds (map thirds_of pieces) ≡ directed_thirds direction t

abbrev pub ThirdPiecesAddUp : Type 0
ThirdPiecesAddUp =
    -- For every list of numbers
    (zs : List ℤ)
    -- and the four totals
    (t : ThirdTotals)
    -- with which the call accepts it;
    → third_call zs ≡ accepted_thirds t
    -- for every list of cuts, of any length, those that cannot be made included;
    → (cuts : List Cut)
    -- for every start in each piece, piece k from start k;
    → (start : ℕ → ℕ)
    -- for either direction, the same for all pieces:
    → (direction : Direction)
    -- the claim holds of the pieces that the cuts leave, so started and walked.
    → ThirdsAddUp direction t (placed direction start (pieces_of (points zs) cuts))
