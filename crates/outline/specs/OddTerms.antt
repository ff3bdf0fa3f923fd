-- Document 01, "Cuts, starts and moves", for any edge term that changes sign with its edge: the one fact from which the laws of the six totals are drawn, and those of document 02's third
-- moments (CR 10). proofs/OddTermAddsUp has its proof.
use Rattle.std.specs.Prelude.{◌≡◌, List, [], ◌∷◌, ℕ, ℤ, pos, neg_ℤ, ◌+ℤ◌}
use Rattle.outline.specs.declared.Position.{Position}
use Rattle.outline.specs.EdgeSums.{Term, edges, sum_over}
use Rattle.outline.specs.Pieces.{Piece, Cut, pieces_of, Direction, forwards, backwards, placed}

-- Walked from its end to its start, an edge adds the same with the other sign. The field calls such a term antisymmetric.
abbrev pub Odd : Term → Type 0
Odd t = (a b : Position) → t b a ≡ neg_ℤ (t a b)

-- A term summed around each piece, closing edge included, and over all pieces.
abbrev pub sum_around : Term → List Piece → ℤ
sum_around t [] = pos 0
sum_around t (p ∷ pieces) = sum_over t (edges p) +ℤ sum_around t pieces

-- The sign turns where the pieces are walked backwards.
abbrev pub signed : Direction → ℤ → ℤ
signed forwards z = z
signed backwards z = neg_ℤ z

abbrev pub OddTermAddsUp : Type 0
OddTermAddsUp =
    -- For every edge term
    (t : Term)
    -- that changes sign with its edge;
    → Odd t
    -- for every list of points, however many and wherever they lie;
    → (ps : List Position)
    -- for every list of cuts, of any length, those that cannot be made included;
    → (cuts : List Cut)
    -- for every start in each piece, piece k from start k;
    → (start : ℕ → ℕ)
    -- for either direction, the same for all pieces:
    → (direction : Direction)
    -- the term's sums around the pieces that the cuts leave, so started and walked, add up to its sum around the points, with the sign turned if walked backwards.
    → sum_around t (placed direction start (pieces_of ps cuts)) ≡ signed direction (sum_over t (edges ps))
