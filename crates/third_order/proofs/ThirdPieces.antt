-- Document 02, CR 10: the four totals of the pieces add up, for every list of cuts, every start and either direction: specs/ThirdPieces. The law for any edge term that changes sign with its
-- edge is used for the four; every piece is an outline with coordinates from -500 to 500, so the call accepts it.
use mathlib.Core.Path.{◌≡◌, refl, sym, ◌∙◌, ap, ap₂}
use mathlib.Core.List.{List, [], ◌∷◌, map}
use lib.IntN.{ℤ}
use Rattle.outline.specs.declared.Position.{Position}
use Rattle.outline.specs.EdgeSums.{Term, edges, sum_over}
use Rattle.outline.specs.ListCall.{points, numbers}
use Rattle.outline.specs.Pieces.{Piece, pieces_of, Direction, forwards, backwards, placed}
use Rattle.outline.specs.OddTerms.{sum_around, signed}
use Rattle.outline.proofs.Every.{All, all_member}
use Rattle.outline.proofs.Limits.{InsideOf}
use Rattle.outline.proofs.OddTermAddsUp.{odd_term_adds_up}
use Rattle.outline.proofs.PlacedPieces.{pieces_outlines}
use Rattle.third_order.specs.ThirdTerms.{four, third_totals, plus_thirds}
use Rattle.third_order.specs.ThirdCall.{ThirdOutcome, accepted_thirds, third_limit, third_call}
use Rattle.third_order.specs.ThirdPieces.{thirds_of, sum_of_thirds, directed_thirds, ThirdPiecesAddUp}
use Rattle.third_order.proofs.OddThirds.{for_four}
use Rattle.third_order.proofs.Accepted.{SmallOutline, accepts_small, accepts_only_small}

directed-four : (w : Direction) (f : Term → ℤ) → four (λ t. signed w (f t)) ≡ directed_thirds w (four f)
unfolding directed_thirds
directed-four forwards f = refl
directed-four backwards f = refl

is_accepted : (p : Piece) → SmallOutline p → third_call (numbers p) ≡ accepted_thirds (thirds_of p)
is_accepted p o = let e = accepts_small p o in e ∙ ap accepted_thirds (sym (ap (λ (r : ThirdOutcome). r.totals) e))

accepted-sum : (pieces : List Piece) → All SmallOutline pieces → sum_of_thirds (map thirds_of pieces) ≡ four (λ t. sum_around t pieces)
unfolding sum_of_thirds
accepted-sum [] h = refl
accepted-sum (p ∷ pieces) h = ap₂ plus_thirds (ap (λ (r : ThirdOutcome). r.totals) (accepts_small p h.0)) (accepted-sum pieces h.1)

pub third_pieces_add_up : ThirdPiecesAddUp
third_pieces_add_up zs t e cuts start w =
    record {
      accepts = λ p k. is_accepted p (all_member SmallOutline pieces small p k);
      sum =
          accepted-sum pieces small
          ∙ for_four (λ t. sum_around t pieces) (λ t. signed w (sum_over t (edges ps))) (λ t o. odd_term_adds_up t o ps cuts start w)
          ∙ directed-four w (λ t. sum_over t (edges ps))
          ∙ ap (directed_thirds w) (sym known.1);
    }
  where
    ps : List Position
    ps = points zs

    known : SmallOutline ps × (t ≡ third_totals ps)
    known = accepts_only_small zs t e

    pieces : List Piece
    pieces = placed w start (pieces_of ps cuts)

    small : All SmallOutline pieces
    small = pieces_outlines (InsideOf third_limit) ps known.0 cuts start w
