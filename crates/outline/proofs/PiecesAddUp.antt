-- Demand 3, whole: specs/PiecesAddUp. A cut after a move is a cut for the term between moved ends, which changes sign with its edge as well, so the law for any such term covers it; and 5
-- never comes, since the mapped totals are those of an outline within the limits.
use mathlib.Core.Path.{◌≡◌, refl, sym, ◌∙◌, ap, ap₂}
use mathlib.Core.List.{List, [], ◌∷◌, map}
use lib.IntN.{ℤ, ◌+ℤ◌}
use Rattle.outline.specs.declared.Position.{Position}
use Rattle.outline.specs.declared.AffineMap.{AffineMap}
use Rattle.outline.specs.EdgeSums.{Term, six, plus, outline_totals}
use Rattle.outline.specs.ListCall.{accepted, points, numbers, list_call}
use Rattle.outline.specs.MapCall.{move_point, moved, map_call}
use Rattle.outline.specs.Pieces.{Piece, pieces_of, Direction, forwards, backwards, placed, totals_of, sum_of, directed}
use Rattle.outline.specs.OddTerms.{Odd, sum_around, signed}
use Rattle.outline.specs.PiecesAddUp.{PiecesAddUp}
use Rattle.outline.proofs.Every.{All, all_member, all_map}
use Rattle.outline.proofs.EdgeSumLaws.{around, around_map}
use Rattle.outline.proofs.Limits.{OutlineIn, Outline, OutlineList, accepts-points, accepts_only_outlines}
use Rattle.outline.proofs.OddTerms.{for_six}
use Rattle.outline.proofs.MapLaw.{Stays, all_stay, moved-outline, map-accepts}
use Rattle.outline.proofs.OddTermAddsUp.{odd_term_adds_up}
use Rattle.outline.proofs.PlacedPieces.{pieces_outlines}

-- ---- direction

directed-six : (w : Direction) (f : Term → ℤ) → six (λ t. signed w (f t)) ≡ directed w (six f)
unfolding directed
directed-six forwards f = refl
directed-six backwards f = refl

-- ---- the map

moved_sum : (t : Term) (m : AffineMap) (pieces : List Piece) → sum_around t (map (moved m) pieces) ≡ sum_around (λ a b. t (move_point m a) (move_point m b)) pieces
moved_sum t m [] = refl
moved_sum t m (p ∷ pieces) = ap₂ (λ a b. a +ℤ b) (around_map t (move_point m) p) (moved_sum t m pieces)

-- ---- what the list call answers for outlines

is_accepted : (p : Piece) → Outline p → list_call (numbers p) ≡ accepted (totals_of p)
is_accepted p o = let e = accepts-points p o in e ∙ ap accepted (sym (ap (λ r. r.totals) e))

accepted-sum : (pieces : List Piece) → All Outline pieces → sum_of (map totals_of pieces) ≡ six (λ t. sum_around t pieces)
unfolding sum_of
accepted-sum [] h = refl
accepted-sum (p ∷ pieces) h = ap₂ plus (ap (λ r. r.totals) (accepts-points p h.0)) (accepted-sum pieces h.1)

-- ---- the theorem

pub pieces_add_up : PiecesAddUp
pieces_add_up zs t e cuts start w m allowed bounds =
    record {
      image = outline_totals (moved m ps);
      map-accepts = ap (map_call m) known.1 ∙ map-accepts m ps outline allowed bounds;
      list-accepts = λ p k. is_accepted p (all_member Outline pieces all_outlines p k);
      sum = accepted-sum pieces all_outlines ∙ for_six (λ t. sum_around t pieces) (λ t. signed w (around t (moved m ps))) each ∙ directed-six w (λ t. around t (moved m ps));
    }
  where
    ps : List Position
    ps = points zs

    known : OutlineList zs × (t ≡ outline_totals ps)
    known = accepts_only_outlines zs t e

    outline : Outline ps
    outline = known.0.outline

    unmoved : List Piece
    unmoved = placed w start (pieces_of ps cuts)

    pieces : List Piece
    pieces = map (moved m) unmoved

    all_outlines : All Outline pieces
    all_outlines = all_map (OutlineIn (Stays m)) Outline (moved m) (moved-outline m) unmoved (pieces_outlines (Stays m) ps (all_stay m ps outline bounds) cuts start w)

    each : (t : Term) → Odd t → sum_around t pieces ≡ signed w (around t (moved m ps))
    each t o =
        let s : Term = λ a b. t (move_point m a) (move_point m b) in
        let odd : Odd s = λ a b. o (move_point m a) (move_point m b) in
        moved_sum t m unmoved ∙ odd_term_adds_up s odd ps cuts start w ∙ ap (signed w) (sym (around_map t (move_point m) ps))
