-- Document 01, "Cuts, starts and moves": walked backwards, an outline's sums turn their signs, for any edge term that changes sign with its edge.
use mathlib.Core.Path.{◌≡◌, refl, sym, ◌∙◌, ap}
use mathlib.Core.List.{List, [], ◌∷◌, ◌++◌, reverse, reverse-cons, reverse-append, append_assoc}
use lib.IntN.{neg_ℤ}
use Rattle.integers.proofs.Ring.{ring, quote}
use Rattle.outline.specs.declared.Position.{Position}
use Rattle.outline.specs.EdgeSums.{Term, open_edges, edges, sum_over}
use Rattle.outline.specs.Pieces.{Piece}
use Rattle.outline.specs.OddTerms.{Odd}
use Rattle.outline.proofs.EdgeSumLaws.{path, around, join}
use Rattle.outline.proofs.StartLaw.{rotation}

path_back : (t : Term) → Odd t → (ps : List Position) → path t (reverse ps) ≡ neg_ℤ (path t ps)
unfolding open_edges sum_over
path_back t o [] = refl
path_back t o (a ∷ []) = refl
path_back t o (a ∷ b ∷ ps) =
    ap (path t) (reverse-cons a (b ∷ ps) ∙ ap (λ l. l ++ a ∷ []) (reverse-cons b ps) ∙ append_assoc (reverse ps) (b ∷ []) (a ∷ []))
    ∙ join t (reverse ps) b (a ∷ [])
    ∙ rw (← reverse-cons b ps, path_back t o (b ∷ ps), o a b) (ring (path t (b ∷ ps) ∷ t a b ∷ []) (search quote depth 12) (search quote depth 12) tt)

pub reversal_law : (t : Term) → Odd t → (p : Piece) → sum_over t (edges (reverse p)) ≡ neg_ℤ (sum_over t (edges p))
unfolding edges sum_over
reversal_law t o [] = refl
reversal_law t o (a ∷ ps) =
    ap (around t) (reverse-cons a ps)
    ∙ rotation t (a ∷ []) (reverse ps)
    ∙ ap (path t) (ap {B = List Position} (λ l. a ∷ l) (sym (reverse-cons a ps)) ∙ sym (reverse-append (a ∷ ps) (a ∷ [])))
    ∙ path_back t o (a ∷ ps ++ a ∷ [])
