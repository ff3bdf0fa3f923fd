-- The law of cuts, starts and direction for any edge term that changes sign with its edge: specs/OddTerms. It is drawn from the laws of a cut, a start and the opposite order, each
-- for any such term too.
use mathlib.Core.Path.{◌≡◌, refl, ◌∙◌, ap, ap₂}
use mathlib.Core.List.{List, [], ◌∷◌}
use Prim.Native.Nat.{ℕ, suc}
use lib.IntN.{ℤ, pos, ◌+ℤ◌, +ℤ_idr}
use Rattle.integers.proofs.Ring.{ring, quote}
use Rattle.outline.specs.EdgeSums.{Term}
use Rattle.outline.specs.Pieces.{Piece, pieces_of, Direction, forwards, backwards, walked, placed}
use Rattle.outline.specs.OddTerms.{Odd, sum_around, signed, OddTermAddsUp}
use Rattle.outline.proofs.EdgeSumLaws.{around}
use Rattle.outline.proofs.StartLaw.{start_law}
use Rattle.outline.proofs.ReversalLaw.{reversal_law}
use Rattle.outline.proofs.Cuts.{cuts_sum}

signed-sum : (w : Direction) (a b : ℤ) → signed w a +ℤ signed w b ≡ signed w (a +ℤ b)
signed-sum forwards a b = refl
signed-sum backwards a b = ring (a ∷ b ∷ []) (search quote depth 12) (search quote depth 12) tt

signed_zero : (w : Direction) → pos 0 ≡ signed w (pos 0)
signed_zero forwards = refl
signed_zero backwards = refl

module _ (t : Term) (o : Odd t) where
  walked-sum : (w : Direction) (p : Piece) → around t (walked w p) ≡ signed w (around t p)
  unfolding walked
  walked-sum forwards p = refl
  walked-sum backwards p = reversal_law t o p

  placed-sum : (w : Direction) (start : ℕ → ℕ) (pieces : List Piece) → sum_around t (placed w start pieces) ≡ signed w (sum_around t pieces)
  unfolding placed
  placed-sum w start [] = signed_zero w
  placed-sum w start (p ∷ pieces) =
      ap₂ (λ a b. a +ℤ b) (start_law t (start 0) (walked w p) ∙ walked-sum w p) (placed-sum w (λ k. start (suc k)) pieces)
      ∙ signed-sum w (around t p) (sum_around t pieces)

pub odd_term_adds_up : OddTermAddsUp
odd_term_adds_up t o ps cuts start w = placed-sum t o w start (pieces_of ps cuts) ∙ ap (signed w) (cuts_sum t o cuts (ps ∷ []) ∙ +ℤ_idr (around t ps))
