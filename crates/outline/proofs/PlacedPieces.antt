-- Pieces walked in a direction and started anywhere keep their number of points, and what all their points have.
use mathlib.Core.Path.{◌≡◌, refl, ◌∙◌}
use mathlib.Core.List.{List, [], ◌∷◌}
use Prim.Native.Nat.{ℕ, suc}
use native.Mathlib.Omega.{arith}
use lib.ListN.{length, take, drop, length-append, length-drop, length-take, length-reverse}
use Rattle.outline.specs.declared.Position.{Position}
use Rattle.outline.specs.Pieces.{Piece, Cut, pieces_of, start_at, Direction, forwards, backwards, walked, placed}
use Rattle.outline.proofs.Every.{All, all_append, all_take, all_drop, all_reverse}
use Rattle.outline.proofs.Limits.{OutlineIn}
use Rattle.outline.proofs.Cuts.{cuts_outline}

pub walked-length : (w : Direction) (p : Piece) → length (walked w p) ≡ length p
unfolding walked
walked-length forwards p = refl
walked-length backwards p = length-reverse p

pub start-length : (s : ℕ) (p : Piece) → length (start_at s p) ≡ length p
start-length s p = length-append (drop s p) (take s p) ∙ omega (arith, length-drop s p, length-take s p)

module _ (P : Position → Type 0) where
  reversed_outline : (w : Direction) (p : Piece) → OutlineIn P p → OutlineIn P (walked w p)
  unfolding walked
  reversed_outline forwards p o = o
  reversed_outline backwards p o = record { enough = rw (length-reverse p) o.enough; few = rw (length-reverse p) o.few; inside = all_reverse P p o.inside }

  start-outline : (s : ℕ) (p : Piece) → OutlineIn P p → OutlineIn P (start_at s p)
  start-outline s p o = record { enough = rw (start-length s p) o.enough; few = rw (start-length s p) o.few; inside = all_append P (drop s p) (take s p) (all_drop P s p o.inside) (all_take P s p o.inside) }

  placed_outlines : (w : Direction) (start : ℕ → ℕ) (pieces : List Piece) → All (OutlineIn P) pieces → All (OutlineIn P) (placed w start pieces)
  unfolding placed
  placed_outlines w start [] h = tt
  placed_outlines w start (p ∷ pieces) h = (start-outline (start 0) (walked w p) (reversed_outline w p h.0), placed_outlines w (λ k. start (suc k)) pieces h.1)

  -- So do those that a list of cuts leaves of an outline.
  pub pieces_outlines : (ps : List Position) → OutlineIn P ps → (cuts : List Cut) (start : ℕ → ℕ) (w : Direction) → All (OutlineIn P) (placed w start (pieces_of ps cuts))
  pieces_outlines ps o cuts start w = placed_outlines w start (pieces_of ps cuts) (cuts_outline P cuts (ps ∷ []) (o, tt))
