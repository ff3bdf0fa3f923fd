-- Document 01, "Cuts, starts and moves": wherever an outline is started, its sums are the same, for any edge term.
use mathlib.Core.Path.{◌≡◌, sym, ◌∙◌, ap}
use mathlib.Core.List.{List, [], ◌∷◌, ◌++◌, append-nil}
use Prim.Native.Nat.{ℕ}
use lib.IntN.{+ℤ_comm}
use lib.ListN.{take, drop, take-append-drop}
use Rattle.outline.specs.declared.Position.{Position}
use Rattle.outline.specs.EdgeSums.{Term, edges, sum_over}
use Rattle.outline.specs.Pieces.{Piece, start_at}
use Rattle.outline.proofs.EdgeSumLaws.{path, around, around_two}

-- The two parts of an outline in the other order.
pub rotation : (t : Term) (u v : List Position) → around t (v ++ u) ≡ around t (u ++ v)
rotation t [] v = ap (around t) (append-nil v)
rotation t (a ∷ u) [] = sym (ap (around t) (append-nil (a ∷ u)))
rotation t (a ∷ u) (b ∷ v) = rw (around_two t b v a u, around_two t a u b v) (+ℤ_comm (path t (b ∷ v ++ a ∷ [])) (path t (a ∷ u ++ b ∷ [])))

pub start_law : (t : Term) (s : ℕ) (p : Piece) → sum_over t (edges (start_at s p)) ≡ sum_over t (edges p)
start_law t s p = rotation t (take s p) (drop s p) ∙ ap (around t) (take-append-drop s p)
