-- Document 01, "Cuts, starts and moves": a cut that can be made gives exactly its two pieces, and one that cannot changes nothing.
use mathlib.Core.Path.{◌≡◌, refl, ◌∙◌}
use mathlib.Core.Bool.{true, false}
use mathlib.Core.List.{List, [], ◌∷◌, map}
use mathlib.Core.Logic.{◌≢◌}
use Prim.Native.Nat.{ℕ, suc, ◌<◌}
use native.Mathlib.Omega.{arith}
use lib.ListN.{length, get_or, set, length-append, length-set, get_or-append}
use lib.Seq.{lt-length-set, get_or-set_same, get_or-set_other, get_or_at}
use lib.IntN.{pos}
use Rattle.outline.specs.declared.Position.{Position}
use Rattle.outline.specs.EdgeSums.{open_edges, edges, sum_over, over}
use Rattle.outline.specs.ListCall.{points, numbers, beyond, any_beyond, wrong_length, list_call}
use Rattle.outline.specs.Pieces.{Piece, Cut, neighbours, can_cut, kept, others, cut_once, cut_all, pieces_of, totals_of}
use Rattle.outline.proofs.CutTest.{made}

-- What is claimed of the pieces that a cut leaves.
pub record TwoPieces (pieces : List Piece) (c : Cut) (left : List Piece) : Type 0 where
  -- One piece more than before.
  pub number : length left ≡ suc (length pieces)
  -- The part between the cut points has the place of the piece that was cut,
  pub old : get_or left c.piece [] ≡ kept c (get_or pieces c.piece [])
  -- the other part comes after all pieces,
  pub next : get_or left (length pieces) [] ≡ others c (get_or pieces c.piece [])
  -- and every other piece is as it was.
  pub same : (k : ℕ) → k < length pieces → k ≢ c.piece → get_or left k [] ≡ get_or pieces k []

pub can_be_made : (pieces : List Piece) (c : Cut) → can_cut pieces c ≡ true → TwoPieces pieces c (cut_once pieces c)
unfolding cut_once
can_be_made pieces c e =
    let p = get_or pieces c.piece [] in
    let l = set pieces c.piece (kept c p) in
    let i = (made pieces c e).0 in
    rw e
    (record {
      number = length-append l (others c p ∷ []) ∙ omega (arith, length-set pieces c.piece (kept c p));
      old = get_or-append l (others c p ∷ []) [] c.piece (lt-length-set pieces c.piece (kept c p) i) ∙ get_or-set_same pieces c.piece (kept c p) [] i;
      next = get_or_at l (others c p) [] [] (length pieces) (length-set pieces c.piece (kept c p));
      same = λ k h n. get_or-append l (others c p ∷ []) [] k (lt-length-set pieces c.piece (kept c p) h) ∙ get_or-set_other pieces c.piece k (kept c p) [] n;
    })

-- Of one outline: the two pieces and no other.
pub two_pieces : (ps : Piece) (c : Cut) → can_cut (ps ∷ []) c ≡ true → pieces_of ps (c ∷ []) ≡ kept c ps ∷ others c ps ∷ []
unfolding cut_once cut_all
two_pieces ps c e = let first : c.piece ≡ 0 = omega (arith, (made (ps ∷ []) c e).0) in rw (e, first)

pub cannot_be_made : (pieces : List Piece) (c : Cut) → can_cut pieces c ≡ false → cut_once pieces c ≡ pieces
unfolding cut_once
cannot_be_made pieces c e = rw e

-- The rectangle (2,0) (10,4) (8,8) (0,4), cut from (8,8) to (2,0) after two cuts that cannot be made: over the closing edge, and of a piece that does not exist.
abbrev rectangle : List Position
rectangle = record { x = pos 2; y = pos 0 } ∷ record { x = pos 10; y = pos 4 } ∷ record { x = pos 8; y = pos 8 } ∷ record { x = pos 0; y = pos 4 } ∷ []

abbrev rectangle_parts : List Piece
rectangle_parts = pieces_of rectangle (record { piece = 0; one = 3; other = 0 } ∷ record { piece = 1; one = 0; other = 2 } ∷ record { piece = 0; one = 2; other = 0 } ∷ [])

pub rectangle-cut : (map (λ p. (totals_of p).a2) rectangle_parts ≡ pos 40 ∷ pos 40 ∷ []) × (map (λ p. (totals_of p).x6) rectangle_parts ≡ pos 800 ∷ pos 400 ∷ [])
unfolding open_edges edges sum_over over points numbers beyond any_beyond wrong_length list_call neighbours can_cut cut_once cut_all
rectangle-cut = (refl, refl)
