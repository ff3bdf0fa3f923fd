-- Document 01, "Cuts, starts and moves": after any list of cuts, the pieces' points are the outline's points.
use mathlib.Core.Path.{◌≡◌, refl}
use mathlib.Core.Bool.{Bool, true, false, cond}
use mathlib.Core.List.{List, [], ◌∷◌, ◌++◌, Memᴰ}
use native.Mathlib.Omega.{arith}
use lib.ListN.{get_or, set}
use lib.Seq.{lt-length-set, get_or-set_same}
use Rattle.outline.specs.declared.Position.{Position}
use Rattle.outline.specs.Pieces.{Piece, Cut, can_cut, kept, others, cut_once, cut_all, pieces_of}
use Rattle.outline.proofs.Every.{All, all_front, all_back, all_unset, all_at, all_of, all_member}
use Rattle.outline.proofs.CutTest.{made}
use Rattle.outline.proofs.Cuts.{cuts_all, part-points, whole-points}

-- ---- whatever all points have, before a list of cuts and after it

module _ (P : Position → Type 0) where
  once_before : (pieces : List Piece) (c : Cut) → All (All P) (cut_once pieces c) → All (All P) pieces
  unfolding cut_once
  once_before pieces c = go (can_cut pieces c) refl
    where
      p : Piece
      p = get_or pieces c.piece []

      go : (b : Bool) → can_cut pieces c ≡ b → All (All P) (cond b (set pieces c.piece (kept c p) ++ others c p ∷ []) pieces) → All (All P) pieces
      go true e h =
          let m = made pieces c e in
          let rest = all_front (All P) (set pieces c.piece (kept c p)) (others c p ∷ []) h in
          let next = (all_back (All P) (set pieces c.piece (kept c p)) (others c p ∷ []) h).0 in
          let old = rw (get_or-set_same pieces c.piece (kept c p) [] m.0) at (all_at (All P) (set pieces c.piece (kept c p)) c.piece [] rest (lt-length-set pieces c.piece (kept c p) m.0)) in
          all_unset (All P) pieces c.piece (kept c p) [] rest (whole-points P c p (omega (arith, m.1.apart)) m.1.inside old next)
      go false e h = h

  cuts_after : (cuts : List Cut) (pieces : List Piece) → All (All P) pieces → All (All P) (cut_all pieces cuts)
  cuts_after = cuts_all (All P) (λ c p m h. part-points P c p h)

  cuts_before : (cuts : List Cut) (pieces : List Piece) → All (All P) (cut_all pieces cuts) → All (All P) pieces
  unfolding cut_all
  cuts_before [] pieces h = h
  cuts_before (c ∷ cuts) pieces h = once_before pieces c (cuts_before cuts (cut_once pieces c) h)

-- ---- the theorem

-- What is claimed of an outline's points and of its pieces.
pub record SamePoints (ps : List Position) (pieces : List Piece) : Type 0 where
  -- Every point of every piece is a point of the outline,
  pub no_other : (p : Piece) → Memᴰ p pieces → (a : Position) → Memᴰ a p → Memᴰ a ps
  -- and every point of the outline is a point of some piece.
  pub none_lost : (a : Position) → Memᴰ a ps → (p : Piece) × Memᴰ p pieces × Memᴰ a p

pub same_points : (ps : List Position) (cuts : List Cut) → SamePoints ps (pieces_of ps cuts)
same_points ps cuts =
    record {
      no_other = λ p m. all_member Of p (all_member (All Of) pieces (cuts_after Of cuts (ps ∷ []) (all_of Of ps (λ a k. k), tt)) p m);
      none_lost = all_member In ps (cuts_before In cuts (ps ∷ []) (all_of (All In) pieces (λ p m. all_of In p (λ a k. (p, m, k))))).0;
    }
  where
    pieces : List Piece
    pieces = pieces_of ps cuts

    Of : Position → Type 0
    Of a = Memᴰ a ps

    In : Position → Type 0
    In a = (p : Piece) × Memᴰ p pieces × Memᴰ a p
