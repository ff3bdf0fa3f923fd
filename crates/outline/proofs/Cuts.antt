-- A list of cuts keeps the sum over the pieces, keeps every piece an outline in size, and keeps whatever all points have.
use mathlib.Core.Path.{◌≡◌, refl, sym, ◌∙◌, ap, subst}
use mathlib.Core.Bool.{Bool, true, false, cond}
use mathlib.Core.List.{List, [], ◌∷◌, ◌++◌}
use Prim.Native.Nat.{ℕ, zero, suc, ◌+◌, ◌-◌, ◌<◌}
use native.Mathlib.Nat.{not-suc-le-zero, le_of_suc-le-suc}
use native.Mathlib.Omega.{arith}
use lib.IntN.{ℤ, pos, ◌+ℤ◌, +ℤ_assoc, +ℤ_idl, +ℤ_idr}
use lib.ListN.{length, get_or, take, drop, set, length-append, length-drop}
use lib.Seq.{length-take-le}
use Rattle.integers.proofs.Ring.{ring, quote, given}
use Rattle.outline.specs.declared.Position.{Position}
use Rattle.outline.specs.EdgeSums.{Term}
use Rattle.outline.specs.Pieces.{Piece, Cut, lower, higher, can_cut, kept, others, cut_once, cut_all}
use Rattle.outline.specs.OddTerms.{Odd, sum_around}
use Rattle.outline.proofs.Every.{All, all_append, all_front, all_back, all_take, all_drop, all_set, all_at}
use Rattle.outline.proofs.EdgeSumLaws.{around}
use Rattle.outline.proofs.Limits.{OutlineIn}
use Rattle.outline.proofs.CutTest.{Made, made}
use Rattle.outline.proofs.CutLaw.{parts, cut_law}

-- ---- the sum over the pieces

module _ (t : Term) where
  sum_set : (pieces : List Piece) (k : ℕ) (q : Piece) → k < length pieces → sum_around t (set pieces k q) +ℤ around t (get_or pieces k []) ≡ sum_around t pieces +ℤ around t q
  sum_set [] k q h = absurd (not-suc-le-zero h)
  sum_set (p ∷ pieces) zero q h = ring (around t q ∷ around t p ∷ sum_around t pieces ∷ []) (search quote depth 12) (search quote depth 12) tt
  sum_set (p ∷ pieces) (suc k) q h =
      +ℤ_assoc (around t p) (sum_around t (set pieces k q)) (around t (get_or pieces k []))
      ∙ ap (λ z. around t p +ℤ z) (sum_set pieces k q (le_of_suc-le-suc h))
      ∙ sym (+ℤ_assoc (around t p) (sum_around t pieces) (around t q))

  sum-append : (pieces : List Piece) (q : Piece) → sum_around t (pieces ++ q ∷ []) ≡ sum_around t pieces +ℤ around t q
  sum-append [] q = +ℤ_idr (around t q) ∙ sym (+ℤ_idl (around t q))
  sum-append (p ∷ pieces) q = ap (λ z. around t p +ℤ z) (sum-append pieces q) ∙ sym (+ℤ_assoc (around t p) (sum_around t pieces) (around t q))

exchange : (s s' p k o : ℤ) → s' +ℤ p ≡ s +ℤ k → k +ℤ o ≡ p → s' +ℤ o ≡ s
exchange s s' p k o e f = given {u = s' +ℤ p} {v = s +ℤ k} (pos 1) e (rw (← f) (ring (s ∷ s' ∷ k ∷ o ∷ []) (search quote depth 12) (search quote depth 12) tt))

module _ (t : Term) (o : Odd t) where
  once_sum : (pieces : List Piece) (c : Cut) → sum_around t (cut_once pieces c) ≡ sum_around t pieces
  unfolding cut_once
  once_sum pieces c = go (can_cut pieces c) refl
    where
      p : Piece
      p = get_or pieces c.piece []

      go : (b : Bool) → can_cut pieces c ≡ b → sum_around t (cond b (set pieces c.piece (kept c p) ++ others c p ∷ []) pieces) ≡ sum_around t pieces
      go true e =
          let m = made pieces c e in
          sum-append t (set pieces c.piece (kept c p)) (others c p)
          ∙ exchange
          (sum_around t pieces)
          (sum_around t (set pieces c.piece (kept c p)))
          (around t p)
          (around t (kept c p))
          (around t (others c p))
          (sum_set t pieces c.piece (kept c p) m.0)
          (cut_law t o c p (omega (arith, m.1.apart)) m.1.inside)
      go false e = refl

  -- The sum over the pieces is what it was before the first cut.
  pub cuts_sum : (cuts : List Cut) (pieces : List Piece) → sum_around t (cut_all pieces cuts) ≡ sum_around t pieces
  unfolding cut_all
  cuts_sum [] pieces = refl
  cuts_sum (c ∷ cuts) pieces = cuts_sum cuts (cut_once pieces c) ∙ once_sum pieces c

-- ---- the points

module _ (P : Position → Type 0) (c : Cut) (p : Piece) where
  -- What all points of a piece have, those of its two parts have,
  pub part-points : All P p → All P (kept c p) × All P (others c p)
  part-points h = (all_drop P (lower c) (take (suc (higher c)) p) (all_take P (suc (higher c)) p h), all_append P (drop (higher c) p) (take (suc (lower c)) p) (all_drop P (higher c) p h) (all_take P (suc (lower c)) p h))

  -- and what they have, the piece's have.
  pub whole-points : lower c < higher c → higher c < length p → All P (kept c p) → All P (others c p) → All P p
  whole-points apart inside h g =
      let s = parts c p apart inside in
      let k = subst (All P) s.kept_is h in
      let o = (subst (All P) s.others_is g).1 in
      let before = all_front P s.before (s.a ∷ []) (all_back P s.after (s.before ++ s.a ∷ []) o) in
      let after = all_front P s.after (s.before ++ s.a ∷ []) o in
      let between = all_front P s.between (s.b ∷ []) k.1 in
      let b = (all_back P s.between (s.b ∷ []) k.1).0 in
      subst (All P) (sym s.whole) (all_append P s.before (s.a ∷ s.between ++ s.b ∷ s.after) before (k.0, all_append P s.between (s.b ∷ s.after) between (b, after)))

-- ---- what every piece has

-- A property that passes from a piece to its two parts passes from the pieces to those that a list of cuts leaves.
module _ (Q : Piece → Type 0) (both : (c : Cut) (p : Piece) → Made c p → Q p → Q (kept c p) × Q (others c p)) where
  once_all : (pieces : List Piece) (c : Cut) → All Q pieces → All Q (cut_once pieces c)
  unfolding cut_once
  once_all pieces c h = go (can_cut pieces c) refl
    where
      p : Piece
      p = get_or pieces c.piece []

      go : (b : Bool) → can_cut pieces c ≡ b → All Q (cond b (set pieces c.piece (kept c p) ++ others c p ∷ []) pieces)
      go true e =
          let m = made pieces c e in
          let f = both c p m.1 (all_at Q pieces c.piece [] h m.0) in
          all_append Q (set pieces c.piece (kept c p)) (others c p ∷ []) (all_set Q pieces c.piece (kept c p) h f.0) (f.1, tt)
      go false e = h

  pub cuts_all : (cuts : List Cut) (pieces : List Piece) → All Q pieces → All Q (cut_all pieces cuts)
  unfolding cut_all
  cuts_all [] pieces h = h
  cuts_all (c ∷ cuts) pieces h = cuts_all cuts (cut_once pieces c) (once_all pieces c h)

-- So every piece has 3 to 1,024 points, and what all points had they have still.
pub cuts_outline : (P : Position → Type 0) (cuts : List Cut) (pieces : List Piece) → All (OutlineIn P) pieces → All (OutlineIn P) (cut_all pieces cuts)
cuts_outline P = cuts_all (OutlineIn P) both
  where
    both : (c : Cut) (p : Piece) → Made c p → OutlineIn P p → OutlineIn P (kept c p) × OutlineIn P (others c p)
    both c p m f =
        let lk : length (kept c p) ≡ suc (higher c) - lower c = length-drop (lower c) (take (suc (higher c)) p) ∙ ap (λ n. n - lower c) (length-take-le (suc (higher c)) p m.inside) in
        let lo : length (others c p) ≡ (length p - higher c) + suc (lower c) = length-append (drop (higher c) p) (take (suc (lower c)) p) ∙ rw (length-drop (higher c) p, length-take-le (suc (lower c)) p (omega (arith, m.apart, m.inside))) in (
          record { enough = omega (arith, m.apart); few = omega (arith, m.inside, f.few); inside = (part-points P c p f.inside).0 },
          record { enough = omega (arith, m.rest); few = omega (arith, m.apart, m.inside, f.few); inside = (part-points P c p f.inside).1 },
        )
