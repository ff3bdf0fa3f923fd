-- Document 01, "Cuts, starts and moves": the two parts of a cut piece sum to the piece, for any edge term that changes sign with its edge.
-- Each part has the chord between the cut points as an edge, in opposite directions, so its two terms cancel.
use mathlib.Core.Path.{◌≡◌, sym, ◌∙◌, ap, ap₂}
use mathlib.Core.List.{List, [], ◌∷◌, ◌++◌, append_assoc}
use Prim.Native.Nat.{ℕ, suc, ◌<◌}
use native.Mathlib.Omega.{arith}
use lib.IntN.{◌+ℤ◌}
use lib.ListN.{length, get_or, take, drop}
use lib.Seq.{take-suc, drop-cons, split_at, take-take, get_or-take, drop-append-le, length-take-le}
use Rattle.integers.proofs.Ring.{ring, quote}
use Rattle.outline.specs.declared.Position.{Position}
use Rattle.outline.specs.EdgeSums.{Term, edges, sum_over}
use Rattle.outline.specs.Pieces.{Piece, Cut, lower, higher, kept, others}
use Rattle.outline.specs.OddTerms.{Odd}
use Rattle.outline.specs.WalkCalls.{origin}
use Rattle.outline.proofs.EdgeSumLaws.{path, around, one_edge, around_two}
use Rattle.outline.proofs.StartLaw.{rotation}

-- A piece and the two parts of it, by the cut points a and b and the points before, between and after them.
pub record Parts (c : Cut) (p : Piece) : Type 0 where
  pub a : Position
  pub b : Position
  pub before : Piece
  pub between : Piece
  pub after : Piece
  pub whole : p ≡ before ++ (a ∷ between ++ b ∷ after)
  pub kept_is : kept c p ≡ a ∷ between ++ b ∷ []
  pub others_is : others c p ≡ b ∷ after ++ (before ++ a ∷ [])

pub parts : (c : Cut) (p : Piece) → lower c < higher c → higher c < length p → Parts c p
parts c p apart inside =
    record {
      a = a;
      b = b;
      before = take l p;
      between = between;
      after = drop (suc h) p;
      whole = split_at p h origin inside ∙ ap (λ q. q ++ b ∷ drop (suc h) p) front ∙ append_assoc (take l p) (a ∷ between) (b ∷ drop (suc h) p);
      kept_is = ap (drop l) (take-suc p h origin inside) ∙ drop-append-le l (take h p) (b ∷ []) (rw long (omega arith)) ∙ ap (λ q. q ++ b ∷ []) middle;
      others_is = ap₂ (λ q r. q ++ r) (drop-cons p h origin inside) (take-suc p l origin (omega arith));
    }
  where
    l : ℕ
    l = lower c

    h : ℕ
    h = higher c

    a : Position
    a = get_or p l origin

    b : Position
    b = get_or p h origin

    between : Piece
    between = drop (suc l) (take h p)

    long : length (take h p) ≡ h
    long = length-take-le h p (omega arith)

    front : take h p ≡ take l p ++ a ∷ between
    front = split_at (take h p) l origin (rw long apart) ∙ rw (take-take l h p (omega arith), get_or-take h p l origin apart)

    middle : drop l (take h p) ≡ a ∷ between
    middle = drop-cons (take h p) l origin (rw long apart) ∙ ap {B = Piece} (λ q. q ∷ between) (get_or-take h p l origin apart)

module _ (t : Term) (o : Odd t) where
  parted : (u : List Position) (a : Position) (v : List Position) (b : Position) (w : List Position) → around t (a ∷ v ++ b ∷ []) +ℤ around t (b ∷ w ++ (u ++ a ∷ [])) ≡ around t (u ++ (a ∷ v ++ b ∷ w))
  parted u a v b w =
      rw (← rotation t u (a ∷ v ++ b ∷ w), append_assoc v (b ∷ w) u, ← append_assoc w u (a ∷ []), around_two t a v b [], around_two t b (w ++ u) a [], around_two t a v b (w ++ u), one_edge t b a, one_edge t a b, o a b)
      (ring (path t (a ∷ v ++ b ∷ []) ∷ path t (b ∷ (w ++ u) ++ a ∷ []) ∷ t a b ∷ []) (search quote depth 12) (search quote depth 12) tt)

  pub cut_law : (c : Cut) (p : Piece) → lower c < higher c → higher c < length p → sum_over t (edges (kept c p)) +ℤ sum_over t (edges (others c p)) ≡ sum_over t (edges p)
  cut_law c p apart inside =
      let s = parts c p apart inside in
      ap₂ (λ q r. around t q +ℤ around t r) s.kept_is s.others_is
      ∙ parted s.before s.a s.between s.b s.after
      ∙ ap (around t) (sym s.whole)
