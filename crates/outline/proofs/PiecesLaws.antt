-- What demand 3 says besides, each a case of `pieces_add_up`: no cut, another start, backwards, moved, no map, and one piece by itself.
use mathlib.Core.Path.{◌≡◌, refl, sym, ◌∙◌, ap, ap₂, subst}
use mathlib.Core.Bool.{false}
use mathlib.Core.List.{List, [], ◌∷◌, map, reverse, append-nil, Memᴰ}
use Prim.Native.Nat.{ℕ, zero, suc, ◌<◌}
use native.Mathlib.Omega.{arith}
use lib.ListN.{length, get_or}
use lib.IntN.{ℤ, pos}
use Rattle.integers.proofs.Ring.{ring, quote}
use Rattle.outline.specs.declared.Position.{Position}
use Rattle.outline.specs.declared.Totals.{Totals}
use Rattle.outline.specs.declared.AffineMap.{AffineMap}
use Rattle.outline.specs.EdgeSums.{outline_totals, negated, over}
use Rattle.outline.specs.ListCall.{accepted, points, numbers, any_outside, list_call}
use Rattle.outline.specs.MapCall.{move_point, moved, disallowed, map_call}
use Rattle.outline.specs.Pieces.{Piece, Cut, cut_all, pieces_of, start_at, Direction, forwards, backwards, walked, placed, totals_of, sum_of, directed}
use Rattle.outline.specs.PiecesAddUp.{AddUpMoved}
use Rattle.outline.proofs.TotalsLaws.{plus-zeros}
use Rattle.outline.proofs.IndexLaws.{points-numbers}
use Rattle.outline.proofs.Limits.{none-beyond, accepts_only_outlines}
use Rattle.outline.proofs.MapLaw.{map-accepts}
use Rattle.outline.proofs.PiecesAddUp.{pieces_add_up}

-- What is claimed of some pieces, all walked in the direction w, and of the totals t.
pub record AddUp (w : Direction) (t : Totals) (pieces : List Piece) : Type 0 where
  -- The list call refuses no piece.
  pub list-accepts : (p : Piece) → Memᴰ p pieces → list_call (numbers p) ≡ accepted (totals_of p)
  -- The pieces' totals add up to t, with all six signs turned if walked backwards.
  pub sum : sum_of (map totals_of pieces) ≡ directed w t

only-piece : {w : Direction} {t : Totals} {p : Piece} → AddUp w t (p ∷ []) → list_call (numbers p) ≡ accepted (directed w t)
unfolding sum_of
only-piece {p = p} r = r.list-accepts p (Memᴰ.head refl) ∙ ap accepted (sym (plus-zeros (totals_of p)) ∙ r.sum)

-- ---- two cuttings of one outline

-- Pieces of which the claim holds for the same map, direction and totals add up to the same.
pub same_sum : {m : AffineMap} {w : Direction} {t : Totals} {pieces others : List Piece} → AddUpMoved m w t pieces → AddUpMoved m w t others → sum_of (map totals_of pieces) ≡ sum_of (map totals_of others)
same_sum {w = w} one other = one.sum ∙ ap (λ r. directed w r.totals) (sym one.map-accepts ∙ other.map-accepts) ∙ sym other.sum

-- ---- no cut

-- What is claimed of one piece, walked in the direction w and moved by the map m, and of its totals t before.
pub record OnePiece (m : AffineMap) (w : Direction) (t : Totals) (p : Piece) : Type 0 where
  -- The map's own answer for t, which is never refused.
  pub image : Totals
  pub map-accepts : map_call m t ≡ accepted image
  -- The list call answers the same, with all six signs turned if walked backwards.
  pub list-accepts : list_call (numbers p) ≡ accepted (directed w image)

-- The outline is the only piece, started anywhere, walked either way and moved.
pub no_cut : (zs : List ℤ) (t : Totals) → list_call zs ≡ accepted t → (s : ℕ) (w : Direction) (m : AffineMap) → disallowed m ≡ false → any_outside (moved m (points zs)) ≡ false → OnePiece m w t (moved m (start_at s (walked w (points zs))))
unfolding cut_all placed
no_cut zs t taken s w m allowed bounds =
    let r = pieces_add_up zs t taken [] (λ k. s) w m allowed bounds in
    record { image = r.image; map-accepts = r.map-accepts; list-accepts = only-piece (record { list-accepts = r.list-accepts; sum = r.sum }) }

-- ---- the map that moves nothing

abbrev pub identity : AffineMap
identity = record { a = pos 1; b = pos 0; g = pos 0; h = pos 1; e = pos 0; f = pos 0 }

identity_point : (p : Position) → move_point identity p ≡ p
identity_point p = λ i. record { x = ex i; y = ey i }
  where
    ex : (move_point identity p).x ≡ p.x
    ex = ring (p.x ∷ p.y ∷ []) (search quote depth 12) (search quote depth 12) tt

    ey : (move_point identity p).y ≡ p.y
    ey = ring (p.x ∷ p.y ∷ []) (search quote depth 12) (search quote depth 12) tt

map_same : {A : Type 0} (f : A → A) → ((a : A) → f a ≡ a) → (l : List A) → map f l ≡ l
map_same f h [] = refl
map_same {A} f h (a ∷ l) = ap₂ {C = List A} (λ b k. b ∷ k) (h a) (map_same f h l)

identity_allowed : disallowed identity ≡ false
unfolding disallowed over
identity_allowed = refl

-- ---- no map

-- Started at position 0, a piece is as it was.
pub first-start : (pieces : List Piece) → placed forwards (λ k. 0) pieces ≡ pieces
unfolding placed walked
first-start [] = refl
first-start (p ∷ pieces) = ap₂ {C = List Piece} (λ b l. b ∷ l) (append-nil p) (first-start pieces)

module _ (zs : List ℤ) (t : Totals) (taken : list_call zs ≡ accepted t) where
  identity_bounds : any_outside (moved identity (points zs)) ≡ false
  identity_bounds = ap any_outside (map_same (move_point identity) identity_point (points zs)) ∙ none-beyond 2000 (points zs) (accepts_only_outlines zs t taken).0.outline.inside

  identity_answer : map_call identity t ≡ accepted t
  identity_answer =
      let k = accepts_only_outlines zs t taken in
      ap (map_call identity) k.1
      ∙ map-accepts identity (points zs) k.0.outline identity_allowed identity_bounds
      ∙ ap accepted (ap outline_totals (map_same (move_point identity) identity_point (points zs)) ∙ sym k.1)

  -- Cut by any list of cuts, every piece started anywhere.
  pub no_map : (cuts : List Cut) (start : ℕ → ℕ) (w : Direction) → AddUp w t (placed w start (pieces_of (points zs) cuts))
  no_map cuts start w =
      let pieces = placed w start (pieces_of (points zs) cuts) in
      let r = pieces_add_up zs t taken cuts start w identity identity_allowed identity_bounds in
      let same = ap (λ a. directed w a.totals) (sym r.map-accepts ∙ identity_answer) in
      subst (AddUp w t) (map_same (moved identity) (map_same (move_point identity) identity_point) pieces) (record { list-accepts = r.list-accepts; sum = r.sum ∙ same })

  -- Cut only: each piece as the cuts left it.
  pub cuts_only : (cuts : List Cut) → AddUp forwards t (pieces_of (points zs) cuts)
  cuts_only cuts = subst (AddUp forwards t) (first-start (pieces_of (points zs) cuts)) (no_map cuts (λ k. 0) forwards)

  -- Not cut: started anywhere and walked either way,
  pub no_cut_no_map : (s : ℕ) (w : Direction) → list_call (numbers (start_at s (walked w (points zs)))) ≡ accepted (directed w t)
  unfolding cut_all placed
  no_cut_no_map s w = only-piece (no_map [] (λ k. s) w)

  -- so another start answers the same totals,
  pub another_start : (s : ℕ) → list_call (numbers (start_at s (points zs))) ≡ accepted t
  unfolding walked directed
  another_start s = no_cut_no_map s forwards

  -- and backwards, from any point, the same with all six signs turned.
  pub opposite_order : (s : ℕ) → list_call (numbers (start_at s (reverse (points zs)))) ≡ accepted (negated t)
  unfolding walked directed
  opposite_order s = no_cut_no_map s backwards

  -- Moved only: the list call answers for the moved points what the map call answers for the totals.
  pub moved-only : (m : AffineMap) → disallowed m ≡ false → any_outside (moved m (points zs)) ≡ false → list_call (numbers (moved m (points zs))) ≡ map_call m t
  unfolding walked directed
  moved-only m allowed bounds =
      let r = no_cut zs t taken 0 forwards m allowed bounds in
      ap (λ l. list_call (numbers (moved m l))) (sym (append-nil (points zs))) ∙ r.list-accepts ∙ sym r.map-accepts

  -- One piece of those that the cuts leave, started anywhere, walked either way and moved, where the map keeps the points of this piece within the limits.
  pub one_piece : (cuts : List Cut) (p : Piece) → Memᴰ p (pieces_of (points zs) cuts) → (s : ℕ) (w : Direction) (m : AffineMap) → disallowed m ≡ false → any_outside (moved m p) ≡ false → OnePiece m w (totals_of p) (moved m (start_at s (walked w p)))
  one_piece cuts p k s w m allowed bounds =
      let q = points-numbers p in
      subst (λ l. OnePiece m w (totals_of p) (moved m (start_at s (walked w l)))) q (no_cut (numbers p) (totals_of p) ((cuts_only cuts).list-accepts p k) s w m allowed (ap (λ l. any_outside (moved m l)) q ∙ bounds))

-- ---- starts

-- Each piece is walked and started by itself, piece k from start k.
pub placed_at : (w : Direction) (start : ℕ → ℕ) (pieces : List Piece) (k : ℕ) → k < length pieces → get_or (placed w start pieces) k [] ≡ start_at (start k) (walked w (get_or pieces k []))
unfolding placed
placed_at w start [] k h = absurd (omega arith)
placed_at w start (p ∷ pieces) zero h = refl
placed_at w start (p ∷ pieces) (suc k) h = placed_at w (λ n. start (suc n)) pieces k (omega arith)
