-- Demand 3's statement used at one outline, so that a weaker statement, or a weaker definition of cuts, starts and directions, is refused here.
use mathlib.Core.Path.{◌≡◌, refl, sym, ◌∙◌, ap, subst}
use mathlib.Core.Bool.{true, false}
use mathlib.Core.List.{List, [], ◌∷◌, map, Memᴰ}
use Prim.Native.Nat.{ℕ, zero, suc}
use lib.IntN.{ℤ, pos, negsuc, neg_ℤ, ◌+ℤ◌}
use Rattle.outline.specs.declared.Position.{Position}
use Rattle.outline.specs.declared.Totals.{Totals}
use Rattle.outline.specs.declared.AffineMap.{AffineMap}
use Rattle.outline.specs.EdgeSums.{Term, open_edges, edges, sum_over, over, exceed, zeros, negated}
use Rattle.outline.specs.ListCall.{accepted, points, numbers, beyond, any_beyond, any_outside, wrong_length, list_call}
use Rattle.outline.specs.MapCall.{moved, disallowed, map_call}
use Rattle.outline.specs.Pieces.{Piece, Cut, neighbours, can_cut, cut_once, cut_all, pieces_of, start_at, Direction, forwards, backwards, walked, placed, totals_of, sum_of, directed}
use Rattle.outline.specs.OddTerms.{sum_around, OddTermAddsUp}
use Rattle.outline.specs.PiecesAddUp.{AddUpMoved}
use Rattle.outline.proofs.WorkedInputs.{at}
use Rattle.outline.proofs.OddTermAddsUp.{odd_term_adds_up}
use Rattle.outline.proofs.PiecesAddUp.{pieces_add_up}
use Rattle.outline.proofs.PiecesLaws.{same_sum, OnePiece, one_piece}

-- ---- an outline, its pieces and their starts

-- A pentagon, x and y in turn.
abbrev pub pentagon : List ℤ
pentagon = pos 0 ∷ pos 0 ∷ pos 4 ∷ pos 0 ∷ pos 5 ∷ pos 2 ∷ pos 2 ∷ pos 4 ∷ pos 0 ∷ pos 3 ∷ []

abbrev pub pentagon_totals : Totals
pentagon_totals = record { a2 = pos 30; x6 = pos 196; y6 = pos 154; xx12 = pos 1136; xy24 = pos 1316; yy12 = pos 702 }

pub pentagon_taken : list_call pentagon ≡ accepted pentagon_totals
unfolding open_edges edges sum_over over points beyond any_beyond wrong_length list_call
pentagon_taken = refl

abbrev cut : ℕ → ℕ → ℕ → Cut
cut piece one other = record { piece = piece; one = one; other = other }

-- Only two can be made: the second, which names the higher position first, and the last, of the piece that the second has made.
-- The others name a piece that does not exist, neighbours, neighbours over the closing edge, a position past the end, and one position twice.
abbrev pub cuts : List Cut
cuts = cut 7 0 2 ∷ cut 0 2 0 ∷ cut 0 0 1 ∷ cut 1 3 0 ∷ cut 1 1 4 ∷ cut 1 2 2 ∷ cut 1 0 2 ∷ []

cut_pieces : pieces_of (points pentagon) cuts ≡ (at (pos 0) (pos 0) ∷ at (pos 4) (pos 0) ∷ at (pos 5) (pos 2) ∷ []) ∷ (at (pos 5) (pos 2) ∷ at (pos 2) (pos 4) ∷ at (pos 0) (pos 3) ∷ []) ∷ (at (pos 0) (pos 3) ∷ at (pos 0) (pos 0) ∷ at (pos 5) (pos 2) ∷ []) ∷ []
unfolding points neighbours can_cut cut_once cut_all
cut_pieces = refl

-- Away from position 0: neighbours, and a cut between positions 1 and 3.
cut_inside : pieces_of (points pentagon) (cut 0 1 2 ∷ cut 0 3 1 ∷ []) ≡ (at (pos 4) (pos 0) ∷ at (pos 5) (pos 2) ∷ at (pos 2) (pos 4) ∷ []) ∷ (at (pos 2) (pos 4) ∷ at (pos 0) (pos 3) ∷ at (pos 0) (pos 0) ∷ at (pos 4) (pos 0) ∷ []) ∷ []
unfolding points neighbours can_cut cut_once cut_all
cut_inside = refl

-- Started at position 2, and the opposite order.
started : start_at 2 (points pentagon) ≡ at (pos 5) (pos 2) ∷ at (pos 2) (pos 4) ∷ at (pos 0) (pos 3) ∷ at (pos 0) (pos 0) ∷ at (pos 4) (pos 0) ∷ []
unfolding points
started = refl

opposite : walked backwards (points pentagon) ≡ at (pos 0) (pos 3) ∷ at (pos 2) (pos 4) ∷ at (pos 5) (pos 2) ∷ at (pos 4) (pos 0) ∷ at (pos 0) (pos 0) ∷ []
unfolding points walked
opposite = refl

-- A start for each piece.
abbrev pub starts : ℕ → ℕ
starts zero = 2
starts (suc zero) = 0
starts (suc (suc k)) = 1

-- The pieces so started and walked backwards.
abbrev pub reversed : List Piece
reversed = placed backwards starts (pieces_of (points pentagon) cuts)

placed_pieces : reversed ≡ (at (pos 0) (pos 0) ∷ at (pos 5) (pos 2) ∷ at (pos 4) (pos 0) ∷ []) ∷ (at (pos 0) (pos 3) ∷ at (pos 2) (pos 4) ∷ at (pos 5) (pos 2) ∷ []) ∷ (at (pos 0) (pos 0) ∷ at (pos 0) (pos 3) ∷ at (pos 5) (pos 2) ∷ []) ∷ []
unfolding points neighbours can_cut cut_once cut_all placed walked
placed_pieces = refl

-- ---- a map without area, backwards

-- u = x + 5, v = 2x − 5: d is 0.
abbrev pub flat : AffineMap
flat = record { a = pos 1; b = pos 0; g = pos 2; h = pos 0; e = pos 5; f = negsuc 4 }

pub flat_allowed : disallowed flat ≡ false
unfolding disallowed over
flat_allowed = refl

pub flat_bounds : any_outside (moved flat (points pentagon)) ≡ false
unfolding points over beyond any_beyond
flat_bounds = refl

flat_use : AddUpMoved flat backwards pentagon_totals (map (moved flat) reversed)
flat_use = pieces_add_up pentagon pentagon_totals pentagon_taken cuts starts backwards flat flat_allowed flat_bounds

flat_accepted : (p : Piece) → Memᴰ p (map (moved flat) reversed) → list_call (numbers p) ≡ accepted (totals_of p)
flat_accepted = flat_use.list-accepts

flat_answer : map_call flat pentagon_totals ≡ accepted zeros
unfolding disallowed over exceed map_call
flat_answer = refl

flat_sum : sum_of (map totals_of (map (moved flat) reversed)) ≡ negated zeros
unfolding directed
flat_sum = flat_use.sum ∙ ap (λ r. negated r.totals) (sym flat_use.map-accepts ∙ flat_answer)

-- ---- a map that mirrors, in either direction

-- u = −x + y + 1, v = 2x + y − 3: d is −3.
abbrev pub mirror : AffineMap
mirror = record { a = negsuc 0; b = pos 1; g = pos 2; h = pos 1; e = pos 1; f = negsuc 2 }

abbrev pub mirrored : Totals
mirrored = record { a2 = negsuc 89; x6 = negsuc 143; y6 = negsuc 827; xx12 = negsuc 1601; xy24 = pos 648; yy12 = negsuc 8837 }

pub mirror_allowed : disallowed mirror ≡ false
unfolding disallowed over
mirror_allowed = refl

pub mirror_bounds : any_outside (moved mirror (points pentagon)) ≡ false
unfolding points over beyond any_beyond
mirror_bounds = refl

pub mirror-answer : map_call mirror pentagon_totals ≡ accepted mirrored
unfolding disallowed over exceed map_call
mirror-answer = refl

mirror_use : (direction : Direction) → AddUpMoved mirror direction pentagon_totals (map (moved mirror) (placed direction starts (pieces_of (points pentagon) cuts)))
mirror_use direction = pieces_add_up pentagon pentagon_totals pentagon_taken cuts starts direction mirror mirror_allowed mirror_bounds

mirror-sum : (direction : Direction) → sum_of (map totals_of (map (moved mirror) (placed direction starts (pieces_of (points pentagon) cuts)))) ≡ directed direction mirrored
mirror-sum direction = (mirror_use direction).sum ∙ ap (λ r. directed direction r.totals) (sym (mirror_use direction).map-accepts ∙ mirror-answer)

-- ---- one piece, where the map moves another point of the outline out of the limits

-- u = x + 1,996: (5,2) would go to 2,001.
abbrev far : AffineMap
far = record { a = pos 1; b = pos 0; g = pos 0; h = pos 1; e = pos 1996; f = pos 0 }

abbrev corner : Piece
corner = at (pos 0) (pos 3) ∷ at (pos 0) (pos 0) ∷ at (pos 4) (pos 0) ∷ []

corner-cut : pieces_of (points pentagon) (cut 0 1 4 ∷ []) ≡ (at (pos 4) (pos 0) ∷ at (pos 5) (pos 2) ∷ at (pos 2) (pos 4) ∷ at (pos 0) (pos 3) ∷ []) ∷ corner ∷ []
unfolding points neighbours can_cut cut_once cut_all
corner-cut = refl

far_allowed : disallowed far ≡ false
unfolding disallowed over
far_allowed = refl

far_bounds : (any_outside (moved far corner) ≡ false) × (any_outside (moved far (points pentagon)) ≡ true)
unfolding points over beyond any_beyond
far_bounds = (refl, refl)

far-corner : OnePiece far backwards (totals_of corner) (moved far (start_at 2 (walked backwards corner)))
far-corner = one_piece pentagon pentagon_totals pentagon_taken (cut 0 1 4 ∷ []) corner (subst (Memᴰ corner) (sym corner-cut) (Memᴰ.tail (Memᴰ.head refl))) 2 backwards far far_allowed far_bounds.0

-- ---- every outline

-- Whatever the cuts and the starts, the pieces' totals add up to the same.
any_cuts : (zs : List ℤ) (t : Totals) → list_call zs ≡ accepted t → (m : AffineMap) → disallowed m ≡ false → any_outside (moved m (points zs)) ≡ false → (direction : Direction) (some others : List Cut) (start from : ℕ → ℕ) → sum_of (map totals_of (map (moved m) (placed direction start (pieces_of (points zs) some)))) ≡ sum_of (map totals_of (map (moved m) (placed direction from (pieces_of (points zs) others))))
any_cuts zs t taken m allowed bounds direction some others start from = same_sum (pieces_add_up zs t taken some start direction m allowed bounds) (pieces_add_up zs t taken others from direction m allowed bounds)

-- ---- any edge term that changes sign with its edge

any_term : OddTermAddsUp
any_term = odd_term_adds_up

module _ (t : Term) (turns : (a b : Position) → t b a ≡ neg_ℤ (t a b)) (ps : List Position) (cutting : List Cut) (start : ℕ → ℕ) where
  term_forwards : sum_around t (placed forwards start (pieces_of ps cutting)) ≡ sum_over t (edges ps)
  term_forwards = any_term t turns ps cutting start forwards

  term_backwards : sum_around t (placed backwards start (pieces_of ps cutting)) ≡ neg_ℤ (sum_over t (edges ps))
  term_backwards = any_term t turns ps cutting start backwards

-- Two pieces, each with its closing edge.
two_sums : (t : Term) (p q : Piece) → sum_around t (p ∷ q ∷ []) ≡ sum_over t (edges p) +ℤ (sum_over t (edges q) +ℤ pos 0)
two_sums t p q = refl
