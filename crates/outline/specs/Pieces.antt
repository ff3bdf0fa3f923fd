-- Document 01, "Cuts, starts and moves". Its "piece" is a closed polygon, given by its points; its "cut" splits a polygon along a chord, the line between two of its points.
use Rattle.std.specs.Prelude.{ℕ, suc, min, max, Bool, not, ◌&&◌, ◌||◌, cond, List, [], ◌∷◌, ◌++◌, reverse, ltb, eqb, length, get_or, take, drop, set}
use Rattle.outline.specs.declared.Position.{Position}
use Rattle.outline.specs.declared.Totals.{Totals}
use Rattle.outline.specs.EdgeSums.{zeros, plus, negated}
use Rattle.outline.specs.ListCall.{numbers, list_call}

abbrev pub Piece : Type 0
Piece = List Position

-- ---- cuts

-- Which piece is cut, and which two of its points the chord joins; the first has number 0.
pub record Cut : Type 0 where
  pub piece : ℕ
  pub one : ℕ
  pub other : ℕ

abbrev pub lower : Cut → ℕ
lower c = min c.one c.other

abbrev pub higher : Cut → ℕ
higher c = max c.one c.other

-- The chord is an edge of a piece of n points, the closing edge included.
unfoldable pub neighbours : ℕ → Cut → Bool
neighbours n c = eqb (suc (lower c)) (higher c) || eqb (lower c) 0 && eqb (suc (higher c)) n

-- There is such a piece, it has points of both numbers, the numbers differ, and no edge joins the two.
unfoldable pub can_cut : List Piece → Cut → Bool
can_cut pieces c =
    let n = length (get_or pieces c.piece []) in
    ltb c.piece (length pieces) && ltb c.one n && ltb c.other n && not (eqb c.one c.other) && not (neighbours n c)

-- The part between the cut points, with both. It takes the place of the piece that was cut.
abbrev pub kept : Cut → Piece → Piece
kept c p = drop (lower c) (take (suc (higher c)) p)

-- The part round the other way, over the closing edge, again with both cut points. It is put after all pieces.
abbrev pub others : Cut → Piece → Piece
others c p = drop (higher c) p ++ take (suc (lower c)) p

-- The pieces after a cut: with both parts in place of the whole, or as before where `can_cut` fails.
unfoldable pub cut_once : List Piece → Cut → List Piece
cut_once pieces c =
    let p = get_or pieces c.piece [] in
    cond (can_cut pieces c) (set pieces c.piece (kept c p) ++ others c p ∷ []) pieces

-- The cuts of a list, one after another.
unfoldable pub cut_all : List Piece → List Cut → List Piece
cut_all pieces [] = pieces
cut_all pieces (c ∷ cuts) = cut_all (cut_once pieces c) cuts

-- The pieces of an outline, which starts as piece 0.
abbrev pub pieces_of : List Position → List Cut → List Piece
pieces_of ps cuts = cut_all (ps ∷ []) cuts

-- ---- starts and directions

-- The same polygon, listed from point s on and round. (An s past the end changes nothing: more than document 01 asks.)
abbrev pub start_at : ℕ → Piece → Piece
start_at s p = drop s p ++ take s p

pub data Direction : Type 0 where
  forwards backwards : Direction

-- Backwards is the reverse of the list.
unfoldable pub walked : Direction → Piece → Piece
walked forwards p = p
walked backwards p = reverse p

-- All pieces walked in one direction, piece k from a start of its own.
unfoldable pub placed : Direction → (ℕ → ℕ) → List Piece → List Piece
placed w start [] = []
placed w start (p ∷ pieces) = start_at (start 0) (walked w p) ∷ placed w (λ k. start (suc k)) pieces

-- ---- totals of pieces

-- The totals of a piece, as the list call answers them.
abbrev pub totals_of : Piece → Totals
totals_of p = (list_call (numbers p)).totals

-- Six sums of integers, of any size.
unfoldable pub sum_of : List Totals → Totals
sum_of [] = zeros
sum_of (t ∷ ts) = plus t (sum_of ts)

-- The signs turn where the pieces are walked backwards.
unfoldable pub directed : Direction → Totals → Totals
directed forwards t = t
directed backwards t = negated t
