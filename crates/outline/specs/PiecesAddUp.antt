-- Demand 3, whole, as one statement. proofs/PiecesAddUp has its proof.
use Rattle.std.specs.Prelude.{◌≡◌, false, ℕ, ℤ}
use mathlib.Core.List.{List, map, Memᴰ}
use Rattle.outline.specs.declared.Totals.{Totals}
use Rattle.outline.specs.declared.AffineMap.{AffineMap}
use Rattle.outline.specs.ListCall.{accepted, points, numbers, any_outside, list_call}
use Rattle.outline.specs.MapCall.{moved, disallowed, map_call}
use Rattle.outline.specs.Pieces.{Piece, Cut, pieces_of, Direction, placed, totals_of, sum_of, directed}

-- What is claimed of some pieces, all walked in one direction and moved by the map m, and of the uncut outline's totals t.
pub record AddUpMoved (m : AffineMap) (direction : Direction) (t : Totals) (pieces : List Piece) : Type 0 where
  -- The map's own answer for t, which is never refused.
  pub image : Totals
  pub map-accepts : map_call m t ≡ accepted image
  -- The list call refuses no piece.
  pub list-accepts : (p : Piece) → Memᴰ p pieces → list_call (numbers p) ≡ accepted (totals_of p)
  -- The pieces' totals, each of the six by itself, add up to the map's answer, with all six signs turned if walked backwards.
  pub sum : sum_of (map totals_of pieces) ≡ directed direction image

abbrev pub PiecesAddUp : Type 0
PiecesAddUp =
    -- For every list of numbers
    (zs : List ℤ)
    -- and the six totals
    (t : Totals)
    -- with which the list call accepts it;
    → list_call zs ≡ accepted t
    -- for every list of cuts, of any length, those that cannot be made included;
    → (cuts : List Cut)
    -- for every start in each piece, piece k from start k;
    → (start : ℕ → ℕ)
    -- for either direction, the same for all pieces;
    → (direction : Direction)
    -- for every map
    → (m : AffineMap)
    -- that 3 does not refuse, d = 0 included,
    → disallowed m ≡ false
    -- and that moves no point to where 1 refuses it:
    → any_outside (moved m (points zs)) ≡ false
    -- the claim holds of the pieces that the cuts leave, so started, walked and moved.
    → AddUpMoved m direction t (map (moved m) (placed direction start (pieces_of (points zs) cuts)))
