-- Demands 2 and 3 for walked outlines, as statements. Since document 02's CR 3 they speak of the walk's totals with the closing edge, before any sign is turned, whether or
-- not an end is then refused. proofs/WalkedOutline and proofs/WalkedAgain have the proofs.
use Rattle.std.specs.Prelude.{◌≡◌, true, false, List, map, ◌≢◌, ◌⊎◌, ℕ, ◌≤◌, pos}
use Rattle.outline.specs.declared.AffineMap.{AffineMap}
use Rattle.outline.specs.declared.Walk.{Walk}
use Rattle.outline.specs.declared.Sheet.{Sheet}
use Rattle.outline.specs.EdgeSums.{outline_totals}
use Rattle.outline.specs.ListCall.{accepted, numbers, any_outside, list_call}
use Rattle.outline.specs.MapCall.{moved, disallowed, map_call}
use Rattle.outline.specs.Pieces.{Cut, pieces_of, start_at, Direction, walked, placed, directed}
use Rattle.outline.specs.WalkCalls.{closed, closed_totals, impossible_walk, impossible_sheet, end_call}
use Rattle.outline.specs.CallLists.{Call, number_of, impossible_sheet_in, Trace, walk_of, ring_totals, Walking, reached}
use Rattle.outline.specs.PiecesAddUp.{AddUpMoved}

-- ---- demand 2

-- A walk that is open and has 3 points or more, so that 21 and 24 do not refuse its end.
pub record Closable (w : Walk) : Type 0 where
  pub is_open : w.is_open ≡ true
  pub enough : 3 ≤ w.count

-- What is claimed of a walk, and of its ring: the kind of the last accepted begin, and the points of the accepted point calls and fixes since.
pub record IsOutline (r : Trace) : Type 0 where
  -- 28 takes the walk,
  pub possible : impossible_walk r.walk ≡ false
  -- so no call on it answers 28, but an end with a sheet that 28 refuses.
  pub never_28 : (c : Call) → impossible_sheet_in c ≡ false → number_of r.walk c ≢ 28
  -- While the walk is open, it is the walk of the ring: its kind, the number of its points, their ends, the sums over their edges so far, and the longest of its outages.
  pub is_walk : r.walk.is_open ≡ true → r.walk ≡ walk_of r.ring
  -- From 3 points on, its totals with the closing edge are the sums over all edges of the points,
  pub edge_sums : Closable r.walk → closed_totals r.walk ≡ outline_totals r.ring.points
  -- which is what the list call answers for the points.
  pub list_call_agrees : Closable r.walk → list_call (numbers r.ring.points) ≡ accepted (closed_totals r.walk)
  -- An end that is accepted is one of such a walk, and answers these totals, turned by the ring's kind.
  pub closable : (s : Sheet) → (end_call r.walk s).number ≡ 0 → Closable r.walk
  pub answered : (s : Sheet) → (end_call r.walk s).number ≡ 0 → (end_call r.walk s).totals ≡ ring_totals r.ring
  -- 32 is the answer where A2 is 0, on every sheet that 28 takes, and only there.
  pub zero_area_lem : Closable r.walk → (s : Sheet) → impossible_sheet s ≡ false → (outline_totals r.ring.points).a2 ≡ pos 0 → (end_call r.walk s).number ≡ 32
  pub only_zero_area : (s : Sheet) → (end_call r.walk s).number ≡ 32 → (outline_totals r.ring.points).a2 ≡ pos 0

abbrev pub WalkedOutline : Type 0
WalkedOutline =
    -- For every walk marked closed and every list of calls from it on, entries of a receiver among them, refused ones included, the ends with whichever sheets,
    (k : Walking)
    -- the claim holds of the walk and the ring that they come to.
    → IsOutline (reached k)

-- Document 01: a closed walk equals one that was never opened.
abbrev pub LeftClosed : Type 0
LeftClosed =
    -- For every walk marked closed and every list of calls from it on
    (k : Walking)
    -- that leave the walk closed:
    → (reached k).walk.is_open ≡ false
    -- it is the one handed in, or the closed walk, all its numbers zero and its longest outage plus zero.
    → ((reached k).walk ≡ k.start) ⊎ ((reached k).walk ≡ closed)

-- ---- demand 3

abbrev pub WalkedPieces : Type 0
WalkedPieces =
    -- For every walk marked closed and every list of calls from it on
    (k : Walking)
    -- that leave the walk open with 3 points or more;
    → Closable (reached k).walk
    -- for every list of cuts, of any length, those that cannot be made included;
    → (cuts : List Cut)
    -- for every start in each piece, piece k from start k;
    → (start : ℕ → ℕ)
    -- for either direction, the same for all pieces;
    → (direction : Direction)
    -- for every map
    → (m : AffineMap)
    -- that 3 does not refuse, d = 0 included,
    → disallowed m ≡ false
    -- and that moves no point of the walk to where 1 refuses it:
    → any_outside (moved m (reached k).ring.points) ≡ false
    -- the claim holds of the pieces of the walk's points, and of its totals with the closing edge.
    → AddUpMoved m direction (closed_totals (reached k).walk) (map (moved m) (placed direction start (pieces_of (reached k).ring.points cuts)))

-- Demand 3's last sentence: no cut, only another start, the other direction or a map.
abbrev pub WalkedAgain : Type 0
WalkedAgain =
    -- For every walk that calls from one marked closed have made
    (first : Walking)
    -- and left open with 3 points or more,
    → Closable (reached first).walk
    -- and every other such walk;
    → (second : Walking)
    → Closable (reached second).walk
    -- for every start,
    → (start : ℕ)
    -- either direction
    → (direction : Direction)
    -- and every map
    → (m : AffineMap)
    -- that 3 does not refuse, d = 0 included,
    → disallowed m ≡ false
    -- and that moves no point of the first to where 1 refuses it:
    → any_outside (moved m (reached first).ring.points) ≡ false
    -- if the second's points are the first's, so walked, started and moved,
    → (reached second).ring.points ≡ moved m (start_at start (walked direction (reached first).ring.points))
    -- the map call accepts the first's totals with the closing edge, and answers the second's, with all six signs turned if walked backwards.
    → map_call m (closed_totals (reached first).walk) ≡ accepted (directed direction (closed_totals (reached second).walk))
