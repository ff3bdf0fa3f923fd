-- Document 01, "Walk and sheet", and document 02, CR 3 and CR 9: lists of calls on one walk, and lists of ends on one sheet.
use Rattle.std.specs.Prelude.{ℕ, ◌≡◌, Bool, false, cond, List, [], ◌∷◌, ◌++◌, eqb, length, get_or, Float}
use Rattle.receiver.specs.declared.Entry.{Entry}
use Rattle.receiver.specs.declared.Entry.TheVariants.{Fix, Outage}
use Rattle.receiver.specs.Floats.{plus_zero}
use Rattle.outline.specs.declared.Position.{Position}
use Rattle.outline.specs.declared.Totals.{Totals}
use Rattle.outline.specs.declared.Kind.{Kind}
use Rattle.outline.specs.declared.Kind.TheVariants.{Island}
use Rattle.outline.specs.declared.Walk.{Walk}
use Rattle.outline.specs.declared.Sheet.{Sheet}
use Rattle.outline.specs.EdgeSums.{open_edges, totals_over, outline_totals}
use Rattle.outline.specs.FixCall.{fix_point}
use Rattle.outline.specs.WalkCalls.{origin, open_walk, turned, begin_call, point_call, end_call, abandon_call, impossible_sheet}
use Rattle.outline.specs.EntryCalls.{longer, entry_call}

-- ---- calls on a walk

-- Every end may have a sheet of its own.
pub data Call : Type 0 where
  begin : Kind → Call
  point : Position → Call
  entry : Entry → Call
  end : Sheet → Call
  abandon : Call

-- The number that a call on the walk w answers, and the walk that it leaves.
unfoldable pub number_of : Walk → Call → ℕ
number_of w (begin k) = (begin_call w k).number
number_of w (point p) = (point_call w p).number
number_of w (entry e) = (entry_call w e).number
number_of w (end s) = (end_call w s).number
number_of w abandon = (abandon_call w).number

unfoldable pub walk_after : Walk → Call → Walk
walk_after w (begin k) = (begin_call w k).walk
walk_after w (point p) = (point_call w p).walk
walk_after w (entry e) = (entry_call w e).walk
walk_after w (end s) = (end_call w s).walk
walk_after w abandon = (abandon_call w).walk

-- The call hands in a sheet that 28 refuses.
unfoldable pub impossible_sheet_in : Call → Bool
impossible_sheet_in (begin k) = false
impossible_sheet_in (point p) = false
impossible_sheet_in (entry e) = false
impossible_sheet_in (end s) = impossible_sheet s
impossible_sheet_in abandon = false

-- Document 02's word for a walked outline: the kind that begin was given, and the points taken since, those of fixes among them. Beside them the outages taken since.
pub record Ring : Type 0 where
  pub kind : Kind
  pub points : List Position
  pub outages : List Float

-- A ring without an outage.
abbrev pub ring_of : Kind → List Position → Ring
ring_of k ps = record { kind = k; points = ps; outages = [] }

-- The ring with one point more, and with one outage more.
abbrev pub with_point : Ring → Position → Ring
with_point g p = record { kind = g.kind; points = g.points ++ p ∷ []; outages = g.outages }

abbrev pub with_seconds : Ring → Float → Ring
with_seconds g seconds = record { kind = g.kind; points = g.points; outages = g.outages ++ seconds ∷ [] }

-- What an accepted call does to the ring.
unfoldable pub ring_with : Ring → Call → Ring
ring_with g (begin k) = ring_of k []
ring_with g (point p) = with_point g p
ring_with g (entry (Fix f)) = with_point g (fix_point f)
ring_with g (entry (Outage seconds)) = with_seconds g seconds
ring_with g (end s) = g
ring_with g abandon = g

-- A walk, and the ring that it has walked since it was last opened.
pub record Trace : Type 0 where
  pub walk : Walk
  pub ring : Ring

unfoldable pub next : Trace → Call → Trace
next r c = record { walk = walk_after r.walk c; ring = cond (eqb (number_of r.walk c) 0) (ring_with r.ring c) r.ring }

-- The calls of a list, one after another on the same walk.
unfoldable pub after : Trace → List Call → Trace
after r [] = r
after r (c ∷ calls) = after (next r c) calls

-- Before the first call.
abbrev pub from : Walk → Trace
from w = record { walk = w; ring = ring_of Island [] }

-- The first and the last of some points.
abbrev pub first_of : List Position → Position
first_of ps = get_or ps 0 origin

abbrev pub last_of : List Position → Position
last_of [] = origin
last_of (a ∷ ps) = get_or (a ∷ ps) (length ps) origin

-- What the longest outage becomes by some outages in turn.
unfoldable pub longest_after : Float → List Float → Float
longest_after kept [] = kept
longest_after kept (seconds ∷ rest) = longest_after (longer kept seconds) rest

-- The walk that begin, the points and the outages of a ring make: its kind, the number of points, the first and the last of them, the sums over the edges from each to the next,
-- and the longest outage, which begins as plus zero.
abbrev pub walk_of : Ring → Walk
walk_of g = let ps = g.points in open_walk g.kind (length ps) (first_of ps) (last_of ps) (totals_over (open_edges ps)) (longest_after plus_zero g.outages)

-- The totals of a ring as added: the sums over all edges, the closing edge among them, turned by its kind.
abbrev pub ring_totals : Ring → Totals
ring_totals g = turned g.kind (outline_totals g.points)

-- ---- ends on a sheet, each with whichever walk

unfoldable pub sheet_after : Sheet → List Walk → Sheet
sheet_after s [] = s
sheet_after s (w ∷ ws) = sheet_after (end_call w s).sheet ws

-- The totals that the accepted ends answered, and so added.
unfoldable pub added_by : Sheet → List Walk → List Totals
added_by s [] = []
added_by s (w ∷ ws) =
    let r = end_call w s in
    cond (eqb r.number 0) (r.totals ∷ added_by r.sheet ws) (added_by r.sheet ws)

-- A walk marked closed, and calls on it, one after another.
pub record Walking : Type 0 where
  pub start : Walk
  pub is_closed : start.is_open ≡ false
  pub calls : List Call

abbrev pub reached : Walking → Trace
reached k = after (from k.start) k.calls

-- The rings of those walks whose end the sheet accepted.
unfoldable pub rings_on : Sheet → List Trace → List Ring
rings_on s [] = []
rings_on s (r ∷ rs) =
    let e = end_call r.walk s in
    cond (eqb e.number 0) (r.ring ∷ rings_on e.sheet rs) (rings_on e.sheet rs)
