-- The statements on walked outlines are not empty: what the list call accepts can be walked, by points, by fixes or by both, with outages anywhere among them, and on a sheet with room
-- its end is accepted unless its area is zero. proofs/EveryOutline has the proof.
use Rattle.std.specs.Prelude.{◌≡◌, Bool, true, false, not, ◌||◌, ◌≢◌, ℕ, ◌<◌, ℤ, pos, Float}
use mathlib.Core.List.{List, [], ◌∷◌, Memᴰ}
use Rattle.receiver.specs.declared.Entry.TheVariants.{Fix, Outage}
use Rattle.receiver.specs.Floats.{not_finite, below_zero}
use Rattle.outline.specs.declared.Totals.{Totals}
use Rattle.outline.specs.declared.Kind.{Kind}
use Rattle.outline.specs.declared.Walk.{Walk}
use Rattle.outline.specs.declared.Sheet.{Sheet}
use Rattle.outline.specs.EdgeSums.{plus, exceed}
use Rattle.outline.specs.ListCall.{accepted, points, list_call}
use Rattle.outline.specs.MapCall.{total_limits}
use Rattle.outline.specs.FixCall.{fix_not_finite}
use Rattle.outline.specs.WalkCalls.{closed, sheet_with, turned, impossible_sheet, EndOutcome, refused_end, end_call}
use Rattle.outline.specs.CallLists.{Call, begin, point, entry, end, abandon, number_of, walk_after, Ring, ring_of, ring_with, after, from, walk_of}

-- The numbers that a list of calls answers, each call given the walk that the last one left.
abbrev pub answers : Walk → List Call → List ℕ
answers w [] = []
answers w (c ∷ calls) = number_of w c ∷ answers (walk_after w c) calls

-- A point, or an entry that neither 33 nor 34 refuses: a call by which an open walk goes on.
unfoldable pub point_or_entry : Call → Bool
point_or_entry (begin k) = false
point_or_entry (point p) = true
point_or_entry (entry (Fix f)) = not (fix_not_finite f)
point_or_entry (entry (Outage seconds)) = not (not_finite seconds || below_zero seconds)
point_or_entry (end s) = false
point_or_entry abandon = false

-- The ring that accepted calls make of one begun.
unfoldable pub ring_from : Ring → List Call → Ring
ring_from g [] = g
ring_from g (c ∷ calls) = ring_from (ring_with g c) calls

abbrev pub ring_by : Kind → List Call → Ring
ring_by k calls = ring_from (ring_of k []) calls

-- What is claimed of begin and some calls from w on, the end left for later: all are accepted, with number 0, and make the ring g and its walk.
pub record Walkable (w : Walk) (k : Kind) (calls : List Call) (g : Ring) : Type 0 where
  pub none-refused : (n : ℕ) → Memᴰ n (answers w (begin k ∷ calls)) → n ≡ 0
  pub ring : (after (from w) (begin k ∷ calls)).ring ≡ g
  pub walk : (after (from w) (begin k ∷ calls)).walk ≡ walk_of g

-- A sheet that 28 takes, that has fewer than 64 outlines, and that stays within its limits with t added.
pub record Room (s : Sheet) (t : Totals) : Type 0 where
  pub possible : impossible_sheet s ≡ false
  pub count : s.count < 64
  pub totals : exceed total_limits (plus s.totals t) ≡ false

-- What an accepted end answers and leaves: the totals t and the longest outage o.
abbrev pub ended_with : Sheet → Totals → Float → EndOutcome
ended_with s t o = record { number = 0; totals = t; outage = o; walk = closed; sheet = sheet_with s t }

-- What is claimed of a ring whose points have the totals t, by the list call.
pub record Ending (g : Ring) (t : Totals) : Type 0 where
  -- Where it has an area, its end is accepted by every sheet with room for the totals as added: it answers these and the longest outage, closes the walk and adds the totals to the sheet.
  pub accepted : t.a2 ≢ pos 0 → (s : Sheet) → Room s (turned g.kind t) → end_call (walk_of g) s ≡ ended_with s (turned g.kind t) (walk_of g).outage
  -- Where it has none, its end is refused with 32 by every sheet that 28 takes, and leaves the walk open.
  pub refused : t.a2 ≡ pos 0 → (s : Sheet) → impossible_sheet s ≡ false → end_call (walk_of g) s ≡ refused_end 32 (walk_of g) s

abbrev pub EveryOutline : Type 0
EveryOutline =
    -- For every list of numbers
    (zs : List ℤ)
    -- and the six totals
    (t : Totals)
    -- with which the list call accepts it;
    → list_call zs ≡ accepted t
    -- for either kind
    → (k : Kind)
    -- and every list of calls, each a point, or an entry that neither 33 nor 34 refuses,
    → (calls : List Call)
    → ((c : Call) → Memᴰ c calls → point_or_entry c ≡ true)
    -- that give the list's points, in order, and no other;
    → (ring_by k calls).points ≡ points zs
    -- for every walk
    → (w : Walk)
    -- marked closed:
    → w.is_open ≡ false
    -- begin and the calls are accepted, and the end is as claimed.
    → (let g = ring_by k calls in Walkable w k calls g × Ending g t)
