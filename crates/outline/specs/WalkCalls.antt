-- Document 01, "Walk and sheet" and the refusals 1, 21 to 26 and 28, and document 02, CR 3 with its refusal 32, and CR 9: the outcomes of begin, point, end and abandon.
use Rattle.std.specs.Prelude.{ℕ, ◌+◌, ◌*◌, ◌/◌, Bool, true, false, not, ◌&&◌, ◌||◌, cond, leb, ltb, eqb, ℤ, pos, nat_abs, Float}
use Rattle.std.specs.Int.Signed.{lt_z}
use Rattle.receiver.specs.Floats.{not_finite, below_zero, plus_zero}
use Rattle.outline.specs.declared.Position.{Position}
use Rattle.outline.specs.declared.Totals.{Totals}
use Rattle.outline.specs.declared.Sizes.{Sizes}
use Rattle.outline.specs.declared.Kind.{Kind}
use Rattle.outline.specs.declared.Kind.TheVariants.{Island, Hole}
use Rattle.outline.specs.declared.Walk.{Walk}
use Rattle.outline.specs.declared.Sheet.{Sheet}
use Rattle.outline.specs.EdgeSums.{six, plus, negated, zeros, exceed, outline_bounds}
use Rattle.outline.specs.ListCall.{outside}
use Rattle.outline.specs.MapCall.{total_limits}

-- ---- walks and sheets

abbrev pub origin : Position
origin = record { x = pos 0; y = pos 0 }

-- An open walk of n points: its kind, the first and the last of them, the sums over the edges so far, and its longest outage. Every open walk is made by it.
abbrev pub open_walk : Kind → ℕ → Position → Position → Totals → Float → Walk
open_walk k n first last t o = record { is_open = true; kind = k; count = n; first = first; last = last; totals = t; outage = o }

-- A walk just begun: open, of the kind asked for, all its numbers zero, and its longest outage plus zero.
abbrev pub opened : Kind → Walk
opened k = open_walk k 0 origin origin zeros plus_zero

-- A walk that is over or not begun: not open, an island, all its numbers zero, and its longest outage plus zero.
abbrev pub closed : Walk
closed = record { is_open = false; kind = Island; count = 0; first = origin; last = origin; totals = zeros; outage = plus_zero }

-- A sheet of n outlines, and the sums of their totals.
abbrev pub sheet_of : ℕ → Totals → Sheet
sheet_of n t = record { count = n; totals = t }

-- Document 01's "sheet" is a running total over outlines; it starts from zero.
abbrev pub new_sheet : Sheet
new_sheet = sheet_of 0 zeros

-- What the edge from a to b adds to the six totals.
abbrev pub edge_totals : Position → Position → Totals
edge_totals a b = six (λ t. t a b)

-- The open walk with one point more; its kind and its longest outage stay. From the second point on, the edge that leads to it is added.
unfoldable pub extended : Walk → Position → Walk
extended w p =
    cond (eqb w.count 0)
    (open_walk w.kind 1 p p w.totals w.outage)
    (open_walk w.kind (w.count + 1) w.first p (plus w.totals (edge_totals w.last p)) w.outage)

-- The walk's totals with the closing edge.
abbrev pub closed_totals : Walk → Totals
closed_totals w = plus w.totals (edge_totals w.last w.first)

-- Document 02, CR 3: the sign of A2 that a kind has. An island's area counts, a hole's is taken off.
unfoldable pub has_sign : Kind → ℤ → Bool
has_sign Island a = lt_z (pos 0) a
has_sign Hole a = lt_z a (pos 0)

-- The totals of a ring as added: where A2 has not the sign of the kind, all six signs are turned.
unfoldable pub turned : Kind → Totals → Totals
turned k t = cond (has_sign k t.a2) t (negated t)

-- The totals that an end adds to the sheet, and answers.
abbrev pub added_totals : Walk → Totals
added_totals w = turned w.kind (closed_totals w)

-- A ring of zero area has neither sign.
unfoldable pub zero_area : Totals → Bool
zero_area t = eqb (nat_abs t.a2) 0

-- The sheet with one outline more.
abbrev pub sheet_with : Sheet → Totals → Sheet
sheet_with s t = sheet_of (s.count + 1) (plus s.totals t)

-- ---- refusal 28

-- What each total of a walk of n points may be at most: n times the 1,024th part of its outline bound.
abbrev pub share : ℕ → Sizes
share n =
    record {
      a2 = n * (outline_bounds.a2 / 1024);
      x6 = n * (outline_bounds.x6 / 1024);
      y6 = n * (outline_bounds.y6 / 1024);
      xx12 = n * (outline_bounds.xx12 / 1024);
      xy24 = n * (outline_bounds.xy24 / 1024);
      yy12 = n * (outline_bounds.yy12 / 1024);
    }

-- 28 of a walk, which looks at open walks only: the count is past 1,024; or there are points, and 1 refuses the first or the last; or a total is past its share;
-- or 33 or 34 would refuse its longest outage (document 02, CR 9).
unfoldable pub impossible_walk : Walk → Bool
impossible_walk w =
    w.is_open
    && (ltb 1024 w.count
    || not (eqb w.count 0) && (outside w.first || outside w.last)
    || exceed (share w.count) w.totals
    || not_finite w.outage
    || below_zero w.outage)

-- 28 of a sheet: its count is past 64, or a total is past its limit.
unfoldable pub impossible_sheet : Sheet → Bool
impossible_sheet s = ltb 64 s.count || exceed total_limits s.totals

-- ---- the four calls: number 0 where accepted, else the refusal's number; and what the call leaves

pub record WalkOutcome : Type 0 where
  pub number : ℕ
  pub walk : Walk

pub record EndOutcome : Type 0 where
  pub number : ℕ
  pub totals : Totals
  pub outage : Float
  pub walk : Walk
  pub sheet : Sheet

-- A refusal hands walk and sheet back unchanged, with zeros in place of totals, and plus zero in place of the longest outage.
abbrev pub refused_walk : ℕ → Walk → WalkOutcome
refused_walk n w = record { number = n; walk = w }

abbrev pub refused_end : ℕ → Walk → Sheet → EndOutcome
refused_end n w s = record { number = n; totals = zeros; outage = plus_zero; walk = w; sheet = s }

-- Order: 28, 22.
unfoldable pub begin_call : Walk → Kind → WalkOutcome
begin_call w k =
    cond (impossible_walk w) (refused_walk 28 w)
    (cond w.is_open (refused_walk 22 w)
    (record { number = 0; walk = opened k }))

-- Order: 28, 21, 1, 23.
unfoldable pub point_call : Walk → Position → WalkOutcome
point_call w p =
    cond (impossible_walk w) (refused_walk 28 w)
    (cond (not w.is_open) (refused_walk 21 w)
    (cond (outside p) (refused_walk 1 w)
    (cond (leb 1024 w.count) (refused_walk 23 w)
    (record { number = 0; walk = extended w p }))))

-- Order: 28, 21, 24, 32, 25, 26. Refusal 32: a ring of zero area. Where accepted, the walk's longest outage is answered as it stands.
unfoldable pub end_call : Walk → Sheet → EndOutcome
end_call w s =
    cond (impossible_walk w || impossible_sheet s) (refused_end 28 w s)
    (cond (not w.is_open) (refused_end 21 w s)
    (cond (ltb w.count 3) (refused_end 24 w s)
    (cond (zero_area (closed_totals w)) (refused_end 32 w s)
    (cond (leb 64 s.count) (refused_end 25 w s)
    (cond (exceed total_limits (plus s.totals (added_totals w))) (refused_end 26 w s)
    (record { number = 0; totals = added_totals w; outage = w.outage; walk = closed; sheet = sheet_with s (added_totals w) }))))))

-- Order: 28, 21.
unfoldable pub abandon_call : Walk → WalkOutcome
abandon_call w =
    cond (impossible_walk w) (refused_walk 28 w)
    (cond (not w.is_open) (refused_walk 21 w)
    (record { number = 0; walk = closed }))
