-- Document 01, "The six totals of an outline": the edge terms, the edges of an outline, and the sums over them.
use Rattle.std.specs.Prelude.{ℕ, Bool, ◌||◌, List, [], ◌∷◌, ◌++◌, ltb, ℤ, pos, neg_ℤ, nat_abs, ◌+ℤ◌, ◌-ℤ◌, ◌*ℤ◌}
use Rattle.outline.specs.declared.Position.{Position}
use Rattle.outline.specs.declared.Totals.{Totals}
use Rattle.outline.specs.declared.Sizes.{Sizes}

-- ---- the table of edge terms

-- What an edge, from its start to its end, adds to a total.
abbrev pub Term : Type 0
Term = Position → Position → ℤ

-- The cross product c of an edge's ends: from (x, y) to (p, q) it is x×q − p×y. Walking anticlockwise counts as positive, and no total drops its sign.
abbrev pub cross : Term
cross a b = a.x *ℤ b.y -ℤ b.x *ℤ a.y

-- Row A2: c. Around an outline it sums to 2 × the area.
abbrev pub a2 : Term
a2 a b = cross a b

-- Row X6: (x + p)×c. It sums to 6 × the integral of x over the outline.
abbrev pub x6 : Term
x6 a b = (a.x +ℤ b.x) *ℤ cross a b

-- Row Y6: (y + q)×c. It sums to 6 × the integral of y.
abbrev pub y6 : Term
y6 a b = (a.y +ℤ b.y) *ℤ cross a b

-- Row XX12: (x×x + x×p + p×p)×c. It sums to 12 × the integral of x².
abbrev pub xx12 : Term
xx12 a b = (a.x *ℤ a.x +ℤ a.x *ℤ b.x +ℤ b.x *ℤ b.x) *ℤ cross a b

-- Row XY24: (2×x×y + x×q + p×y + 2×p×q)×c. It sums to 24 × the integral of xy.
abbrev pub xy24 : Term
xy24 a b = (pos 2 *ℤ a.x *ℤ a.y +ℤ a.x *ℤ b.y +ℤ b.x *ℤ a.y +ℤ pos 2 *ℤ b.x *ℤ b.y) *ℤ cross a b

-- Row YY12: (y×y + y×q + q×q)×c. It sums to 12 × the integral of y².
abbrev pub yy12 : Term
yy12 a b = (a.y *ℤ a.y +ℤ a.y *ℤ b.y +ℤ b.y *ℤ b.y) *ℤ cross a b

-- One number for each row of the table.
abbrev pub six : (Term → ℤ) → Totals
six f = record { a2 = f a2; x6 = f x6; y6 = f y6; xx12 = f xx12; xy24 = f xy24; yy12 = f yy12 }

-- ---- edges and their sums

pub record Edge : Type 0 where
  pub start : Position
  pub end : Position

-- The edges from each point to the next. Points so joined are a "walk" in document 01; the field calls it an open polyline.
unfoldable pub open_edges : List Position → List Edge
open_edges [] = []
open_edges (a ∷ []) = []
open_edges (a ∷ b ∷ ps) = record { start = a; end = b } ∷ open_edges (b ∷ ps)

-- The same, and last the edge that closes the polyline. Points so joined are an "outline" in document 01; the field calls it a closed polygon.
unfoldable pub edges : List Position → List Edge
edges [] = []
edges (a ∷ ps) = open_edges (a ∷ ps ++ a ∷ [])

-- A term summed over a list of edges.
unfoldable pub sum_over : Term → List Edge → ℤ
sum_over t [] = pos 0
sum_over t (e ∷ es) = t e.start e.end +ℤ sum_over t es

-- The six totals of a list of edges, and of an outline.
abbrev pub totals_over : List Edge → Totals
totals_over es = six (λ t. sum_over t es)

abbrev pub outline_totals : List Position → Totals
outline_totals ps = totals_over (edges ps)

-- ---- totals, each of the six by itself

abbrev pub zeros : Totals
zeros = six (λ t. pos 0)

abbrev pub plus : Totals → Totals → Totals
plus s t =
    record {
      a2 = s.a2 +ℤ t.a2;
      x6 = s.x6 +ℤ t.x6;
      y6 = s.y6 +ℤ t.y6;
      xx12 = s.xx12 +ℤ t.xx12;
      xy24 = s.xy24 +ℤ t.xy24;
      yy12 = s.yy12 +ℤ t.yy12;
    }

-- All six signs turned.
abbrev pub negated : Totals → Totals
negated t =
    record {
      a2 = neg_ℤ t.a2;
      x6 = neg_ℤ t.x6;
      y6 = neg_ℤ t.y6;
      xx12 = neg_ℤ t.xx12;
      xy24 = neg_ℤ t.xy24;
      yy12 = neg_ℤ t.yy12;
    }

-- ---- bounds by size

-- z is greater in size than n.
unfoldable pub over : ℕ → ℤ → Bool
over n z = ltb n (nat_abs z)

-- Some total is greater in size than its bound.
unfoldable pub exceed : Sizes → Totals → Bool
exceed b t = over b.a2 t.a2 || over b.x6 t.x6 || over b.y6 t.y6 || over b.xx12 t.xx12 || over b.xy24 t.xy24 || over b.yy12 t.yy12

-- The outline bounds.
abbrev pub outline_bounds : Sizes
outline_bounds =
    record {
      a2 = 8_192_000_000;
      x6 = 32_768_000_000_000;
      y6 = 32_768_000_000_000;
      xx12 = 98_304_000_000_000_000;
      xy24 = 196_608_000_000_000_000;
      yy12 = 98_304_000_000_000_000;
    }
