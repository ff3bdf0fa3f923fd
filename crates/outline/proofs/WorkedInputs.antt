-- Positions, totals, walks, sheets and a map that the worked facts are computed at.
use mathlib.Core.Bool.{false}
use mathlib.Core.List.{List, [], ◌∷◌}
use Prim.Native.Nat.{ℕ}
use lib.IntN.{ℤ, pos}
use Rattle.receiver.specs.Floats.{plus_zero}
use Rattle.outline.specs.declared.Position.{Position}
use Rattle.outline.specs.declared.Totals.{Totals}
use Rattle.outline.specs.declared.Sizes.{Sizes}
use Rattle.outline.specs.declared.AffineMap.{AffineMap}
use Rattle.outline.specs.declared.Kind.TheVariants.{Island, Hole}
use Rattle.outline.specs.declared.Walk.{Walk}
use Rattle.outline.specs.WalkCalls.{origin, open_walk}

abbrev pub at : ℤ → ℤ → Position
at x y = record { x = x; y = y }

-- A2 alone.
abbrev pub area : ℕ → Totals
area a = record { a2 = pos a; x6 = pos 0; y6 = pos 0; xx12 = pos 0; xy24 = pos 0; yy12 = pos 0 }

-- Each of the six alone, as f makes it of a size.
abbrev pub each_alone : (ℕ → ℤ) → Sizes → List Totals
each_alone f b =
    record { a2 = f b.a2; x6 = pos 0; y6 = pos 0; xx12 = pos 0; xy24 = pos 0; yy12 = pos 0 }
    ∷ record { a2 = pos 0; x6 = f b.x6; y6 = pos 0; xx12 = pos 0; xy24 = pos 0; yy12 = pos 0 }
    ∷ record { a2 = pos 0; x6 = pos 0; y6 = f b.y6; xx12 = pos 0; xy24 = pos 0; yy12 = pos 0 }
    ∷ record { a2 = pos 0; x6 = pos 0; y6 = pos 0; xx12 = f b.xx12; xy24 = pos 0; yy12 = pos 0 }
    ∷ record { a2 = pos 0; x6 = pos 0; y6 = pos 0; xx12 = pos 0; xy24 = f b.xy24; yy12 = pos 0 }
    ∷ record { a2 = pos 0; x6 = pos 0; y6 = pos 0; xx12 = pos 0; xy24 = pos 0; yy12 = f b.yy12 }
    ∷ []

-- An open walk of n points that are all the origin: an island.
abbrev pub open_of : ℕ → Totals → Walk
open_of n t = open_walk Island n origin origin t plus_zero

-- The walk marked closed, all else as it is.
abbrev pub marked_closed : Walk → Walk
marked_closed w = record { is_open = false; kind = w.kind; count = w.count; first = w.first; last = w.last; totals = w.totals; outage = w.outage }

-- Marked closed, with fields that no call leaves, and that 28 refuses of an open walk. A hole.
abbrev pub leftover : Walk
leftover = marked_closed (open_walk Hole 1025 (at (pos 1) (pos 2)) origin (area 5) plus_zero)

-- The map that doubles.
abbrev pub doubling : AffineMap
doubling = record { a = pos 2; b = pos 0; g = pos 0; h = pos 2; e = pos 0; f = pos 0 }
