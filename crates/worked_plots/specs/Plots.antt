-- Document 01, "Plots worked by hand": what the plots that carry no ✱ ask, and the rings of document 02, CR 3, for the program that runs them.
use Rattle.std.specs.Prelude.{ℕ, zero, suc, ◌%◌, List, [], ◌∷◌, ◌++◌, get_or, ℤ, pos, neg_ℤ}
use Rattle.receiver.specs.Floats.{plus_zero}
use Rattle.outline.specs.declared.Kind.{Kind}
use Rattle.outline.specs.declared.Kind.TheVariants.{Island}
use Rattle.outline.specs.declared.Position.{Position}
use Rattle.outline.specs.declared.Totals.{Totals}
use Rattle.outline.specs.declared.AffineMap.{AffineMap}
use Rattle.outline.specs.declared.Walk.{Walk}
use Rattle.outline.specs.ListCall.{points}
use Rattle.outline.specs.WalkCalls.{EndOutcome, origin, closed, new_sheet, open_walk, begin_call, point_call, end_call}
use Rattle.cells.specs.declared.Run.{Run}

-- ---- the square with corners ±2,000

-- Its corners, x and y in turn, anticlockwise.
abbrev pub square : List ℤ
square = pos 2000 ∷ neg_ℤ (pos 2000) ∷ pos 2000 ∷ pos 2000 ∷ neg_ℤ (pos 2000) ∷ pos 2000 ∷ neg_ℤ (pos 2000) ∷ neg_ℤ (pos 2000) ∷ []

-- The first n numbers of its corners, round and round.
unfoldable pub round_square : ℕ → List ℤ
round_square zero = []
round_square (suc n) = round_square n ++ get_or square (n % 8) (pos 0) ∷ []

abbrev pub doubling : AffineMap
doubling = record { a = pos 2; b = pos 0; g = pos 0; h = pos 2; e = pos 0; f = pos 0 }

-- The walk that a point call for each of these points leaves.
unfoldable pub after_points : Walk → List Position → Walk
after_points w [] = w
after_points w (p ∷ ps) = after_points (point_call w p).walk ps

-- The walk after n rounds.
unfoldable pub after_rounds : ℕ → Walk → Walk
after_rounds zero w = w
after_rounds (suc n) w = after_points (after_rounds n w) (points square)

-- Begin, then 256 rounds: 1,024 points.
unfoldable pub walked_square : Walk → Walk
walked_square w = after_rounds 256 (begin_call w Island).walk

-- The end of such an outline, on a sheet that has n of them.
unfoldable pub end_after : ℕ → EndOutcome
end_after zero = end_call (walked_square closed) new_sheet
end_after (suc n) = end_call (walked_square (end_after n).walk) (end_after n).sheet

-- ---- the rest

-- A triangle with a corner at (x, 0).
abbrev pub triangle : ℤ → List ℤ
triangle x = x ∷ pos 0 ∷ pos 0 ∷ pos 2000 ∷ neg_ℤ (pos 2000) ∷ pos 0 ∷ []

-- A run of row 0.
abbrev pub run_of : ℕ → ℕ → Run
run_of first length = record { row = 0; first = first; length = length }

-- A2 alone.
abbrev pub area_alone : ℤ → Totals
area_alone a2 = record { a2 = a2; x6 = pos 0; y6 = pos 0; xx12 = pos 0; xy24 = pos 0; yy12 = pos 0 }

-- An open walk of so many points with this A2, an island, all else zero.
abbrev pub handed_in : ℕ → ℤ → Walk
handed_in count a2 = open_walk Island count origin origin (area_alone a2) plus_zero

-- Begin and three points.
abbrev pub walked_triangle : Kind → Position → Position → Position → Walk
walked_triangle k a b c = after_points (begin_call closed k).walk (a ∷ b ∷ c ∷ [])
