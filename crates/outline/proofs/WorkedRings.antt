-- Document 02, CR 3, by computation from the definitions: both kinds walked both ways, what a refusal with 32 leaves, and 26 by the totals as added.
use mathlib.Core.Path.{◌≡◌, refl}
use mathlib.Core.Bool.{true, false}
use mathlib.Core.List.{List, [], ◌∷◌, ◌++◌, map, reverse}
use lib.IntN.{pos, negsuc}
use lib.Ieee.{lt}
use Rattle.receiver.specs.Floats.{not_finite, below_zero, plus_zero}
use Rattle.outline.specs.declared.Kind.{Kind}
use Rattle.outline.specs.declared.Kind.TheVariants.{Island, Hole}
use Rattle.outline.specs.declared.Position.{Position}
use Rattle.outline.specs.declared.Totals.{Totals}
use Rattle.outline.specs.declared.Walk.{Walk}
use Rattle.outline.specs.declared.Sheet.{Sheet}
use Rattle.outline.specs.EdgeSums.{open_edges, sum_over, zeros, negated, over, exceed}
use Rattle.outline.specs.ListCall.{beyond}
use Rattle.outline.specs.Pieces.{start_at}
use Rattle.outline.specs.WalkCalls.{open_walk, sheet_of, new_sheet, extended, has_sign, turned, zero_area, impossible_walk, impossible_sheet, EndOutcome, refused_end, point_call, end_call}
use Rattle.outline.specs.CallLists.{ring_of, longest_after, walk_of}
use Rattle.outline.specs.EveryOutline.{ended_with}
use Rattle.outline.proofs.WorkedInputs.{at, area}

abbrev ended : Kind → List Position → Sheet → EndOutcome
ended k ps s = end_call (walk_of (ring_of k ps)) s

-- ---- the sign of each kind: 0 has neither

signs : map (has_sign Island) (negsuc 0 ∷ pos 0 ∷ pos 1 ∷ []) ++ map (has_sign Hole) (negsuc 0 ∷ pos 0 ∷ pos 1 ∷ []) ≡ false ∷ false ∷ true ∷ true ∷ false ∷ false ∷ []
unfolding has_sign
signs = refl

-- ---- a pond, walked both ways, from each of its points, as an island and as a hole

abbrev pond : List Position
pond = at (pos 4) (pos 2) ∷ at (pos 6) (pos 3) ∷ at (pos 5) (pos 5) ∷ []

abbrev pond_totals : Totals
pond_totals = record { a2 = pos 5; x6 = pos 75; y6 = pos 50; xx12 = pos 755; xy24 = pos 1005; yy12 = pos 345 }

abbrev every_way : List (List Position)
every_way = pond ∷ start_at 1 pond ∷ start_at 2 pond ∷ reverse pond ∷ start_at 1 (reverse pond) ∷ start_at 2 (reverse pond) ∷ []

record Pond : Type 0 where
  island : map (λ ps. ended Island ps new_sheet) every_way ≡ map (λ ps. ended_with new_sheet pond_totals plus_zero) every_way
  hole : map (λ ps. ended Hole ps new_sheet) every_way ≡ map (λ ps. ended_with new_sheet (negated pond_totals) plus_zero) every_way

walked-pond : Pond
unfolding longest_after open_edges sum_over over exceed beyond has_sign turned zero_area not_finite below_zero lt impossible_walk impossible_sheet end_call
walked-pond = record { island = refl; hole = refl }

-- ---- 26 looks at the totals as added

-- The unit square, walked clockwise.
abbrev clockwise : List Position
clockwise = at (pos 0) (pos 0) ∷ at (pos 0) (pos 1) ∷ at (pos 1) (pos 1) ∷ at (pos 1) (pos 0) ∷ []

-- Sheets with room for 1 more in A2, and for 1 less.
abbrev nearly_most : Sheet
nearly_most = sheet_of 1 (area 999_999_999_999_999_999)

abbrev nearly_least : Sheet
nearly_least = sheet_of 1 (negated (area 999_999_999_999_999_999))

abbrev square : Totals
square = record { a2 = pos 2; x6 = pos 3; y6 = pos 3; xx12 = pos 4; xy24 = pos 6; yy12 = pos 4 }

record ByTurn : Type 0 where
  island : map (λ ps. (ended Island ps nearly_most).number) (clockwise ∷ reverse clockwise ∷ []) ≡ 26 ∷ 26 ∷ []
  hole : map (λ ps. ended Hole ps nearly_most) (clockwise ∷ reverse clockwise ∷ []) ≡ ended_with nearly_most (negated square) plus_zero ∷ ended_with nearly_most (negated square) plus_zero ∷ []
  hole-below : map (λ ps. (ended Hole ps nearly_least).number) (clockwise ∷ reverse clockwise ∷ []) ≡ 26 ∷ 26 ∷ []
  island-below : map (λ ps. ended Island ps nearly_least) (clockwise ∷ reverse clockwise ∷ []) ≡ ended_with nearly_least square plus_zero ∷ ended_with nearly_least square plus_zero ∷ []

by_turn : ByTurn
unfolding longest_after open_edges sum_over over exceed beyond has_sign turned zero_area not_finite below_zero lt impossible_walk impossible_sheet end_call
by_turn = record { island = refl; hole = refl; hole-below = refl; island-below = refl }

-- ---- 32 leaves the walk open and the sheet as it was, and the walk takes more points

-- The figure eight of document 01's listing, as a hole: its area is 0, its moments are not.
abbrev eight : Walk
eight = walk_of (ring_of Hole (at (pos 0) (pos 0) ∷ at (pos 2) (pos 2) ∷ at (pos 2) (pos 0) ∷ at (pos 0) (pos 2) ∷ []))

-- Its walk with the point (1,1) more.
abbrev longer : Walk
longer = open_walk Hole 5 (at (pos 0) (pos 0)) (at (pos 1) (pos 1)) (record { a2 = negsuc 1; x6 = negsuc 9; y6 = negsuc 5; xx12 = negsuc 33; xy24 = negsuc 39; yy12 = negsuc 13 }) plus_zero

record FigureEight : Type 0 where
  refused : end_call eight (sheet_of 7 (area 9)) ≡ refused_end 32 eight (sheet_of 7 (area 9))
  point : point_call eight (at (pos 1) (pos 1)) ≡ record { number = 0; walk = longer }
  end : end_call longer new_sheet ≡ ended_with new_sheet (record { a2 = negsuc 1; x6 = negsuc 9; y6 = negsuc 5; xx12 = negsuc 33; xy24 = negsuc 39; yy12 = negsuc 13 }) plus_zero

figure_eight_lem : FigureEight
unfolding longest_after open_edges sum_over over exceed beyond extended has_sign turned zero_area not_finite below_zero lt impossible_walk impossible_sheet point_call end_call
figure_eight_lem = record { refused = refl; point = refl; end = refl }

-- ---- an outline and the same as a hole: two outlines on the sheet, and zeros

taken_off : (ended Hole pond (ended Island pond new_sheet).sheet).sheet ≡ sheet_of 2 zeros
unfolding longest_after open_edges sum_over over exceed beyond has_sign turned zero_area not_finite below_zero lt impossible_walk impossible_sheet end_call
taken_off = refl
