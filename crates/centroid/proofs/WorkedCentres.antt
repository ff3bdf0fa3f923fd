-- Centres that the definitions give, each by computation: of the plots of document 01, "Plots worked by hand", of cells by the outline rule (document 02, CR 2), and where x and y could be exchanged unseen.
use mathlib.Core.Path.{◌≡◌, refl}
use mathlib.Core.List.{List, [], ◌∷◌}
use lib.IntN.{ℤ, pos, negsuc}
use Rattle.outline.specs.declared.Totals.{Totals}
use Rattle.outline.specs.EdgeSums.{outline_totals, edges, open_edges, sum_over, zeros, over, exceed}
use Rattle.outline.specs.ListCall.{points}
use Rattle.integers.specs.Rounding.{rounds_to, first_rounded, round_half_up}
use Rattle.centroid.specs.Centroid.{CentroidOutcome, refused, outline_centroid_call, signed_by}

abbrev at : ℤ → ℤ → CentroidOutcome
at x y = record { number = 0; x = x; y = y }

-- an outline's centre, by the list of its numbers
abbrev of_points : List ℤ → CentroidOutcome
of_points zs = outline_centroid_call (outline_totals (points zs))

abbrev pub totals : ℤ → ℤ → ℤ → ℤ → ℤ → ℤ → Totals
totals a2 x6 y6 xx12 xy24 yy12 = record { a2 = a2; x6 = x6; y6 = y6; xx12 = xx12; xy24 = xy24; yy12 = yy12 }

-- ---- outlines

unit_square_lem : outline_centroid_call (totals (pos 2) (pos 3) (pos 3) (pos 4) (pos 6) (pos 4)) ≡ at (pos 1) (pos 1)
unfolding rounds_to first_rounded round_half_up outline_centroid_call signed_by over exceed
unit_square_lem = refl

-- (-1,0) (0,0) (0,1) (-1,1): x is -1/2, and a half goes up to 0
square-at-minus-one : of_points (negsuc 0 ∷ pos 0 ∷ pos 0 ∷ pos 0 ∷ pos 0 ∷ pos 1 ∷ negsuc 0 ∷ pos 1 ∷ []) ≡ at (pos 0) (pos 1)
unfolding points edges open_edges sum_over rounds_to first_rounded round_half_up outline_centroid_call signed_by over exceed
square-at-minus-one = refl

-- the same, walked backwards: A2 is -2 and X6 is 3
reversed_square_lem : of_points (negsuc 0 ∷ pos 1 ∷ pos 0 ∷ pos 1 ∷ pos 0 ∷ pos 0 ∷ negsuc 0 ∷ pos 0 ∷ []) ≡ at (pos 0) (pos 1)
unfolding points edges open_edges sum_over rounds_to first_rounded round_half_up outline_centroid_call signed_by over exceed
reversed_square_lem = refl

-- A2 is -2, X6 is 9 and Y6 is -27: the signs are turned before a half goes up, from -3/2 to -1 and from 9/2 to 5
area_below_0 : outline_centroid_call (totals (negsuc 1) (pos 9) (negsuc 26) (pos 0) (pos 0) (pos 0)) ≡ at (negsuc 0) (pos 5)
unfolding rounds_to first_rounded round_half_up outline_centroid_call signed_by over exceed
area_below_0 = refl

rectangle : of_points (pos 2 ∷ pos 0 ∷ pos 10 ∷ pos 4 ∷ pos 8 ∷ pos 8 ∷ pos 0 ∷ pos 4 ∷ []) ≡ at (pos 5) (pos 4)
unfolding points edges open_edges sum_over rounds_to first_rounded round_half_up outline_centroid_call signed_by over exceed
rectangle = refl

-- the figure eight: no area, though X6 is -8
figure_eight_lem : of_points (pos 0 ∷ pos 0 ∷ pos 2 ∷ pos 2 ∷ pos 2 ∷ pos 0 ∷ pos 0 ∷ pos 2 ∷ []) ≡ refused 27
unfolding points edges open_edges sum_over outline_centroid_call over exceed
figure_eight_lem = refl

-- no edge, or no cell
no_area : outline_centroid_call zeros ≡ refused 27
unfolding outline_centroid_call over exceed
no_area = refl

-- ---- cells: the totals are those of their ground

-- the run in row 3 from column 2, of length 3: 63/18 is 7/2, and a half goes up. The sum of x over the number of cells would give 3.
run : outline_centroid_call (totals (pos 6) (pos 63) (pos 63) (pos 468) (pos 882) (pos 444)) ≡ at (pos 4) (pos 4)
unfolding rounds_to first_rounded round_half_up outline_centroid_call signed_by over exceed
run = refl

-- the runs of length 3 in row 0 and of length 1 in row 1, both from column 0: 5/4 and 3/4
two_runs : outline_centroid_call (totals (pos 8) (pos 30) (pos 18) (pos 112) (pos 72) (pos 40)) ≡ at (pos 1) (pos 1)
unfolding rounds_to first_rounded round_half_up outline_centroid_call signed_by over exceed
two_runs = refl

-- the cells (1,0) and (2,1): x and y differ
two_cells : outline_centroid_call (totals (pos 4) (pos 24) (pos 12) (pos 104) (pos 108) (pos 32)) ≡ at (pos 2) (pos 1)
unfolding rounds_to first_rounded round_half_up outline_centroid_call signed_by over exceed
two_cells = refl
