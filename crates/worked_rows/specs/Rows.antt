-- Document 01, "Plots worked by hand": the plots marked ✱ as one list of rows, each what is asked and the figures that are answered, the run's as document 02,
-- CR 2, has them; the rings of document 02, CR 3, its two walkers, CR 5, and its moves, CR 7 (its runs, CR 8, stand in RunRows, its entries, CR 9, in EntryRows, and its third moments, CR 10, in ThirdRows); and rows for "Errors a surveyor would not notice".
use Rattle.std.specs.Prelude.{ℕ, ◌≡◌, true, false, List, [], ◌∷◌, ◌++◌, map, reverse, ℤ, pos, neg_ℤ}
use Rattle.outline.specs.declared.Kind.TheVariants.{Island, Hole}
use Rattle.outline.specs.declared.Position.{Position}
use Rattle.outline.specs.declared.Totals.{Totals}
use Rattle.outline.specs.declared.AffineMap.{AffineMap}
use Rattle.outline.specs.declared.Walk.{Walk}
use Rattle.outline.specs.declared.Sheet.{Sheet}
use Rattle.outline.specs.EdgeSums.{zeros}
use Rattle.outline.specs.ListCall.{Outcome, accepted, refused as not_accepted, numbers, list_call}
use Rattle.outline.specs.MapCall.{moved, map_call}
use Rattle.outline.specs.Pieces.{Piece, Cut, pieces_of, start_at, totals_of}
use Rattle.outline.specs.WalkCalls.{closed, sheet_of, new_sheet, end_call}
use Rattle.outline.specs.CallLists.{begin, point, Ring, ring_of, after, from, sheet_after}
use Rattle.two_walks.specs.Comparison.{FiguresOutcome, figures_call, Part, part_of}
use Rattle.centroid.specs.Centroid.{CentroidOutcome, refused, outline_centroid_call}
use Rattle.moves.specs.Composition.{composed}
use Rattle.moves.specs.ShiftedCentre.{shift}
use Rattle.cells.specs.declared.Run.{Run}
use Rattle.cells.specs.RegionCall.{RegionOutcome, region_call}

-- ---- rows

pub data Row : Type 0 where
  -- The call on a whole list, for the points of an outline.
  list : List Position → Outcome → Row
  -- The centre of the totals that it answers.
  centre : List Position → CentroidOutcome → Row
  -- The map call on the totals that it answers.
  mapping : AffineMap → List Position → Outcome → Row
  -- The map call with the second map, on what it answers with the first.
  mapping_twice : AffineMap → AffineMap → List Position → Outcome → Row
  -- The composition of two maps.
  composition : AffineMap → AffineMap → AffineMap → Row
  -- One cut of an outline: A2 and X6 of each piece.
  cut : List Position → Cut → List (ℤ × ℤ) → Row
  -- The end of a ring that is walked, on a new sheet: its number, and its totals.
  ring : Ring → Outcome → Row
  -- The sheet that the ends of rings leave, one after another from a new sheet on.
  sheet : List Ring → Sheet → Row
  -- The figures that compare two walks, the first list and the second.
  figures : List ℤ → List ℤ → FiguresOutcome → Row
  -- The part of the two lists that is handed back.
  part : List ℤ → List ℤ → Part → Row
  -- The call on a list of runs.
  region : List Run → RegionOutcome → Row
  -- The centre of the totals that it answers.
  region_centre : List Run → CentroidOutcome → Row

abbrev area_and_x6 : Piece → ℤ × ℤ
area_and_x6 p = ((totals_of p).a2, (totals_of p).x6)

-- The walk that begin and the points of a ring leave.
abbrev walked_ring : Ring → Walk
walked_ring g = (after (from closed) (begin g.kind ∷ map point g.points)).walk

abbrev end_of : Ring → Outcome
end_of g = let e = end_call (walked_ring g) new_sheet in record { number = e.number; totals = e.totals }

-- The definitions give the row's figures.
unfoldable pub holds : Row → Type 0
holds (list ps answer) = list_call (numbers ps) ≡ answer
holds (centre ps answer) = outline_centroid_call (totals_of ps) ≡ answer
holds (mapping m ps answer) = map_call m (totals_of ps) ≡ answer
holds (mapping_twice first second ps answer) = map_call second (map_call first (totals_of ps)).totals ≡ answer
holds (composition first second m) = composed first second ≡ m
holds (cut ps c answers) = map area_and_x6 (pieces_of ps (c ∷ [])) ≡ answers
holds (ring g answer) = end_of g ≡ answer
holds (sheet gs answer) = sheet_after new_sheet (map walked_ring gs) ≡ answer
holds (figures first second answer) = figures_call first second ≡ answer
holds (part first second answer) = part_of first second ≡ answer
holds (region rs answer) = region_call rs ≡ answer
holds (region_centre rs answer) = outline_centroid_call (region_call rs).totals ≡ answer

-- ---- what is asked

abbrev at : ℤ → ℤ → Position
at x y = record { x = x; y = y }

abbrev minus : ℕ → ℤ
minus n = neg_ℤ (pos n)

abbrev pub rectangle : List Position
rectangle = at (pos 2) (pos 0) ∷ at (pos 10) (pos 4) ∷ at (pos 8) (pos 8) ∷ at (pos 0) (pos 4) ∷ []

abbrev pub figure_eight : List Position
figure_eight = at (pos 0) (pos 0) ∷ at (pos 2) (pos 2) ∷ at (pos 2) (pos 0) ∷ at (pos 0) (pos 2) ∷ []

abbrev pub unit_square : List Position
unit_square = at (pos 0) (pos 0) ∷ at (pos 1) (pos 0) ∷ at (pos 1) (pos 1) ∷ at (pos 0) (pos 1) ∷ []

abbrev pub square_at_minus_one : List Position
square_at_minus_one = at (minus 1) (pos 0) ∷ at (pos 0) (pos 0) ∷ at (pos 0) (pos 1) ∷ at (minus 1) (pos 1) ∷ []

abbrev pub one_point_thrice : List Position
one_point_thrice = at (pos 5) (pos 7) ∷ at (pos 5) (pos 7) ∷ at (pos 5) (pos 7) ∷ []

-- u = x + y + 1, v = y.
abbrev pub shear : AffineMap
shear = record { a = pos 1; b = pos 1; g = pos 0; h = pos 1; e = pos 1; f = pos 0 }

-- The rectangle's cut from (2, 0) to (8, 8).
abbrev pub diagonal : Cut
diagonal = record { piece = 0; one = 0; other = 2 }

abbrev pub short_run : Run
short_run = record { row = 3; first = 2; length = 3 }

-- ---- what is answered

abbrev pub totals : ℤ → ℤ → ℤ → ℤ → ℤ → ℤ → Totals
totals a2 x6 y6 xx12 xy24 yy12 = record { a2 = a2; x6 = x6; y6 = y6; xx12 = xx12; xy24 = xy24; yy12 = yy12 }

abbrev centre_at : ℤ → ℤ → CentroidOutcome
centre_at x y = record { number = 0; x = x; y = y }

abbrev pub region_of : Totals → RegionOutcome
region_of t = record { number = 0; index = 0; totals = t }

-- ---- the rows marked ✱, in document 01's order

abbrev pub rows : List Row
rows =
    list rectangle (accepted (totals (pos 80) (pos 1200) (pos 960) (pos 14720) (pos 21120) (pos 8960)))
    ∷ centre rectangle (centre_at (pos 5) (pos 4))
    ∷ list figure_eight (accepted (totals (pos 0) (minus 8) (pos 0) (minus 32) (minus 32) (pos 0)))
    ∷ centre figure_eight (refused 27)
    ∷ list unit_square (accepted (totals (pos 2) (pos 3) (pos 3) (pos 4) (pos 6) (pos 4)))
    ∷ centre unit_square (centre_at (pos 1) (pos 1))
    ∷ centre square_at_minus_one (centre_at (pos 0) (pos 1))
    ∷ mapping shear unit_square (accepted (totals (pos 2) (pos 12) (pos 3) (pos 50) (pos 26) (pos 4)))
    ∷ cut rectangle diagonal ((pos 40, pos 800) ∷ (pos 40, pos 400) ∷ [])
    ∷ list one_point_thrice (accepted zeros)
    ∷ centre one_point_thrice (refused 27)
    ∷ region (short_run ∷ []) (region_of (totals (pos 6) (pos 63) (pos 63) (pos 468) (pos 882) (pos 444)))
    ∷ region_centre (short_run ∷ []) (centre_at (pos 4) (pos 4))
    ∷ []

-- ---- the rings of document 02, CR 3

abbrev pub pond : List Position
pond = at (pos 4) (pos 2) ∷ at (pos 6) (pos 3) ∷ at (pos 5) (pos 5) ∷ []

-- The figure eight, and the point of the listing's line 13.
abbrev pub figure_eight_and_one : List Position
figure_eight_and_one = figure_eight ++ at (pos 1) (pos 1) ∷ []

abbrev island : List Position → Ring
island ps = ring_of Island ps

abbrev hole : List Position → Ring
hole ps = ring_of Hole ps

-- Each ring as it is walked first, and back; then the sheets of the listing, of the listing with one more end, of a plot with a pond, and of a plot all taken off.
abbrev pub ring_rows : List Row
ring_rows =
    ring (island rectangle) (accepted (totals (pos 80) (pos 1200) (pos 960) (pos 14720) (pos 21120) (pos 8960)))
    ∷ ring (island (reverse rectangle)) (accepted (totals (pos 80) (pos 1200) (pos 960) (pos 14720) (pos 21120) (pos 8960)))
    ∷ ring (hole pond) (accepted (totals (minus 5) (minus 75) (minus 50) (minus 755) (minus 1005) (minus 345)))
    ∷ ring (hole (reverse pond)) (accepted (totals (minus 5) (minus 75) (minus 50) (minus 755) (minus 1005) (minus 345)))
    ∷ ring (island figure_eight) (not_accepted 32)
    ∷ ring (hole figure_eight) (not_accepted 32)
    ∷ ring (island figure_eight_and_one) (accepted (totals (pos 2) (pos 10) (pos 6) (pos 34) (pos 40) (pos 14)))
    ∷ sheet (island rectangle ∷ island figure_eight ∷ []) (sheet_of 1 (totals (pos 80) (pos 1200) (pos 960) (pos 14720) (pos 21120) (pos 8960)))
    ∷ sheet (island rectangle ∷ island figure_eight_and_one ∷ []) (sheet_of 2 (totals (pos 82) (pos 1210) (pos 966) (pos 14754) (pos 21160) (pos 8974)))
    ∷ sheet (island rectangle ∷ hole pond ∷ []) (sheet_of 2 (totals (pos 75) (pos 1125) (pos 910) (pos 13965) (pos 20115) (pos 8615)))
    ∷ sheet (island rectangle ∷ hole rectangle ∷ []) (sheet_of 2 zeros)
    ∷ []

-- ---- the two walkers of document 02, CR 5

-- The rectangle by another walker: a corner further east, and a point more near the last.
abbrev pub other_walk : List Position
other_walk = at (pos 2) (pos 0) ∷ at (pos 10) (pos 4) ∷ at (pos 9) (pos 8) ∷ at (pos 1) (pos 5) ∷ at (pos 0) (pos 4) ∷ []

-- The rectangle with that corner alone further east, point by point as the rectangle.
abbrev pub in_step : List Position
in_step = at (pos 2) (pos 0) ∷ at (pos 10) (pos 4) ∷ at (pos 9) (pos 8) ∷ at (pos 0) (pos 4) ∷ []

-- Refused alone with 1, with 2 and with 1.
abbrev outside_limits : List ℤ
outside_limits = map pos (0 ∷ 0 ∷ 2001 ∷ 0 ∷ 0 ∷ 5 ∷ [])

abbrev odd_length : List ℤ
odd_length = map pos (0 ∷ 0 ∷ 1 ∷ 0 ∷ 1 ∷ 1 ∷ 0 ∷ [])

abbrev far_outside : List ℤ
far_outside = map pos (0 ∷ 0 ∷ 5000 ∷ 0 ∷ 0 ∷ 5 ∷ [])

abbrev compared : Totals → ℕ → ℕ → FiguresOutcome
compared differences forward backward = record { number = 0; figures = record { differences = differences; forward = forward; backward = backward } }

abbrev not_compared : ℕ → FiguresOutcome
not_compared n = record { number = n; figures = record { differences = zeros; forward = 0; backward = 0 } }

-- What is handed back: the first walk whole, the second, or nothing of the first.
abbrev the_first : List Position → Part
the_first ps = record { of_second = false; numbers = numbers ps }

abbrev the_second : List Position → Part
the_second ps = record { of_second = true; numbers = numbers ps }

abbrev empty_start : Part
empty_start = record { of_second = false; numbers = [] }

-- The rectangle and the other walk, in either order; walks of as many points; and which refusal comes first.
abbrev pub walk_rows : List Row
walk_rows =
    figures (numbers rectangle) (numbers other_walk) (compared (totals (minus 5) (minus 90) (minus 85) (minus 1535) (minus 2195) (minus 985)) 1 2)
    ∷ part (numbers rectangle) (numbers other_walk) (the_second other_walk)
    ∷ figures (numbers other_walk) (numbers rectangle) (compared (totals (pos 5) (pos 90) (pos 85) (pos 1535) (pos 2195) (pos 985)) 2 1)
    ∷ part (numbers other_walk) (numbers rectangle) (the_first other_walk)
    ∷ figures (numbers rectangle) (numbers in_step) (compared (totals (pos 0) (minus 40) (pos 0) (minus 1080) (minus 960) (pos 0)) 1 1)
    ∷ part (numbers rectangle) (numbers in_step) (the_first rectangle)
    ∷ figures outside_limits odd_length (not_compared 1)
    ∷ part outside_limits odd_length empty_start
    ∷ figures odd_length far_outside (not_compared 2)
    ∷ part odd_length far_outside empty_start
    ∷ []

-- ---- the moves of document 02, CR 7

-- u = x + 3, v = y − 2.
abbrev pub three_east : AffineMap
three_east = shift (pos 3) (minus 2)

-- u = −y + e, v = x + f: a quarter turn, then a shift.
abbrev pub turn_and : ℤ → ℤ → AffineMap
turn_and e f = record { a = pos 0; b = minus 1; g = pos 1; h = pos 0; e = e; f = f }

abbrev pub quarter_turn : AffineMap
quarter_turn = turn_and (pos 0) (pos 0)

-- Shifted; shifted, then turned; turned, then shifted: in two calls, and at once by the composition. Then centres: of the rectangle shifted, and of a square walked backwards
-- before and after a shift.
abbrev pub move_rows : List Row
move_rows =
    mapping three_east rectangle (accepted (totals (pos 80) (pos 1920) (pos 480) (pos 33440) (pos 17280) (pos 3200)))
    ∷ mapping_twice three_east quarter_turn rectangle (accepted (totals (pos 80) (minus 480) (pos 1920) (pos 3200) (minus 17280) (pos 33440)))
    ∷ composition three_east quarter_turn (turn_and (pos 2) (pos 3))
    ∷ mapping (turn_and (pos 2) (pos 3)) rectangle (accepted (totals (pos 80) (minus 480) (pos 1920) (pos 3200) (minus 17280) (pos 33440)))
    ∷ mapping_twice quarter_turn three_east rectangle (accepted (totals (pos 80) (minus 240) (pos 720) (pos 1760) (minus 4800) (pos 7040)))
    ∷ composition quarter_turn three_east (turn_and (pos 3) (minus 2))
    ∷ mapping (turn_and (pos 3) (minus 2)) rectangle (accepted (totals (pos 80) (minus 240) (pos 720) (pos 1760) (minus 4800) (pos 7040)))
    ∷ centre (moved three_east rectangle) (centre_at (pos 8) (pos 2))
    ∷ centre (reverse unit_square) (centre_at (pos 1) (pos 1))
    ∷ centre (moved (shift (minus 1) (pos 0)) (reverse unit_square)) (centre_at (pos 0) (pos 1))
    ∷ []

-- ---- rows for the errors that a surveyor would not notice; what each error makes of its plot is in proofs/Errors

-- The first point again at the end, where a closing edge left out does not show.
abbrev pub repeated_first : List Position
repeated_first = rectangle ++ at (pos 2) (pos 0) ∷ []

-- A2 is odd.
abbrev pub triangle : List Position
triangle = at (pos 0) (pos 0) ∷ at (pos 1) (pos 0) ∷ at (pos 0) (pos 1) ∷ []

-- The centre's x is -3/2.
abbrev pub square_at_minus_two : List Position
square_at_minus_two = at (minus 2) (pos 0) ∷ at (minus 1) (pos 0) ∷ at (minus 1) (pos 1) ∷ at (minus 2) (pos 1) ∷ []

-- u = -x, v = y: d is -1.
abbrev pub mirror : AffineMap
mirror = record { a = minus 1; b = pos 0; g = pos 0; h = pos 1; e = pos 0; f = pos 0 }

-- Three cells of row 0 and one above the first: not the ground of the rectangle round them.
abbrev pub corner : List Run
corner = record { row = 0; first = 0; length = 3 } ∷ record { row = 1; first = 0; length = 1 } ∷ []

-- The rectangle from its second point on: each point is a point of the rectangle, and none stands at the same place of the list.
abbrev pub out_of_step : List Position
out_of_step = start_at 1 rectangle

abbrev pub error_rows : List Row
error_rows =
    list repeated_first (accepted (totals (pos 80) (pos 1200) (pos 960) (pos 14720) (pos 21120) (pos 8960)))
    ∷ list triangle (accepted (totals (pos 1) (pos 1) (pos 1) (pos 1) (pos 1) (pos 1)))
    ∷ centre square_at_minus_two (centre_at (minus 1) (pos 1))
    ∷ mapping mirror unit_square (accepted (totals (minus 2) (pos 3) (minus 3) (minus 4) (pos 6) (minus 4)))
    ∷ region corner (region_of (totals (pos 8) (pos 30) (pos 18) (pos 112) (pos 72) (pos 40)))
    ∷ region_centre corner (centre_at (pos 1) (pos 1))
    ∷ region_centre [] (refused 27)
    ∷ figures (numbers rectangle) (numbers out_of_step) (compared zeros 0 0)
    ∷ []
