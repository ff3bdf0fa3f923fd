-- Both sides of every limit of document 01 for lists, walks, sheets and maps, and of document 02's 32, by computation from the definitions.
use mathlib.Core.Path.{◌≡◌, refl}
use mathlib.Core.List.{List, [], ◌∷◌, ◌++◌, map}
use mathlib.Core.Bool.{false}
use Prim.Native.Nat.{ℕ, suc, ◌+◌, ◌-◌, ◌*◌}
use lib.IntN.{ℤ, pos, negsuc, neg_ℤ}
use lib.ListN.{replicate, drop}
use lib.Ieee.{lt}
use Rattle.receiver.specs.Floats.{not_finite, below_zero, plus_zero}
use Rattle.outline.specs.declared.Position.{Position}
use Rattle.outline.specs.declared.Totals.{Totals}
use Rattle.outline.specs.declared.Sizes.{Sizes}
use Rattle.outline.specs.declared.AffineMap.{AffineMap}
use Rattle.outline.specs.declared.Kind.{Kind}
use Rattle.outline.specs.declared.Kind.TheVariants.{Island, Hole}
use Rattle.outline.specs.EdgeSums.{zeros, plus, negated, over, exceed}
use Rattle.outline.specs.ListCall.{points, beyond, any_beyond, wrong_length, list_call}
use Rattle.outline.specs.MapCall.{disallowed, map_call}
use Rattle.outline.specs.WalkCalls.{origin, open_walk, opened, closed, sheet_of, new_sheet, extended, has_sign, turned, zero_area, impossible_walk, impossible_sheet, point_call, end_call, abandon_call}
use Rattle.outline.proofs.PiecesLaws.{identity}
use Rattle.outline.proofs.WorkedInputs.{at, area, each_alone, open_of, doubling}

-- ---- the six totals

-- What a call answers where one of the six totals, the others being 0, is as large as its size, either sign, and where it is one larger.
record Limited (number : Totals → ℕ) (b : Sizes) (taken refused : ℕ) : Type 0 where
  greatest : map number (each_alone pos b) ≡ replicate 6 taken
  least : map number (each_alone (λ n. neg_ℤ (pos n)) b) ≡ replicate 6 taken
  above : map number (each_alone (λ n. pos (suc n)) b) ≡ replicate 6 refused
  below : map number (each_alone negsuc b) ≡ replicate 6 refused

abbrev outline_sizes : Sizes
outline_sizes = record { a2 = 8_192_000_000; x6 = 32_768_000_000_000; y6 = 32_768_000_000_000; xx12 = 98_304_000_000_000_000; xy24 = 196_608_000_000_000_000; yy12 = 98_304_000_000_000_000 }

-- 3/1,024 of these.
abbrev share_of_three : Sizes
share_of_three = record { a2 = 24_000_000; x6 = 96_000_000_000; y6 = 96_000_000_000; xx12 = 288_000_000_000_000; xy24 = 576_000_000_000_000; yy12 = 288_000_000_000_000 }

abbrev all_sizes : ℕ → Sizes
all_sizes n = record { a2 = n; x6 = n; y6 = n; xx12 = n; xy24 = n; yy12 = n }

-- 28 of a walk: the share of its points, 0 where it has none, the outline bounds where it has 1,024.
share_of_3 : Limited (λ t. (point_call (open_of 3 t) origin).number) share_of_three 0 28
unfolding over exceed beyond not_finite below_zero lt impossible_walk point_call
share_of_3 = record { greatest = refl; least = refl; above = refl; below = refl }

share_of_1024 : Limited (λ t. (abandon_call (open_of 1024 t)).number) outline_sizes 0 28
unfolding over exceed beyond not_finite below_zero lt impossible_walk abandon_call
share_of_1024 = record { greatest = refl; least = refl; above = refl; below = refl }

share_of_none : Limited (λ t. (abandon_call (open_of 0 t)).number) (all_sizes 0) 0 28
unfolding over exceed beyond not_finite below_zero lt impossible_walk abandon_call
share_of_none = record { greatest = refl; least = refl; above = refl; below = refl }

-- 28 of a sheet: 10^18. The walk is closed, so that 21 comes where 28 does not.
sheet_limit : Limited (λ t. (end_call closed (sheet_of 0 t)).number) (all_sizes 1_000_000_000_000_000_000) 21 28
unfolding over exceed not_finite below_zero lt impossible_walk impossible_sheet end_call
sheet_limit = record { greatest = refl; least = refl; above = refl; below = refl }

-- 4: the outline bounds, under the map that moves nothing.
map_bounds : Limited (λ t. (map_call identity t).number) outline_sizes 0 4
unfolding over exceed disallowed map_call
map_bounds = record { greatest = refl; least = refl; above = refl; below = refl }

-- 26: 1 more makes 10^18, which is taken, and 2 more are too many; likewise below zero.
abbrev all_totals : ℤ → Totals
all_totals z = record { a2 = z; x6 = z; y6 = z; xx12 = z; xy24 = z; yy12 = z }

-- A2 alone, and each of the others beside an A2 of 1, since a ring of zero area is refused with 32.
abbrev with_area : ℕ → List Totals
with_area n = area n ∷ map (plus (area 1)) (drop 1 (each_alone pos (all_sizes n)))

-- An island with such totals, and a hole with these below zero.
abbrev raised : List Totals → List ℕ
raised ts = map (λ t. (end_call (open_walk Island 3 origin origin t plus_zero) (sheet_of 0 (all_totals (pos 999_999_999_999_999_999)))).number) ts

abbrev lowered : List Totals → List ℕ
lowered ts = map (λ t. (end_call (open_walk Hole 3 origin origin (negated t) plus_zero) (sheet_of 0 (all_totals (negsuc 999_999_999_999_999_998)))).number) ts

record Filled : Type 0 where
  up : raised (with_area 1 ++ with_area 2) ≡ replicate 6 0 ++ replicate 6 26
  down : lowered (with_area 1 ++ with_area 2) ≡ replicate 6 0 ++ replicate 6 26
  -- walked the other way
  up_again : raised (map negated (with_area 1 ++ with_area 2)) ≡ replicate 6 0 ++ replicate 6 26
  down_again : lowered (map negated (with_area 1 ++ with_area 2)) ≡ replicate 6 0 ++ replicate 6 26

filled : Filled
unfolding over exceed beyond has_sign turned zero_area not_finite below_zero lt impossible_walk impossible_sheet end_call
filled = record { up = refl; down = refl; up_again = refl; down_again = refl }

-- The closing edge, from (0,1) to (1,0), adds -1 to each total: 26 looks at the sums with it. Each total fills the sheet's, and none has room for 1 more.
with_closing_edge : map (λ t. (end_call (open_walk Island 3 (at (pos 1) (pos 0)) (at (pos 0) (pos 1)) (plus (all_totals (pos 2)) t) plus_zero) (sheet_of 0 (all_totals (pos 999_999_999_999_999_999)))).number) (zeros ∷ each_alone pos (all_sizes 1)) ≡ 0 ∷ replicate 6 26
unfolding over exceed beyond has_sign turned zero_area not_finite below_zero lt impossible_walk impossible_sheet end_call
with_closing_edge = refl

-- 32: an A2 of 0 with the closing edge, whatever the other totals are, and either kind.
abbrev ended : Kind → List ℕ
ended k = map (λ t. (end_call (open_walk k 3 (at (pos 1) (pos 0)) (at (pos 0) (pos 1)) t plus_zero) new_sheet).number) (area 1 ∷ all_totals (pos 1) ∷ all_totals (pos 2) ∷ zeros ∷ record { a2 = pos 1; x6 = pos 7; y6 = pos 7; xx12 = pos 7; xy24 = pos 7; yy12 = pos 7 } ∷ [])

zero_area_lem : ended Island ++ ended Hole ≡ 32 ∷ 32 ∷ 0 ∷ 0 ∷ 32 ∷ 32 ∷ 32 ∷ 0 ∷ 0 ∷ 32 ∷ []
unfolding over exceed beyond has_sign turned zero_area not_finite below_zero lt impossible_walk impossible_sheet end_call
zero_area_lem = refl

-- 5: doubled, a second moment is 16 times as large: 10^18 is taken, and 10^18 + 16 is not. (A2, X6 and Y6 that 4 takes are never mapped so far.)
abbrev doubled : (ℕ → ℤ) → ℕ → List ℕ
doubled f n = map (λ t. (map_call doubling t).number) (drop 3 (each_alone f (all_sizes n)))

record Mapped : Type 0 where
  up : doubled pos 62_500_000_000_000_000 ++ doubled pos 62_500_000_000_000_001 ≡ replicate 3 0 ++ replicate 3 5
  down : doubled negsuc 62_499_999_999_999_999 ++ doubled negsuc 62_500_000_000_000_000 ≡ replicate 3 0 ++ replicate 3 5

mapped : Mapped
unfolding over exceed disallowed map_call
mapped = record { up = refl; down = refl }

-- One past 10^18, under maps with a d of 1: XX12 by one YY12 more, YY12 by one XX12 more, and XY24 by one XY24 less and two YY12 more.
abbrev number_under : AffineMap → ℤ → ℤ → ℤ → ℤ → ℤ → ℕ
number_under m x6 y6 xx12 xy24 yy12 = (map_call m (record { a2 = pos 0; x6 = x6; y6 = y6; xx12 = xx12; xy24 = xy24; yy12 = yy12 })).number

abbrev xx12_past : (ℕ → ℤ) → ℕ → ℕ
xx12_past f n = number_under (record { a = pos 2; b = pos 1; g = negsuc 0; h = pos 0; e = pos 2000; f = pos 0 }) (f 13_348_000_000_000) (pos 0) (f 98_304_000_000_000_000) (f 196_608_000_000_000_000) (f n)

abbrev yy12_past : (ℕ → ℤ) → ℕ → ℕ
yy12_past f n = number_under (record { a = pos 0; b = negsuc 0; g = pos 1; h = pos 2; e = pos 0; f = pos 2000 }) (pos 0) (f 13_348_000_000_000) (f n) (f 196_608_000_000_000_000) (f 98_304_000_000_000_000)

abbrev xy24_past : (ℕ → ℤ) → ℕ → ℕ
xy24_past f n = number_under (record { a = pos 2; b = pos 1; g = pos 1; h = pos 1; e = pos 0; f = pos 0 }) (pos 0) (pos 0) (f 98_304_000_000_000_000) (f (196_608_000_000_000_000 - n)) (f (8_480_000_000_000_000 + 2 * n))

abbrev both_signs : ((ℕ → ℤ) → ℕ → ℕ) → List ℕ
both_signs number = map (number pos) (0 ∷ 1 ∷ []) ++ map (number (λ n. neg_ℤ (pos n))) (0 ∷ 1 ∷ [])

one_past : both_signs xx12_past ++ both_signs xy24_past ++ both_signs yy12_past ≡ 0 ∷ 5 ∷ 0 ∷ 5 ∷ 0 ∷ 5 ∷ 0 ∷ 5 ∷ 0 ∷ 5 ∷ 0 ∷ 5 ∷ []
unfolding over exceed disallowed map_call
one_past = refl

-- ---- coordinates

-- 2,000 and one more, east, north, west and south.
abbrev inside : List Position
inside = at (pos 2000) (pos 0) ∷ at (pos 0) (pos 2000) ∷ at (negsuc 1999) (pos 0) ∷ at (pos 0) (negsuc 1999) ∷ []

abbrev far : List Position
far = at (pos 2001) (pos 0) ∷ at (pos 0) (pos 2001) ∷ at (negsuc 2000) (pos 0) ∷ at (pos 0) (negsuc 2000) ∷ []

record Coordinates : Type 0 where
  -- 1, of a point and of the first and the last point of a list
  point : map (λ p. (point_call (opened Island) p).number) (inside ++ far) ≡ replicate 4 0 ++ replicate 4 1
  first_listed : map (λ p. (list_call (p.x ∷ p.y ∷ pos 0 ∷ pos 0 ∷ pos 1 ∷ pos 1 ∷ [])).number) (inside ++ far) ≡ replicate 4 0 ++ replicate 4 1
  last_listed : map (λ p. (list_call (pos 0 ∷ pos 0 ∷ pos 1 ∷ pos 1 ∷ p.x ∷ p.y ∷ [])).number) (inside ++ far) ≡ replicate 4 0 ++ replicate 4 1
  -- 28, of the first and the last point of a walk
  first-walked : map (λ p. (abandon_call (open_walk Island 1 p origin zeros plus_zero)).number) (inside ++ far) ≡ replicate 4 0 ++ replicate 4 28
  last-walked : map (λ p. (abandon_call (open_walk Island 1 origin p zeros plus_zero)).number) (inside ++ far) ≡ replicate 4 0 ++ replicate 4 28

coordinates : Coordinates
unfolding over exceed points beyond any_beyond wrong_length list_call extended not_finite below_zero lt impossible_walk point_call abandon_call
coordinates = record { point = refl; first_listed = refl; last_listed = refl; first-walked = refl; last-walked = refl }

-- ---- counts

record Counts : Type 0 where
  -- 2: lists of 2, 3, 1,024 and 1,025 points, and of 3 and 1,024 points with a number more
  listed : map (λ n. (list_call (replicate n (pos 0))).number) (4 ∷ 6 ∷ 2048 ∷ 2050 ∷ 7 ∷ 2049 ∷ []) ≡ 2 ∷ 0 ∷ 0 ∷ 2 ∷ 2 ∷ 2 ∷ []
  -- 23, and 28 of the walk
  points-walked : map (λ n. (point_call (open_of n zeros) origin).number) (1023 ∷ 1024 ∷ 1025 ∷ []) ≡ 0 ∷ 23 ∷ 28 ∷ []
  -- 24
  points-ended : map (λ n. (end_call (open_of n (area 1)) new_sheet).number) (2 ∷ 3 ∷ 1024 ∷ []) ≡ 24 ∷ 0 ∷ 0 ∷ []
  -- 25, and 28 of the sheet
  outlines : map (λ n. (end_call (open_of 3 (area 1)) (sheet_of n zeros)).number) (63 ∷ 64 ∷ 65 ∷ []) ≡ 0 ∷ 25 ∷ 28 ∷ []

counts : Counts
unfolding over exceed points beyond any_beyond wrong_length list_call extended has_sign turned zero_area not_finite below_zero lt impossible_walk impossible_sheet point_call end_call
counts = record { listed = refl; points-walked = refl; points-ended = refl; outlines = refl }

-- ---- maps

-- Each coefficient alone, then each shift alone.
abbrev coefficients : ℤ → List AffineMap
coefficients z =
    record { a = z; b = pos 0; g = pos 0; h = pos 0; e = pos 0; f = pos 0 }
    ∷ record { a = pos 0; b = z; g = pos 0; h = pos 0; e = pos 0; f = pos 0 }
    ∷ record { a = pos 0; b = pos 0; g = z; h = pos 0; e = pos 0; f = pos 0 }
    ∷ record { a = pos 0; b = pos 0; g = pos 0; h = z; e = pos 0; f = pos 0 }
    ∷ []

abbrev shifts : ℤ → List AffineMap
shifts z =
    record { a = pos 0; b = pos 0; g = pos 0; h = pos 0; e = z; f = pos 0 }
    ∷ record { a = pos 0; b = pos 0; g = pos 0; h = pos 0; e = pos 0; f = z }
    ∷ []

abbrev numbers_of : List AffineMap → List ℕ
numbers_of ms = map (λ m. (map_call m zeros).number) ms

-- 3
record Maps : Type 0 where
  coefficient : numbers_of (coefficients (pos 2) ++ coefficients (negsuc 1)) ≡ replicate 8 0
  coefficient_beyond : numbers_of (coefficients (pos 3) ++ coefficients (negsuc 2)) ≡ replicate 8 3
  shift : numbers_of (shifts (pos 2000) ++ shifts (negsuc 1999)) ≡ replicate 4 0
  shift-beyond : numbers_of (shifts (pos 2001) ++ shifts (negsuc 2000)) ≡ replicate 4 3

maps : Maps
unfolding over exceed disallowed map_call
maps = record { coefficient = refl; coefficient_beyond = refl; shift = refl; shift-beyond = refl }

-- Demand 3 speaks of the maps that 3 takes: the same limits.
allowed : map disallowed (coefficients (pos 2) ++ coefficients (negsuc 1) ++ shifts (pos 2000) ++ shifts (negsuc 1999)) ≡ replicate 12 false
unfolding over disallowed
allowed = refl
