-- Two walks compared, worked by hand: figures, parts and orders of refusals, by computation from the definitions.
use Prim.Native.Nat.{ℕ}
use mathlib.Core.Path.{◌≡◌, refl}
use mathlib.Core.Bool.{true, false}
use mathlib.Core.List.{List, [], ◌∷◌, ◌++◌, map}
use lib.IntN.{ℤ, pos, negsuc}
use denote.Ref.{Bor}
use Rattle.outline.specs.declared.Totals.{Totals}
use Rattle.outline.specs.EdgeSums.{open_edges, edges, sum_over, over}
use Rattle.outline.specs.ListCall.{points, beyond, any_beyond, wrong_length, list_call}
use Rattle.outline.proofs.WorkedInputs.{at}
use Rattle.two_walks.specs.Distances.{squared_distance, least_of, greatest_of, to_nearest, squared_hausdorff}
use Rattle.two_walks.specs.Comparison.{comparison_number, FiguresOutcome, figures_call, part_of, Lent, lent, handed_back, comparison_call}

abbrev pub totals : ℤ → ℤ → ℤ → ℤ → ℤ → ℤ → Totals
totals a2 x6 y6 xx12 xy24 yy12 = record { a2 = a2; x6 = x6; y6 = y6; xx12 = xx12; xy24 = xy24; yy12 = yy12 }

-- The figures of two lists that are not refused.
abbrev answered : Totals → ℕ → ℕ → FiguresOutcome
answered differences forward backward = record { number = 0; figures = record { differences = differences; forward = forward; backward = backward } }

abbrev no_totals : Totals
no_totals = totals (pos 0) (pos 0) (pos 0) (pos 0) (pos 0) (pos 0)

-- ---- the rectangle, by two walkers

abbrev pub rectangle : List ℤ
rectangle = map pos (2 ∷ 0 ∷ 10 ∷ 4 ∷ 8 ∷ 8 ∷ 0 ∷ 4 ∷ [])

-- The second has one corner further east, and a point more near the last.
abbrev pub again : List ℤ
again = map pos (2 ∷ 0 ∷ 10 ∷ 4 ∷ 9 ∷ 8 ∷ 1 ∷ 5 ∷ 0 ∷ 4 ∷ [])

pub record Walkers : Type 0 where
  pub figures : figures_call rectangle again ≡ answered (totals (negsuc 4) (negsuc 89) (negsuc 84) (negsuc 1534) (negsuc 2194) (negsuc 984)) 1 2
  pub part : part_of rectangle again ≡ record { of_second = true; numbers = again }
  -- exchanged
  pub figures_exchanged : figures_call again rectangle ≡ answered (totals (pos 5) (pos 90) (pos 85) (pos 1535) (pos 2195) (pos 985)) 2 1
  pub part_exchanged : part_of again rectangle ≡ record { of_second = false; numbers = again }
  -- each with itself
  pub figures_itself : map (λ walk. figures_call walk walk) (rectangle ∷ again ∷ []) ≡ answered no_totals 0 0 ∷ answered no_totals 0 0 ∷ []
  pub part_itself : part_of again again ≡ record { of_second = false; numbers = again }

pub worked_walkers : Walkers
unfolding over open_edges edges sum_over points beyond any_beyond wrong_length list_call squared_distance least_of greatest_of to_nearest squared_hausdorff comparison_number figures_call part_of
worked_walkers = record { figures = refl; part = refl; figures_exchanged = refl; part_exchanged = refl; figures_itself = refl; part_itself = refl }

-- ---- distances

-- The rectangle from its third point on, its first three points, and all of it 3 further north.
abbrev started : List ℤ
started = map pos (8 ∷ 8 ∷ 0 ∷ 4 ∷ 2 ∷ 0 ∷ 10 ∷ 4 ∷ [])

abbrev pub triangle : List ℤ
triangle = map pos (2 ∷ 0 ∷ 10 ∷ 4 ∷ 8 ∷ 8 ∷ [])

abbrev moved : List ℤ
moved = map pos (2 ∷ 3 ∷ 10 ∷ 7 ∷ 8 ∷ 11 ∷ 0 ∷ 7 ∷ [])

-- Three times one point.
abbrev corner : ℤ → ℤ → List ℤ
corner x y = x ∷ y ∷ x ∷ y ∷ x ∷ y ∷ []

record Distances : Type 0 where
  -- in x alone, in y alone, and in both, on either side of 0
  points-apart : squared_distance (at (pos 7) (pos 5)) (at (pos 4) (pos 5)) ∷ squared_distance (at (pos 7) (pos 5)) (at (pos 7) (pos 9)) ∷ squared_distance (at (negsuc 0) (pos 2)) (at (pos 2) (negsuc 1)) ∷ [] ≡ 9 ∷ 16 ∷ 25 ∷ []
  least : map least_of ([] ∷ (7 ∷ []) ∷ (7 ∷ 4 ∷ []) ∷ (3 ∷ 1 ∷ 2 ∷ 1 ∷ []) ∷ []) ≡ 0 ∷ 7 ∷ 4 ∷ 1 ∷ []
  greatest : map greatest_of ([] ∷ (7 ∷ []) ∷ (7 ∷ 4 ∷ []) ∷ (1 ∷ 3 ∷ 2 ∷ 3 ∷ []) ∷ []) ≡ 0 ∷ 7 ∷ 7 ∷ 3 ∷ []
  -- the nearest point is no matter of its place in the list: place by place these are 100 apart
  another_start : figures_call rectangle started ≡ answered no_totals 0 0
  -- one way each point has a point at no distance, the other way one has none
  one_way : figures_call triangle rectangle ≡ answered (totals (negsuc 39) (negsuc 399) (negsuc 479) (negsuc 3359) (negsuc 7359) (negsuc 4479)) 0 20
  -- no point is farther off than 9 from the nearest; the least over the one of the greatest over the other would be 65
  all_moved : figures_call rectangle moved ≡ answered (totals (pos 0) (pos 0) (negsuc 719) (pos 0) (negsuc 14_399) (negsuc 15_839)) 9 9
  -- the greatest distance of all
  opposite : figures_call (corner (pos 2000) (pos 2000)) (corner (negsuc 1999) (negsuc 1999)) ≡ answered no_totals 32_000_000 32_000_000
  other_opposite : figures_call (corner (negsuc 1999) (pos 2000)) (corner (pos 2000) (negsuc 1999)) ≡ answered no_totals 32_000_000 32_000_000

worked_distances : Distances
unfolding squared_distance least_of greatest_of to_nearest squared_hausdorff over open_edges edges sum_over points beyond any_beyond wrong_length list_call comparison_number figures_call
worked_distances = record { points-apart = refl; least = refl; greatest = refl; another_start = refl; one_way = refl; all_moved = refl; opposite = refl; other_opposite = refl }

-- ---- refusals

-- Refused with n, with nothing else: all figures are 0, and the part is the empty start of the first.
record RefusedWith (n : ℕ) (first second : List ℤ) : Type 0 where
  figures : figures_call first second ≡ record { number = n; figures = record { differences = no_totals; forward = 0; backward = 0 } }
  part : part_of first second ≡ record { of_second = false; numbers = [] }

-- Refused with 1, of 3 points and of 6.
abbrev pub far : List ℤ
far = map pos (2 ∷ 0 ∷ 2001 ∷ 4 ∷ 8 ∷ 8 ∷ [])

abbrev farther : List ℤ
farther = again ++ pos 5000 ∷ pos 4 ∷ []

-- Refused with 2: 5 points, and an x without its y.
abbrev pub odd : List ℤ
odd = again ++ pos 7 ∷ []

record Refusals : Type 0 where
  -- the first before the second
  far_odd : RefusedWith 1 far odd
  odd_far : RefusedWith 2 odd farther
  -- one alone, shorter and longer than the other
  only-first-far : RefusedWith 1 far rectangle
  only_first_farther : RefusedWith 1 farther rectangle
  only_first_odd : RefusedWith 2 odd rectangle
  only-second-far : RefusedWith 1 rectangle far
  only_second_farther : RefusedWith 1 rectangle farther
  only_second_odd : RefusedWith 2 rectangle odd
  only-second-none : RefusedWith 2 rectangle []
  -- a list with itself
  far-far : RefusedWith 1 far far
  odd_odd : RefusedWith 2 odd odd
  none-none : RefusedWith 2 [] []

worked_refusals : Refusals
unfolding over open_edges edges sum_over points beyond any_beyond wrong_length list_call squared_distance least_of greatest_of to_nearest squared_hausdorff comparison_number figures_call part_of
worked_refusals =
    record {
      far_odd = record { figures = refl; part = refl };
      odd_far = record { figures = refl; part = refl };
      only-first-far = record { figures = refl; part = refl };
      only_first_farther = record { figures = refl; part = refl };
      only_first_odd = record { figures = refl; part = refl };
      only-second-far = record { figures = refl; part = refl };
      only_second_farther = record { figures = refl; part = refl };
      only_second_odd = record { figures = refl; part = refl };
      only-second-none = record { figures = refl; part = refl };
      far-far = record { figures = refl; part = refl };
      odd_odd = record { figures = refl; part = refl };
      none-none = record { figures = refl; part = refl };
    }

-- ---- the part, by where the lists lie

-- The one list lies here, the other there.
abbrev here : List ℤ → Lent
here zs = record { place = (3, 16); numbers = zs }

abbrev there : List ℤ → Lent
there zs = record { place = (5, 64); numbers = zs }

record Placed : Type 0 where
  longer-second : handed_back (here rectangle) (there again) ≡ there again
  longer-first : handed_back (here again) (there rectangle) ≡ here again
  -- as many points
  tie : handed_back (here rectangle) (there started) ≡ here rectangle
  tie_exchanged : handed_back (there started) (here rectangle) ≡ there started
  -- the same numbers at two places
  same_numbers : handed_back (here rectangle) (there rectangle) ≡ here rectangle
  -- refused
  first-refused : handed_back (here far) (there again) ≡ here []
  second-refused : handed_back (here rectangle) (there odd) ≡ here []
  -- a lent list is told by the place of its reference, and by its numbers
  place : (r : Bor (List ℤ)) → (lent r).place ≡ r.ref_ptr
  numbers : (r : Bor (List ℤ)) → (lent r).numbers ≡ r.now
  -- the whole answer
  whole : comparison_call (here rectangle) (there again) ≡ record { figures = figures_call rectangle again; part = there again }
  whole-tie : comparison_call (here rectangle) (there started) ≡ record { figures = figures_call rectangle started; part = here rectangle }
  whole-refused : comparison_call (here rectangle) (there odd) ≡ record { figures = record { number = 2; figures = record { differences = no_totals; forward = 0; backward = 0 } }; part = here [] }

worked_places : Placed
unfolding over open_edges edges sum_over points beyond any_beyond wrong_length list_call squared_distance least_of greatest_of to_nearest squared_hausdorff comparison_number figures_call part_of handed_back comparison_call
worked_places =
    record {
      longer-second = refl;
      longer-first = refl;
      tie = refl;
      tie_exchanged = refl;
      same_numbers = refl;
      first-refused = refl;
      second-refused = refl;
      place = λ r. refl;
      numbers = λ r. refl;
      whole = refl;
      whole-tie = refl;
      whole-refused = refl;
    }
