-- Document 02, CR 10, worked by hand: the terms of one edge, the call's figures, both sides of each limit and the order of refusals, by computation from the definitions.
use Prim.Native.Nat.{ℕ}
use mathlib.Core.Path.{◌≡◌, refl}
use mathlib.Core.List.{List, [], ◌∷◌, ◌++◌, map}
use lib.IntN.{ℤ, pos, negsuc}
use lib.ListN.{replicate}
use Rattle.outline.specs.EdgeSums.{open_edges, edges, sum_over, over}
use Rattle.outline.specs.ListCall.{points, beyond, any_beyond, wrong_length}
use Rattle.outline.proofs.WorkedInputs.{at}
use Rattle.third_order.specs.declared.ThirdTotals.{ThirdTotals}
use Rattle.third_order.specs.ThirdTerms.{four}
use Rattle.third_order.specs.ThirdCall.{ThirdOutcome, third_call}

abbrev pub thirds : ℤ → ℤ → ℤ → ℤ → ThirdTotals
thirds xxx20 xxy60 xyy60 yyy20 = record { xxx20 = xxx20; xxy60 = xxy60; xyy60 = xyy60; yyy20 = yyy20 }

abbrev answered : ℤ → ℤ → ℤ → ℤ → ThirdOutcome
answered xxx20 xxy60 xyy60 yyy20 = record { number = 0; totals = thirds xxx20 xxy60 xyy60 yyy20 }

-- ---- one edge, from (2,3) to (7,11), whose cross product is 1, and back

one_edge : four (λ t. t (at (pos 2) (pos 3)) (at (pos 7) (pos 11))) ≡ thirds (pos 477) (pos 2236) (pos 3494) (pos 1820)
one_edge = refl

edge_back : four (λ t. t (at (pos 7) (pos 11)) (at (pos 2) (pos 3))) ≡ thirds (negsuc 476) (negsuc 2235) (negsuc 3493) (negsuc 1819)
edge_back = refl

-- ---- outlines

abbrev unit_square : List ℤ
unit_square = map pos (0 ∷ 0 ∷ 1 ∷ 0 ∷ 1 ∷ 1 ∷ 0 ∷ 1 ∷ [])

abbrev pub rectangle : List ℤ
rectangle = map pos (2 ∷ 0 ∷ 10 ∷ 4 ∷ 8 ∷ 8 ∷ 0 ∷ 4 ∷ [])

abbrev figure_eight : List ℤ
figure_eight = map pos (0 ∷ 0 ∷ 2 ∷ 2 ∷ 2 ∷ 0 ∷ 0 ∷ 2 ∷ [])

-- The unit square one further west.
abbrev west_square : List ℤ
west_square = negsuc 0 ∷ pos 0 ∷ pos 0 ∷ pos 0 ∷ pos 0 ∷ pos 1 ∷ negsuc 0 ∷ pos 1 ∷ []

pub record Outlines : Type 0 where
  pub unit_square_lem : third_call unit_square ≡ answered (pos 5) (pos 10) (pos 10) (pos 5)
  pub of_rectangle : third_call rectangle ≡ answered (pos 168_000) (pos 342_400) (pos 262_400) (pos 76_800)
  pub figure_eight_lem : third_call figure_eight ≡ answered (negsuc 95) (negsuc 159) (negsuc 95) (pos 0)
  pub west_square_lem : third_call west_square ≡ answered (negsuc 4) (pos 10) (negsuc 9) (pos 5)
  -- one point three times
  pub no_area : third_call (map pos (5 ∷ 7 ∷ 5 ∷ 7 ∷ 5 ∷ 7 ∷ [])) ≡ answered (pos 0) (pos 0) (pos 0) (pos 0)

pub outlines : Outlines
unfolding open_edges edges sum_over over points beyond any_beyond wrong_length third_call
outlines = record { unit_square_lem = refl; of_rectangle = refl; figure_eight_lem = refl; west_square_lem = refl; no_area = refl }

-- ---- limits

abbrev numbers_of : List (List ℤ) → List ℕ
numbers_of = map (λ zs. (third_call zs).number)

-- A coordinate z as x and as y of the first, the second and the last of three points.
abbrev with_one : ℤ → List (List ℤ)
with_one z =
    (z ∷ pos 0 ∷ pos 0 ∷ pos 0 ∷ pos 1 ∷ pos 1 ∷ [])
    ∷ (pos 0 ∷ z ∷ pos 0 ∷ pos 0 ∷ pos 1 ∷ pos 1 ∷ [])
    ∷ (pos 0 ∷ pos 0 ∷ z ∷ pos 0 ∷ pos 1 ∷ pos 1 ∷ [])
    ∷ (pos 0 ∷ pos 0 ∷ pos 0 ∷ z ∷ pos 1 ∷ pos 1 ∷ [])
    ∷ (pos 0 ∷ pos 0 ∷ pos 1 ∷ pos 1 ∷ z ∷ pos 0 ∷ [])
    ∷ (pos 0 ∷ pos 0 ∷ pos 1 ∷ pos 1 ∷ pos 0 ∷ z ∷ [])
    ∷ []

record Limits : Type 0 where
  -- 35: 500 is accepted, 501 is not; 1: 2,000 and 2,001
  inside : numbers_of (with_one (pos 500) ++ with_one (negsuc 499)) ≡ replicate 12 0
  far : numbers_of (with_one (pos 501) ++ with_one (negsuc 500)) ≡ replicate 12 35
  far_at_most : numbers_of (with_one (pos 2000) ++ with_one (negsuc 1999)) ≡ replicate 12 35
  outside : numbers_of (with_one (pos 2001) ++ with_one (negsuc 2000)) ≡ replicate 12 1
  -- 2: lists of 2, 3, 1,024 and 1,025 points, and of 3 and 1,024 points with a number more
  counted : numbers_of (map (λ n. replicate n (pos 0)) (0 ∷ 4 ∷ 6 ∷ 2048 ∷ 2050 ∷ 7 ∷ 2049 ∷ [])) ≡ 2 ∷ 2 ∷ 0 ∷ 0 ∷ 2 ∷ 2 ∷ 2 ∷ []

limits : Limits
unfolding open_edges edges sum_over over points beyond any_beyond wrong_length third_call
limits = record { inside = refl; far = refl; far_at_most = refl; outside = refl; counted = refl }

-- ---- order 2, 1, 35

record Orders : Type 0 where
  -- an odd length, too few points and too many, all of them beyond the limits of 1, then of 35
  two_before_1 : numbers_of (map (λ n. replicate n (pos 2001)) (7 ∷ 4 ∷ 2050 ∷ 6 ∷ [])) ≡ 2 ∷ 2 ∷ 2 ∷ 1 ∷ []
  two_before_35 : numbers_of (map (λ n. replicate n (pos 501)) (7 ∷ 4 ∷ 2050 ∷ 6 ∷ [])) ≡ 2 ∷ 2 ∷ 2 ∷ 35 ∷ []
  -- 1 wherever in the list, also after a coordinate that 35 refuses
  one_before_35 : numbers_of (map (map pos) ((600 ∷ 0 ∷ 0 ∷ 0 ∷ 0 ∷ 2001 ∷ []) ∷ (0 ∷ 600 ∷ 2001 ∷ 0 ∷ 1 ∷ 1 ∷ []) ∷ (2001 ∷ 0 ∷ 600 ∷ 0 ∷ 1 ∷ 1 ∷ []) ∷ [])) ≡ 1 ∷ 1 ∷ 1 ∷ []
  -- with zeros
  zeros : map third_call (replicate 7 (pos 1) ∷ replicate 6 (pos 2001) ∷ (map pos (501 ∷ 0 ∷ 0 ∷ 1 ∷ 0 ∷ 0 ∷ [])) ∷ []) ≡ map (λ n. record { number = n; totals = thirds (pos 0) (pos 0) (pos 0) (pos 0) }) (2 ∷ 1 ∷ 35 ∷ [])

orders : Orders
unfolding open_edges edges sum_over over points beyond any_beyond wrong_length third_call
orders = record { two_before_1 = refl; two_before_35 = refl; one_before_35 = refl; zeros = refl }
