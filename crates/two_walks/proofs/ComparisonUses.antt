-- The statements on two walks used: whole, with every quantifier left free, and at worked lists. A statement that says less is refused here.
use Prim.Native.Nat.{ℕ, ◌≤◌, ◌<◌}
use mathlib.Core.Path.{◌≡◌, refl, sym, ◌∙◌, ap}
use mathlib.Core.Bool.{false, not}
use mathlib.Core.List.{List, [], Memᴰ}
use mathlib.Core.Logic.{◌≢◌, ◌↔◌}
use native.Mathlib.Omega.{arith}
use lib.IntN.{ℤ, pos, neg_ℤ, nat_abs}
use lib.ListN.{length}
use Rattle.outline.specs.declared.Position.{Position}
use Rattle.outline.specs.EdgeSums.{zeros, negated, over}
use Rattle.outline.specs.ListCall.{points, beyond, any_beyond, wrong_length, list_call}
use Rattle.two_walks.specs.declared.Figures.{Figures}
use Rattle.two_walks.specs.Distances.{squared_distance, squared_hausdorff}
use Rattle.two_walks.specs.Comparison.{comparison_number, FiguresOutcome, figures_call, part_of, Lent, handed_back}
use Rattle.two_walks.specs.ComparisonLaws.{FarthestOff, AllAmong, DistancesMean, Exchanged, WithItself, SmallFigures, Refusing, PartOfThem}
use Rattle.two_walks.proofs.FarthestOff.{distance_means, zero_distance}
use Rattle.two_walks.proofs.Refusals.{refused_walks}
use Rattle.two_walks.proofs.Parts.{handed_back_lem}
use Rattle.two_walks.proofs.CallDistances.{call_distances}
use Rattle.two_walks.proofs.Exchanged.{exchanged_walks}
use Rattle.two_walks.proofs.WithItself.{walk_with_itself}
use Rattle.two_walks.proofs.FigureSizes.{figure_sizes}
use Rattle.two_walks.proofs.WorkedComparisons.{totals, rectangle, again, triangle, far, odd, worked_walkers}

-- ---- points

module _ (ps qs : List Position) where
  means : 0 < length ps → 0 < length qs → (d : ℕ) → (squared_hausdorff ps qs ≡ d) ↔ FarthestOff ps qs d
  means some-ps some-qs = distance_means ps some-ps qs some-qs

  -- Also from no points.
  zero_means : 0 < length qs → (squared_hausdorff ps qs ≡ 0) ↔ AllAmong ps qs
  zero_means = zero_distance ps qs

  -- The point of ps that lies farthest from qs, and no point of qs nearer to it.
  farthest : 0 < length ps → 0 < length qs → (p : Position) × Memᴰ p ps × ((q : Position) → Memᴰ q qs → squared_hausdorff ps qs ≤ squared_distance p q)
  farthest some-ps some-qs = let f = (means some-ps some-qs (squared_hausdorff ps qs)).0 refl in (f.farthest, f.is_point, f.none_nearer)

  reached : 0 < length ps → 0 < length qs → (p : Position) × (q : Position) × Memᴰ p ps × Memᴰ q qs × (squared_distance p q ≡ squared_hausdorff ps qs)
  reached some-ps some-qs = let f = (means some-ps some-qs (squared_hausdorff ps qs)).0 refl in (f.farthest, f.nearest, f.is_point, f.is_other, f.apart)

  covered : 0 < length ps → 0 < length qs → (p : Position) → Memᴰ p ps → (q : Position) × Memᴰ q qs × (squared_distance p q ≤ squared_hausdorff ps qs)
  covered some-ps some-qs = ((means some-ps some-qs (squared_hausdorff ps qs)).0 refl).all_within

  -- No other number is such.
  no_other : (d : ℕ) → (p q : Position) → Memᴰ p ps → Memᴰ q qs → squared_distance p q ≡ d → ((r : Position) → Memᴰ r qs → d ≤ squared_distance p r)
      → ((r : Position) → Memᴰ r ps → (s : Position) × Memᴰ s qs × (squared_distance r s ≤ d)) → 0 < length ps → 0 < length qs → squared_hausdorff ps qs ≡ d
  no_other d p q m n e near within some-ps some-qs = (means some-ps some-qs d).1 (record { farthest = p; is_point = m; nearest = q; is_other = n; apart = e; none_nearer = near; all_within = within })

  same_points : 0 < length qs → squared_hausdorff ps qs ≡ 0 → (p : Position) → Memᴰ p ps → Memᴰ p qs
  same_points some-qs = (zero_means some-qs).0

  no_distance : 0 < length qs → ((p : Position) → Memᴰ p ps → Memᴰ p qs) → squared_hausdorff ps qs ≡ 0
  no_distance some-qs = (zero_means some-qs).1

-- ---- any two lists

module _ (first second : List ℤ) where
  abbrev there : Figures
  there = (figures_call first second).figures

  abbrev back : Figures
  back = (figures_call second first).figures

  exchanged : Exchanged first second
  exchanged = exchanged_walks first second

  distances : comparison_number first second ≡ 0 → DistancesMean first second there
  distances = call_distances first second

  -- each of its four parts, both ways
  forward_means : comparison_number first second ≡ 0 → (d : ℕ) → (there.forward ≡ d) ↔ FarthestOff (points first) (points second) d
  forward_means n d = (distances n).forward d

  backward_means : comparison_number first second ≡ 0 → (d : ℕ) → (there.backward ≡ d) ↔ FarthestOff (points second) (points first) d
  backward_means n d = (distances n).backward d

  forward_zero : comparison_number first second ≡ 0 → (there.forward ≡ 0) ↔ AllAmong (points first) (points second)
  forward_zero n = (distances n).forward_zero

  backward_zero : comparison_number first second ≡ 0 → (there.backward ≡ 0) ↔ AllAmong (points second) (points first)
  backward_zero n = (distances n).backward_zero

  small : SmallFigures there
  small = figure_sizes first second

  refusing : Refusing first second
  refusing = refused_walks first second

  -- Exchanged.
  negated-differences : back.differences ≡ record { a2 = neg_ℤ there.differences.a2; x6 = neg_ℤ there.differences.x6; y6 = neg_ℤ there.differences.y6; xx12 = neg_ℤ there.differences.xx12; xy24 = neg_ℤ there.differences.xy24; yy12 = neg_ℤ there.differences.yy12 }
  negated-differences = exchanged.differences

  exchanged_distances : (back.forward ≡ there.backward) × (back.backward ≡ there.forward)
  exchanged_distances = (exchanged.forward, exchanged.backward)

  refused_both_ways : comparison_number first second ≢ 0 → comparison_number second first ≢ 0
  refused_both_ways n e = n (exchanged.refused.0 e)

  same_list : comparison_number first second ≡ 0 → length (points first) ≢ length (points second) → ((part_of second first).numbers ≡ (part_of first second).numbers) × ((part_of second first).of_second ≡ not (part_of first second).of_second)
  same_list e n = let same = exchanged.same_part e n in (ap (λ p. p.numbers) same, ap (λ p. p.of_second) same)

  own_first : comparison_number first second ≡ 0 → length (points first) ≡ length (points second) → (part_of first second ≡ record { of_second = false; numbers = first }) × (part_of second first ≡ record { of_second = false; numbers = second })
  own_first e l = (exchanged.tie e l, exchanged.tie_exchanged e l)

  -- Sizes, the numbers written out.
  sizes : (nat_abs there.differences.a2 ≤ 16_384_000_000) × (nat_abs there.differences.x6 ≤ 65_536_000_000_000) × (nat_abs there.differences.y6 ≤ 65_536_000_000_000)
  sizes = (small.a2, small.x6, small.y6)

  second_sizes : (nat_abs there.differences.xx12 ≤ 196_608_000_000_000_000) × (nat_abs there.differences.xy24 ≤ 393_216_000_000_000_000) × (nat_abs there.differences.yy12 ≤ 196_608_000_000_000_000)
  second_sizes = (small.xx12, small.xy24, small.yy12)

  distance_sizes : (there.forward ≤ 32_000_000) × (there.backward ≤ 32_000_000)
  distance_sizes = (small.forward, small.backward)

  -- Refusals.
  answered-number : (figures_call first second).number ≡ comparison_number first second
  answered-number = refusing.number

  both_taken : (list_call first).number ≡ 0 → (list_call second).number ≡ 0 → comparison_number first second ≡ 0
  both_taken e f = refusing.taken.1 (e, f)

  each_taken : comparison_number first second ≡ 0 → ((list_call first).number ≡ 0) × ((list_call second).number ≡ 0)
  each_taken = refusing.taken.0

  first_before : (list_call first).number ≢ 0 → comparison_number first second ≡ (list_call first).number
  first_before = refusing.by_first

  then_second : (list_call first).number ≡ 0 → comparison_number first second ≡ (list_call second).number
  then_second = refusing.by_second

  nothing_with_a_refusal : comparison_number first second ≢ 0 → ((figures_call first second).figures ≡ record { differences = zeros; forward = 0; backward = 0 }) × (part_of first second ≡ record { of_second = false; numbers = [] })
  nothing_with_a_refusal n = (refusing.figures n, refusing.part n)

-- ---- any list with itself

module _ (walk : List ℤ) where
  with_itself : WithItself walk
  with_itself = walk_with_itself walk

  no_figures_lem : figures_call walk walk ≡ record { number = (list_call walk).number; figures = record { differences = zeros; forward = 0; backward = 0 } }
  no_figures_lem = λ i. record { number = ((refusing walk walk).number ∙ with_itself.number) i; figures = with_itself.figures i }

  whole_part : (list_call walk).number ≡ 0 → part_of walk walk ≡ record { of_second = false; numbers = walk }
  whole_part = with_itself.part

-- ---- any two lent lists

module _ (first second : Lent) where
  part_of_them : PartOfThem first second
  part_of_them = handed_back_lem first second

  abbrev number : ℕ
  number = comparison_number first.numbers second.numbers

  the_second : number ≡ 0 → length (points first.numbers) < length (points second.numbers) → handed_back first second ≡ second
  the_second = part_of_them.second-longer

  the_first_lem : number ≡ 0 → length (points second.numbers) ≤ length (points first.numbers) → handed_back first second ≡ first
  the_first_lem = part_of_them.first-longer

  its_empty_start : number ≢ 0 → ((handed_back first second).place ≡ first.place) × ((handed_back first second).numbers ≡ [])
  its_empty_start n = (ap (λ (l : Lent). l.place) (part_of_them.refused n), ap (λ (l : Lent). l.numbers) (part_of_them.refused n))

-- ---- the rectangle and the other walk

taken : comparison_number rectangle again ≡ 0
taken = sym (answered-number rectangle again) ∙ ap (λ (o : FiguresOutcome). o.number) worked_walkers.figures

-- What is computed one way tells what is answered the other way.
rectangle_exchanged : (figures_call again rectangle).figures.differences ≡ totals (pos 5) (pos 90) (pos 85) (pos 1535) (pos 2195) (pos 985)
rectangle_exchanged = (exchanged_walks rectangle again).differences ∙ ap (λ (o : FiguresOutcome). negated o.figures.differences) worked_walkers.figures

-- The distance 1 is that of a point and its nearest, and no other number is.
rectangle-farthest : FarthestOff (points rectangle) (points again) 1
rectangle-farthest = (forward_means rectangle again taken 1).0 (ap (λ (o : FiguresOutcome). o.figures.forward) worked_walkers.figures)

rectangle-only : (d : ℕ) → FarthestOff (points rectangle) (points again) d → d ≡ 1
rectangle-only d f = sym (((call_distances rectangle again taken).forward d).1 f) ∙ ap (λ (o : FiguresOutcome). o.figures.forward) worked_walkers.figures

-- Each point of the triangle is a point of the rectangle, so it is no distance off.
triangle_among : squared_hausdorff (points triangle) (points rectangle) ≡ 0
unfolding points
triangle_among = no_distance (points triangle) (points rectangle) (omega arith) (λ p m. among p m)
  where
    among : (p : Position) → Memᴰ p (points triangle) → Memᴰ p (points rectangle)
    among p (Memᴰ.head e) = Memᴰ.head e
    among p (Memᴰ.tail (Memᴰ.head e)) = Memᴰ.tail (Memᴰ.head e)
    among p (Memᴰ.tail (Memᴰ.tail (Memᴰ.head e))) = Memᴰ.tail (Memᴰ.tail (Memᴰ.head e))
    among p (Memᴰ.tail (Memᴰ.tail (Memᴰ.tail h))) = elim h [ ]

-- Refused in one order, refused in the other, and with nothing else.
refused_exchanged : comparison_number odd far ≢ 0
unfolding over points beyond any_beyond wrong_length list_call comparison_number
refused_exchanged = refused_both_ways far odd (λ e. omega (arith, e))

refused_with_nothing : (figures_call odd far).figures ≡ record { differences = zeros; forward = 0; backward = 0 }
refused_with_nothing = (nothing_with_a_refusal odd far refused_exchanged).0

odd_itself : figures_call odd odd ≡ record { number = 2; figures = record { differences = zeros; forward = 0; backward = 0 } }
unfolding points wrong_length list_call
odd_itself = no_figures_lem odd

-- Its own list, wherever both lie.
lent_exchanged : (place other : ℕ × ℕ) → handed_back (record { place = other; numbers = again }) (record { place = place; numbers = rectangle }) ≡ record { place = other; numbers = again }
unfolding points
lent_exchanged place other = the_first_lem (record { place = other; numbers = again }) (record { place = place; numbers = rectangle }) ((exchanged_walks rectangle again).refused.1 taken) (omega arith)
