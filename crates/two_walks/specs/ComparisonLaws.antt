-- Document 02, CR 5: what holds of two walks compared, for every two lists of numbers. Each is proved in proofs/.
use Rattle.std.specs.Prelude.{ℕ, ◌*◌, ◌≤◌, ◌<◌, ◌≡◌, false, not, ◌≢◌, ◌↔◌, ℤ, nat_abs, length}
use mathlib.Core.List.{List, [], Memᴰ}
use Rattle.outline.specs.declared.Position.{Position}
use Rattle.outline.specs.EdgeSums.{negated, outline_bounds}
use Rattle.outline.specs.ListCall.{points, list_call}
use Rattle.two_walks.specs.declared.Figures.{Figures}
use Rattle.two_walks.specs.Distances.{squared_distance, squared_hausdorff}
use Rattle.two_walks.specs.Comparison.{comparison_number, no_figures, figures_call, part_of, Lent, handed_back}

-- ---- what a distance means

-- What it means that d is the squared distance from the points ps to the points qs, said without least and greatest.
pub record FarthestOff (ps qs : List Position) (d : ℕ) : Type 0 where
  -- It is the squared distance of a point of ps
  pub farthest : Position
  pub is_point : Memᴰ farthest ps
  -- and a point of qs,
  pub nearest : Position
  pub is_other : Memᴰ nearest qs
  pub apart : squared_distance farthest nearest ≡ d
  -- no point of qs is nearer to that point of ps,
  pub none_nearer : (q : Position) → Memᴰ q qs → d ≤ squared_distance farthest q
  -- and every point of ps has a point of qs no farther off than d.
  pub all_within : (p : Position) → Memᴰ p ps → (q : Position) × Memᴰ q qs × (squared_distance p q ≤ d)

abbrev pub DistanceMeans : Type 0
DistanceMeans =
    -- For every list of points, with one at least,
    (ps : List Position)
    → 0 < length ps
    -- every other such list
    → (qs : List Position)
    → 0 < length qs
    -- and every number:
    → (d : ℕ)
    -- it is the squared distance from the one to the other exactly where it has this meaning. So no other number has it.
    → (squared_hausdorff ps qs ≡ d) ↔ FarthestOff ps qs d

-- Each point of ps is a point of qs.
abbrev pub AllAmong : List Position → List Position → Type 0
AllAmong ps qs = (p : Position) → Memᴰ p ps → Memᴰ p qs

abbrev pub ZeroDistance : Type 0
ZeroDistance =
    -- For every list of points
    (ps : List Position)
    -- and every other, with one point at least:
    (qs : List Position)
    → 0 < length qs
    -- the squared distance from the one to the other is 0 exactly where each point of the one is a point of the other.
    → (squared_hausdorff ps qs ≡ 0) ↔ AllAmong ps qs

-- The same of the two distances of a call.
pub record DistancesMean (first second : List ℤ) (f : Figures) : Type 0 where
  pub forward : (d : ℕ) → (f.forward ≡ d) ↔ FarthestOff (points first) (points second) d
  pub backward : (d : ℕ) → (f.backward ≡ d) ↔ FarthestOff (points second) (points first) d
  pub forward_zero : (f.forward ≡ 0) ↔ AllAmong (points first) (points second)
  pub backward_zero : (f.backward ≡ 0) ↔ AllAmong (points second) (points first)

abbrev pub CallDistances : Type 0
CallDistances =
    -- For every two lists
    (first second : List ℤ)
    -- that are not refused,
    → comparison_number first second ≡ 0
    -- the two distances answered have this meaning.
    → DistancesMean first second (figures_call first second).figures

-- ---- exchanged lists

-- What is claimed of two lists and of the same two exchanged.
pub record Exchanged (first second : List ℤ) : Type 0 where
  -- Both are refused or neither is.
  pub refused : (comparison_number second first ≡ 0) ↔ (comparison_number first second ≡ 0)
  -- The six differences are negated, and the two distances exchanged; with a refusal too.
  pub differences : (figures_call second first).figures.differences ≡ negated (figures_call first second).figures.differences
  pub forward : (figures_call second first).figures.forward ≡ (figures_call first second).figures.backward
  pub backward : (figures_call second first).figures.backward ≡ (figures_call first second).figures.forward
  -- Where they are not refused and one has more points than the other, it is handed back in both orders;
  pub same_part : comparison_number first second ≡ 0 → length (points first) ≢ length (points second) → part_of second first ≡ record { of_second = not (part_of first second).of_second; numbers = (part_of first second).numbers }
  -- where they have as many, each order hands back its own first.
  pub tie : comparison_number first second ≡ 0 → length (points first) ≡ length (points second) → part_of first second ≡ record { of_second = false; numbers = first }
  pub tie_exchanged : comparison_number first second ≡ 0 → length (points first) ≡ length (points second) → part_of second first ≡ record { of_second = false; numbers = second }

abbrev pub ExchangedWalks : Type 0
ExchangedWalks =
    -- For every two lists, refused or not,
    (first second : List ℤ)
    -- all this holds of them exchanged.
    → Exchanged first second

-- ---- a list with itself

-- What is claimed of a list beside itself.
pub record WithItself (walk : List ℤ) : Type 0 where
  -- It is refused as it is alone.
  pub number : comparison_number walk walk ≡ (list_call walk).number
  -- The differences are zeros, and both distances 0.
  pub figures : (figures_call walk walk).figures ≡ no_figures
  -- It is handed back whole, as the first, where it is not refused.
  pub part : (list_call walk).number ≡ 0 → part_of walk walk ≡ record { of_second = false; numbers = walk }

abbrev pub WalkWithItself : Type 0
WalkWithItself =
    -- For every list, refused or not:
    (walk : List ℤ)
    -- it does not differ from itself.
    → WithItself walk

-- ---- sizes

-- Each difference is at most twice its outline bound in size, and each distance at most that of two opposite corners of the square of all points.
pub record SmallFigures (f : Figures) : Type 0 where
  pub a2 : nat_abs f.differences.a2 ≤ 2 * outline_bounds.a2
  pub x6 : nat_abs f.differences.x6 ≤ 2 * outline_bounds.x6
  pub y6 : nat_abs f.differences.y6 ≤ 2 * outline_bounds.y6
  pub xx12 : nat_abs f.differences.xx12 ≤ 2 * outline_bounds.xx12
  pub xy24 : nat_abs f.differences.xy24 ≤ 2 * outline_bounds.xy24
  pub yy12 : nat_abs f.differences.yy12 ≤ 2 * outline_bounds.yy12
  pub forward : f.forward ≤ 32_000_000
  pub backward : f.backward ≤ 32_000_000

abbrev pub FigureSizes : Type 0
FigureSizes =
    -- For every two lists, refused or not,
    (first second : List ℤ)
    -- the figures are within these sizes.
    → SmallFigures (figures_call first second).figures

-- ---- refusals

-- What is claimed of the number, and of the answer with a refusal.
pub record Refusing (first second : List ℤ) : Type 0 where
  -- The number of the refusal is answered with the figures.
  pub number : (figures_call first second).number ≡ comparison_number first second
  -- The call takes two lists exactly where the call on a whole list takes both.
  pub taken : (comparison_number first second ≡ 0) ↔ (((list_call first).number ≡ 0) × ((list_call second).number ≡ 0))
  -- The first is refused before the second, each as it is alone.
  pub by_first : (list_call first).number ≢ 0 → comparison_number first second ≡ (list_call first).number
  pub by_second : (list_call first).number ≡ 0 → comparison_number first second ≡ (list_call second).number
  -- All figures are then 0, and the part is the empty start of the first.
  pub figures : comparison_number first second ≢ 0 → (figures_call first second).figures ≡ no_figures
  pub part : comparison_number first second ≢ 0 → part_of first second ≡ record { of_second = false; numbers = [] }

abbrev pub RefusedWalks : Type 0
RefusedWalks =
    -- For every two lists
    (first second : List ℤ)
    -- a refusal comes as it should and with nothing else.
    → Refusing first second

-- ---- the part handed back

-- What is claimed of the part, for lists that lie anywhere, also both at one place.
pub record PartOfThem (first second : Lent) : Type 0 where
  -- The second itself, where it has more points and neither is refused; the first itself where not;
  pub second-longer : comparison_number first.numbers second.numbers ≡ 0 → length (points first.numbers) < length (points second.numbers) → handed_back first second ≡ second
  pub first-longer : comparison_number first.numbers second.numbers ≡ 0 → length (points second.numbers) ≤ length (points first.numbers) → handed_back first second ≡ first
  -- with a refusal nothing, where the first begins.
  pub refused : comparison_number first.numbers second.numbers ≢ 0 → handed_back first second ≡ record { place = first.place; numbers = [] }

abbrev pub HandedBack : Type 0
HandedBack =
    -- For every two lists that a caller lends,
    (first second : Lent)
    -- the part is one of them, or the empty start of the first.
    → PartOfThem first second
