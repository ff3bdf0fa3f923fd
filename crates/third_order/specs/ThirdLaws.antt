-- Document 02, CR 10: what else holds of the call for every list: which lists it refuses, how large its totals get, and the laws of a start, of the opposite order and of one cut.
use Rattle.std.specs.Prelude.{ℕ, ◌≤◌, ◌≡◌, Bool, true, false, List, [], ◌∷◌, ◌≢◌, ◌↔◌, ℤ, nat_abs}
use Rattle.outline.specs.ListCall.{points, numbers, any_beyond, list_call}
use Rattle.outline.specs.Pieces.{Piece, Cut, can_cut, kept, others, start_at, Direction, walked}
use Rattle.third_order.specs.declared.ThirdTotals.{ThirdTotals}
use Rattle.third_order.specs.ThirdTerms.{no_thirds, plus_thirds}
use Rattle.third_order.specs.ThirdCall.{ThirdOutcome, accepted_thirds, third_call}
use Rattle.third_order.specs.ThirdPieces.{thirds_of, directed_thirds}

-- ---- refusals

-- What is claimed of an answer, of the number that the call on a whole list answers for the same list, and of whether a coordinate is below -500 or above 500.
pub record Refusing (answer : ThirdOutcome) (listed : ℕ) (far : Bool) : Type 0 where
  -- A list that the call on a whole list refuses is refused with the same number, 2 or 1.
  pub as_listed : listed ≢ 0 → answer.number ≡ listed
  -- 35 comes exactly where that call takes the list and a coordinate is too large.
  pub with_35 : (answer.number ≡ 35) ↔ ((listed ≡ 0) × (far ≡ true))
  -- The list is taken exactly where that call takes it and no coordinate is.
  pub taken : (answer.number ≡ 0) ↔ ((listed ≡ 0) × (far ≡ false))
  -- With a refusal all four totals are 0.
  pub zeros : answer.number ≢ 0 → answer.totals ≡ no_thirds

abbrev pub ThirdRefusals : Type 0
ThirdRefusals =
    -- For every list
    (zs : List ℤ)
    -- a refusal comes as it should and with nothing else.
    → Refusing (third_call zs) (list_call zs).number (any_beyond 500 (points zs))

-- ---- sizes

-- At most 1,024 times what an edge adds: c is at most 500,000 in size, a bracket at most 4 × 500³ or 12 × 500³.
pub record SmallThirds (t : ThirdTotals) : Type 0 where
  pub xxx20 : nat_abs t.xxx20 ≤ 256_000_000_000_000_000
  pub xxy60 : nat_abs t.xxy60 ≤ 768_000_000_000_000_000
  pub xyy60 : nat_abs t.xyy60 ≤ 768_000_000_000_000_000
  pub yyy20 : nat_abs t.yyy20 ≤ 256_000_000_000_000_000

abbrev pub ThirdSizes : Type 0
ThirdSizes =
    -- For every list, refused or not,
    (zs : List ℤ)
    -- the four totals are within these sizes.
    → SmallThirds (third_call zs).totals

-- ---- a start, the opposite order, a cut

abbrev pub ThirdStarts : Type 0
ThirdStarts =
    -- For every list of numbers
    (zs : List ℤ)
    -- and the four totals
    (t : ThirdTotals)
    -- with which the call accepts it,
    → third_call zs ≡ accepted_thirds t
    -- every start
    → (s : ℕ)
    -- and either direction:
    → (direction : Direction)
    -- the outline so walked and started is accepted with the same totals, with all four signs turned if walked backwards.
    → third_call (numbers (start_at s (walked direction (points zs)))) ≡ accepted_thirds (directed_thirds direction t)

-- What is claimed of an outline with the totals t that is cut in two.
pub record CutInTwo (kept others : Piece) (t : ThirdTotals) : Type 0 where
  -- Both pieces are accepted,
  pub kept-accepted : third_call (numbers kept) ≡ accepted_thirds (thirds_of kept)
  pub others-accepted : third_call (numbers others) ≡ accepted_thirds (thirds_of others)
  -- and their totals add up to those of the outline.
  pub sum : plus_thirds (thirds_of kept) (thirds_of others) ≡ t

abbrev pub ThirdCut : Type 0
ThirdCut =
    -- For every list of numbers
    (zs : List ℤ)
    -- and the four totals
    (t : ThirdTotals)
    -- with which the call accepts it,
    → third_call zs ≡ accepted_thirds t
    -- and every cut of the outline
    → (c : Cut)
    -- that can be made:
    → can_cut (points zs ∷ []) c ≡ true
    -- the claim holds of its two pieces.
    → CutInTwo (kept c (points zs)) (others c (points zs)) t
