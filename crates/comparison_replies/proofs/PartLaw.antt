-- The part that a comparison hands back has more numbers than the first list exactly where it is the second list.
use mathlib.Core.Path.{◌≡◌}
use mathlib.Core.List.{List}
use native.Mathlib.Omega.{arith}
use borrow.Author.Tests.{ltb-true, lt-ltb, le-ltb}
use lib.Dec.{ltb, eqb}
use lib.IntN.{ℤ}
use lib.ListN.{length}
use Rattle.outline.specs.ListCall.{points}
use Rattle.outline.proofs.IndexLaws.{length-points}
use Rattle.integers.proofs.Cases.{by_cond}
use Rattle.two_walks.specs.Comparison.{Part, comparison_number, part_of}

pub of_second_lem : (first second : List ℤ) → ltb (length first) (length (part_of first second).numbers) ≡ (part_of first second).of_second
unfolding part_of
of_second_lem first second =
    by_cond Told (eqb (comparison_number first second) 0)
    (λ _. by_cond Told (ltb (length (points first)) (length (points second)))
    (λ e. lt-ltb (length first) (length second) (omega (arith, ltb-true (length (points first)) (length (points second)) e, length-points first, length-points second)))
    (λ _. le-ltb (length first) (length first) (omega arith)))
    (λ _. le-ltb (length first) 0 (omega arith))
  where
    Told : Part → Type 0
    Told part = ltb (length first) (length part.numbers) ≡ part.of_second
