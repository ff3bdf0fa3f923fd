-- Document 02, CR 5: the part handed back is the longer walk's own list.
use Prim.Native.Nat.{◌≤◌, ◌<◌}
use mathlib.Core.Path.{◌≡◌, ap}
use mathlib.Core.Bool.{true, false, cond}
use mathlib.Core.List.{List}
use lib.IntN.{ℤ}
use lib.ListN.{length}
use borrow.Author.Tests.{eq-eqb, lt-ltb, le-ltb}
use Rattle.outline.specs.ListCall.{points}
use Rattle.two_walks.specs.Comparison.{comparison_number, Part, part_of, Lent, handed_back}
use Rattle.two_walks.specs.ComparisonLaws.{HandedBack}
use Rattle.two_walks.proofs.Refusals.{no_part}

pub second-longer : (first second : List ℤ) → comparison_number first second ≡ 0 → length (points first) < length (points second) → part_of first second ≡ record { of_second = true; numbers = second }
unfolding part_of
second-longer first second e h = rw (eq-eqb (comparison_number first second) 0 e, lt-ltb (length (points first)) (length (points second)) h)

pub first-longer : (first second : List ℤ) → comparison_number first second ≡ 0 → length (points second) ≤ length (points first) → part_of first second ≡ record { of_second = false; numbers = first }
unfolding part_of
first-longer first second e h = rw (eq-eqb (comparison_number first second) 0 e, le-ltb (length (points first)) (length (points second)) h)

-- A part where it lies.
abbrev lying : Lent → Lent → Part → Lent
lying first second part = record { place = cond part.of_second second.place first.place; numbers = part.numbers }

pub handed_back_lem : HandedBack
unfolding handed_back
handed_back_lem first second =
    record {
      second-longer = λ e h. ap (lying first second) (second-longer first.numbers second.numbers e h);
      first-longer = λ e h. ap (lying first second) (first-longer first.numbers second.numbers e h);
      refused = λ n. ap (lying first second) (no_part first.numbers second.numbers n);
    }
