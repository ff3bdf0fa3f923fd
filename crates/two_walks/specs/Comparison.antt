-- Document 02, CR 5: what is answered for two walks of one plot, each a list of numbers: the number of the refusal, the figures, and the part handed back.
use Rattle.std.specs.Prelude.{ℕ, Bool, true, false, cond, List, [], ltb, eqb, ℤ, ◌-ℤ◌, length}
use Rattle.std.specs.Borrow.{Bor}
use Rattle.outline.specs.declared.Totals.{Totals}
use Rattle.outline.specs.EdgeSums.{zeros}
use Rattle.outline.specs.ListCall.{points, list_call}
use Rattle.two_walks.specs.declared.Figures.{Figures}
use Rattle.two_walks.specs.Distances.{squared_hausdorff}

-- ---- refusals

-- Each list is refused as the call on a whole list refuses it, the first before the second: the number of the refusal, 0 where neither is refused.
unfoldable pub comparison_number : List ℤ → List ℤ → ℕ
comparison_number first second = cond (eqb (list_call first).number 0) (list_call second).number (list_call first).number

-- ---- the figures

-- Each of the six by itself, the first less the second.
abbrev pub minus : Totals → Totals → Totals
minus s t =
    record {
      a2 = s.a2 -ℤ t.a2;
      x6 = s.x6 -ℤ t.x6;
      y6 = s.y6 -ℤ t.y6;
      xx12 = s.xx12 -ℤ t.xx12;
      xy24 = s.xy24 -ℤ t.xy24;
      yy12 = s.yy12 -ℤ t.yy12;
    }

-- Of two walks that are not refused: the differences of what the call on a whole list answers, and the distances from the points of each to those of the other.
abbrev pub figures_of : List ℤ → List ℤ → Figures
figures_of first second =
    record {
      differences = minus (list_call first).totals (list_call second).totals;
      forward = squared_hausdorff (points first) (points second);
      backward = squared_hausdorff (points second) (points first);
    }

-- With a refusal, all of them are 0.
abbrev pub no_figures : Figures
no_figures = record { differences = zeros; forward = 0; backward = 0 }

pub record FiguresOutcome : Type 0 where
  pub number : ℕ
  pub figures : Figures

unfoldable pub figures_call : List ℤ → List ℤ → FiguresOutcome
figures_call first second = record { number = comparison_number first second; figures = cond (eqb (comparison_number first second) 0) (figures_of first second) no_figures }

-- ---- the part handed back

-- Numbers that one of the two lists begins with: whether that list is the second, and these numbers.
pub record Part : Type 0 where
  pub of_second : Bool
  pub numbers : List ℤ

-- The whole of the walk with more points, of the first where they have as many; with a refusal, the empty start of the first.
unfoldable pub part_of : List ℤ → List ℤ → Part
part_of first second =
    cond (eqb (comparison_number first second) 0)
    (cond (ltb (length (points first)) (length (points second))) (record { of_second = true; numbers = second }) (record { of_second = false; numbers = first }))
    (record { of_second = false; numbers = [] })

-- A list that a caller lends: where it lies, and its numbers.
pub record Lent : Type 0 where
  pub place : ℕ × ℕ
  pub numbers : List ℤ

abbrev pub lent : Bor (List ℤ) → Lent
lent r = record { place = r.ref_ptr; numbers = r.now }

-- The part itself and no copy of it: it lies where the list lies of which it is the start.
unfoldable pub handed_back : Lent → Lent → Lent
handed_back first second =
    let part = part_of first.numbers second.numbers in
    record { place = cond part.of_second second.place first.place; numbers = part.numbers }

-- ---- the whole answer

pub record ComparisonOutcome : Type 0 where
  pub figures : FiguresOutcome
  pub part : Lent

unfoldable pub comparison_call : Lent → Lent → ComparisonOutcome
comparison_call first second = record { figures = figures_call first.numbers second.numbers; part = handed_back first second }
