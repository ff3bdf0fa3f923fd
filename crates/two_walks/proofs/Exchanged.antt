-- Document 02, CR 5: two lists exchanged give the negated differences and the exchanged distances.
use mathlib.Core.Path.{◌≡◌, refl, sym, ◌∙◌, ap}
use mathlib.Core.Bool.{Bool, true, false, not}
use mathlib.Core.List.{List}
use mathlib.Core.Logic.{◌≢◌}
use native.Mathlib.Omega.{arith}
use lib.Dec.{ltb}
use lib.IntN.{ℤ}
use lib.ListN.{length}
use borrow.Author.Tests.{ltb-true, ltb-false}
use Rattle.outline.specs.declared.Totals.{Totals}
use Rattle.outline.specs.EdgeSums.{negated}
use Rattle.outline.specs.ListCall.{points, list_call}
use Rattle.outline.proofs.TotalsLaws.{totals_equal}
use Rattle.two_walks.specs.declared.Figures.{Figures}
use Rattle.two_walks.specs.Distances.{squared_hausdorff}
use Rattle.two_walks.specs.Comparison.{comparison_number, minus, figures_of, figures_call, Part, part_of}
use Rattle.two_walks.specs.ComparisonLaws.{ExchangedWalks}
use Rattle.two_walks.proofs.Distances.{difference_exchanged}
use Rattle.two_walks.proofs.Refusals.{by_number, taken, compared, not_compared_lem}
use Rattle.two_walks.proofs.Parts.{second-longer, first-longer}

-- ---- the figures

minus_exchanged : (s t : Totals) → minus t s ≡ negated (minus s t)
minus_exchanged s t =
    totals_equal
    (difference_exchanged s.a2 t.a2)
    (difference_exchanged s.x6 t.x6)
    (difference_exchanged s.y6 t.y6)
    (difference_exchanged s.xx12 t.xx12)
    (difference_exchanged s.xy24 t.xy24)
    (difference_exchanged s.yy12 t.yy12)

-- The figures with the two lists in the other order.
abbrev turned_round : Figures → Figures
turned_round f = record { differences = negated f.differences; forward = f.backward; backward = f.forward }

exchanged_taken : (first second : List ℤ) → comparison_number first second ≡ 0 → comparison_number second first ≡ 0
exchanged_taken first second e = let both = (taken first second).0 e in (taken second first).1 (both.1, both.0)

exchanged_figures : (first second : List ℤ) → (figures_call second first).figures ≡ turned_round (figures_call first second).figures
exchanged_figures first second =
    by_number (comparison_number first second)
    (λ e.
    let turned : figures_of second first ≡ turned_round (figures_of first second) = ap (λ d. record { differences = d; forward = squared_hausdorff (points second) (points first); backward = squared_hausdorff (points first) (points second) }) (minus_exchanged (list_call first).totals (list_call second).totals) in
    compared second first (exchanged_taken first second e) ∙ turned ∙ ap turned_round (sym (compared first second e)))
    (λ n. not_compared_lem second first (λ e. n (exchanged_taken second first e)) ∙ ap turned_round (sym (not_compared_lem first second n)))

-- ---- the part

-- The same part, which is of the second where it was of the first.
abbrev of_other : Part → Part
of_other p = record { of_second = not p.of_second; numbers = p.numbers }

exchanged_part : (first second : List ℤ) → comparison_number first second ≡ 0 → length (points first) ≢ length (points second) → part_of second first ≡ of_other (part_of first second)
exchanged_part first second e n = go (ltb (length (points first)) (length (points second))) refl
  where
    back : comparison_number second first ≡ 0
    back = exchanged_taken first second e

    go : (b : Bool) → ltb (length (points first)) (length (points second)) ≡ b → part_of second first ≡ of_other (part_of first second)
    go true t = let less = ltb-true (length (points first)) (length (points second)) t in first-longer second first back (omega arith) ∙ ap of_other (sym (second-longer first second e less))
    go false t = let least = ltb-false (length (points first)) (length (points second)) t in second-longer second first back (omega arith) ∙ ap of_other (sym (first-longer first second e least))

pub exchanged_walks : ExchangedWalks
exchanged_walks first second =
    record {
      refused = (exchanged_taken second first, exchanged_taken first second);
      differences = ap (λ (f : Figures). f.differences) (exchanged_figures first second);
      forward = ap (λ (f : Figures). f.forward) (exchanged_figures first second);
      backward = ap (λ (f : Figures). f.backward) (exchanged_figures first second);
      same_part = exchanged_part first second;
      tie = λ e l. first-longer first second e (omega arith);
      tie_exchanged = λ e l. first-longer second first (exchanged_taken first second e) (omega arith);
    }
