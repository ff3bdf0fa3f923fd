-- Document 02, CR 5: a list beside itself gives zeros, and is handed back whole.
use mathlib.Core.Path.{◌≡◌, ◌∙◌}
use mathlib.Core.List.{List}
use native.Mathlib.Nat.{le_refl}
use lib.IntN.{ℤ, +ℤ_invr}
use lib.ListN.{length}
use Rattle.outline.specs.declared.Totals.{Totals}
use Rattle.outline.specs.EdgeSums.{zeros}
use Rattle.outline.specs.ListCall.{points, list_call}
use Rattle.two_walks.specs.Distances.{squared_hausdorff}
use Rattle.two_walks.specs.Comparison.{comparison_number, minus, figures_of, no_figures}
use Rattle.two_walks.specs.ComparisonLaws.{WalkWithItself}
use Rattle.two_walks.proofs.FarthestOff.{zero_distance}
use Rattle.two_walks.proofs.Refusals.{by_number, taken, some_points, compared, not_compared_lem, refused_walks}
use Rattle.two_walks.proofs.Parts.{first-longer}

minus_itself : (t : Totals) → minus t t ≡ zeros
minus_itself t = simp +ℤ_invr

no_distance : (walk : List ℤ) → (list_call walk).number ≡ 0 → squared_hausdorff (points walk) (points walk) ≡ 0
no_distance walk e = (zero_distance (points walk) (points walk) (some_points walk e)).1 (λ p m. m)

no_figures_lem : (walk : List ℤ) → (list_call walk).number ≡ 0 → figures_of walk walk ≡ no_figures
no_figures_lem walk e = rw (minus_itself (list_call walk).totals, no_distance walk e)

itself_taken : (walk : List ℤ) → (list_call walk).number ≡ 0 → comparison_number walk walk ≡ 0
itself_taken walk e = (taken walk walk).1 (e, e)

pub walk_with_itself : WalkWithItself
walk_with_itself walk =
    let r = refused_walks walk walk in
    record {
      number = by_number (list_call walk).number (λ e. r.by_second e) (λ n. r.by_first n);
      figures = by_number (list_call walk).number
          (λ e. compared walk walk (itself_taken walk e) ∙ no_figures_lem walk e)
          (λ n. not_compared_lem walk walk (λ e. n ((taken walk walk).0 e).0));
      part = λ e. first-longer walk walk (itself_taken walk e) (le_refl (length (points walk)));
    }
