-- Document 02, CR 5: how large the figures get.
use mathlib.Core.Path.{◌≡◌, subst, sym}
use mathlib.Core.List.{List}
use native.Mathlib.Omega.{arith}
use lib.IntN.{ℤ}
use Rattle.outline.specs.EdgeSums.{outline_bounds}
use Rattle.outline.specs.ListCall.{points, list_call}
use Rattle.outline.proofs.Limits.{accepted_fit}
use Rattle.two_walks.specs.Comparison.{comparison_number, figures_of, no_figures}
use Rattle.two_walks.specs.ComparisonLaws.{SmallFigures, FigureSizes}
use Rattle.two_walks.proofs.Distances.{difference_size}
use Rattle.two_walks.proofs.FarthestOff.{hausdorff_size}
use Rattle.two_walks.proofs.Refusals.{by_number, taken, taken_as, taken-outline, some_points, compared, not_compared_lem}

zeros_small : SmallFigures no_figures
zeros_small = omega arith

compared_small : (first second : List ℤ) → comparison_number first second ≡ 0 → SmallFigures (figures_of first second)
compared_small first second e =
    let both = (taken first second).0 e in
    let s = (list_call first).totals in
    let t = (list_call second).totals in
    let s-fits = accepted_fit first s (taken_as first both.0) in
    let t-fits = accepted_fit second t (taken_as second both.1) in
    let inside-first = (taken-outline first both.0).outline.inside in
    let inside-second = (taken-outline second both.1).outline.inside in
    record {
      a2 = difference_size s.a2 t.a2 outline_bounds.a2 s-fits.a2 t-fits.a2;
      x6 = difference_size s.x6 t.x6 outline_bounds.x6 s-fits.x6 t-fits.x6;
      y6 = difference_size s.y6 t.y6 outline_bounds.y6 s-fits.y6 t-fits.y6;
      xx12 = difference_size s.xx12 t.xx12 outline_bounds.xx12 s-fits.xx12 t-fits.xx12;
      xy24 = difference_size s.xy24 t.xy24 outline_bounds.xy24 s-fits.xy24 t-fits.xy24;
      yy12 = difference_size s.yy12 t.yy12 outline_bounds.yy12 s-fits.yy12 t-fits.yy12;
      forward = hausdorff_size (points first) (points second) inside-first inside-second (some_points second both.1);
      backward = hausdorff_size (points second) (points first) inside-second inside-first (some_points first both.0);
    }

pub figure_sizes : FigureSizes
figure_sizes first second =
    by_number (comparison_number first second)
    (λ e. subst SmallFigures (sym (compared first second e)) (compared_small first second e))
    (λ n. subst SmallFigures (sym (not_compared_lem first second n)) zeros_small)
