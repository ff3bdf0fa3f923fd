-- Document 02, CR 5: what the two distances of a call mean.
use mathlib.Core.Path.{subst, sym}
use Rattle.outline.specs.ListCall.{points}
use Rattle.two_walks.specs.Comparison.{figures_of}
use Rattle.two_walks.specs.ComparisonLaws.{DistancesMean, CallDistances}
use Rattle.two_walks.proofs.FarthestOff.{distance_means, zero_distance}
use Rattle.two_walks.proofs.Refusals.{taken, some_points, compared}

pub call_distances : CallDistances
call_distances first second e =
    let both = (taken first second).0 e in
    let some-first = some_points first both.0 in
    let some-second = some_points second both.1 in
    let mean : DistancesMean first second (figures_of first second) =
    record {
      forward = distance_means (points first) some-first (points second) some-second;
      backward = distance_means (points second) some-second (points first) some-first;
      forward_zero = zero_distance (points first) (points second) some-second;
      backward_zero = zero_distance (points second) (points first) some-first;
    }
    in
    subst (DistancesMean first second) (sym (compared first second e)) mean
