-- `third_moments::sums::sum_edges` meets its contract. The invariant: the open edges of the first k points are summed.
use mathlib.Core.Path.{refl}
use Rattle.outline.specs.ListCall.{points as points_of}
use Rattle.outline.proofs.EdgeSteps.{Summed}
use Rattle.third_order.specs.ThirdTerms.{four, plus_thirds}
use Rattle.third_moments.proofs.sums.sum_edges.Given as goal

abbrev pub invariant-loop-k : goal.invariant-loop-k
invariant-loop-k l = Summed four plus_thirds (λ f g. refl) (points_of l.points) l.sum l.k
