-- `comparison::distances::squared_distance` meets its contract. The four coordinates are at most 2,000 in size, so every step fits 32 bits: a computed test.
use mathlib.Core.Path.{◌≡◌, ◌∙◌}
use mathlib.Core.Bool.{false}
use mathlib.Core.List.{List, [], ◌∷◌}
use Rattle.integers.proofs.SignedCode.{code}
use Rattle.integers.proofs.SizedNumbers.{Sized, sized, fits, is_plain}
use Rattle.outline.specs.declared.Position.{Position}
use Rattle.outline.specs.ListCall.{outside}
use Rattle.outline.proofs.Limits.{beyond_not}
use Rattle.comparison.proofs.DistanceSteps.{distance_is}
use Rattle.comparison.proofs.distances.squared_distance.Goals as goal

abbrev operands : (p q : Position) → outside p ≡ false → outside q ≡ false → List Sized
operands p q inside_p inside_q =
    let from = beyond_not p inside_p in
    let to = beyond_not q inside_q in
    sized p.x from.0 ∷ sized p.y from.1 ∷ sized q.x to.0 ∷ sized q.y to.1 ∷ []

pub overflow_sub-dx : goal.overflow_sub-dx
overflow_sub-dx c = fits (operands c.args.p c.args.q c.requires.p_value c.requires.q_value) (search code depth 40) tt

pub overflow_sub-dy : goal.overflow_sub-dy
overflow_sub-dy c = fits (operands c.args.p c.args.q c.requires.p_value c.requires.q_value) (search code depth 40) tt

pub overflow_mul-result : goal.overflow_mul-result
overflow_mul-result c = fits (operands c.args.p c.args.q c.requires.p_value c.requires.q_value) (search code depth 40) tt

pub overflow_mul-result-2 : goal.overflow_mul-result-2
overflow_mul-result-2 c = fits (operands c.args.p c.args.q c.requires.p_value c.requires.q_value) (search code depth 40) tt

pub overflow_add-result : goal.overflow_add-result
overflow_add-result c = fits (operands c.args.p c.args.q c.requires.p_value c.requires.q_value) (search code depth 40) tt

pub returns : goal.returns
returns c = is_plain (operands c.args.p c.args.q c.requires.p_value c.requires.q_value) (search code depth 40) tt ∙ distance_is c.args.p c.args.q
