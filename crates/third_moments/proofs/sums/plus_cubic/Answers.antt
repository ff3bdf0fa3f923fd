-- `third_moments::sums::plus_cubic` meets its contract: each step fits 64 bits, a computed test, and the factored bracket is the bracket.
use mathlib.Core.Path.{◌≡◌, ◌∙◌}
use mathlib.Core.Bool.{false}
use mathlib.Core.List.{List, [], ◌∷◌}
use lib.IntN.{ℤ}
use Rattle.integers.proofs.Ring.{ring, quote}
use Rattle.integers.proofs.SignedCode.{code}
use Rattle.integers.proofs.SizedNumbers.{Sized, numbers, fits, is_plain}
use Rattle.outline.specs.EdgeSums.{over}
use Rattle.outline.proofs.Limits.{tested}
use Rattle.third_moments.specs.declared.sums.Span.{Span}
use Rattle.third_moments.proofs.sums.plus_cubic.Goals as goal

abbrev operands : (sum : ℤ) → Span → (c : ℤ) → over 256000000000000000 sum ≡ false → over 500000 c ≡ false → List Sized
operands sum x c sum_small c_small =
    tested 256000000000000000 sum sum_small ∷ tested 500 x.from x.from_inside ∷ tested 500 x.to x.to_inside ∷ tested 500000 c c_small ∷ []

pub overflow_add-result : goal.overflow_add-result
overflow_add-result c = fits (operands c.args.sum c.args.x c.args.c c.requires.sum_value c.requires.c_value) (search code depth 40) tt

pub overflow_mul-result : goal.overflow_mul-result
overflow_mul-result c = fits (operands c.args.sum c.args.x c.args.c c.requires.sum_value c.requires.c_value) (search code depth 40) tt

pub overflow_mul-result-2 : goal.overflow_mul-result-2
overflow_mul-result-2 c = fits (operands c.args.sum c.args.x c.args.c c.requires.sum_value c.requires.c_value) (search code depth 40) tt

pub overflow_add-result-2 : goal.overflow_add-result-2
overflow_add-result-2 c = fits (operands c.args.sum c.args.x c.args.c c.requires.sum_value c.requires.c_value) (search code depth 40) tt

pub overflow_mul-result-3 : goal.overflow_mul-result-3
overflow_mul-result-3 c = fits (operands c.args.sum c.args.x c.args.c c.requires.sum_value c.requires.c_value) (search code depth 40) tt

pub overflow_mul-result-4 : goal.overflow_mul-result-4
overflow_mul-result-4 c = fits (operands c.args.sum c.args.x c.args.c c.requires.sum_value c.requires.c_value) (search code depth 40) tt

pub overflow_add-result-3 : goal.overflow_add-result-3
overflow_add-result-3 c = fits (operands c.args.sum c.args.x c.args.c c.requires.sum_value c.requires.c_value) (search code depth 40) tt

pub returns : goal.returns
returns c =
    let l = operands c.args.sum c.args.x c.args.c c.requires.sum_value c.requires.c_value in
    is_plain l (search code depth 40) tt ∙ ring (numbers l) (search quote depth 20) (search quote depth 20) tt
