-- The edge terms of documents 01 and 02 are those of formula 11 of source 001: written out, the two sides are the same polynomial. So the call's totals are the formula's sums.
use mathlib.Core.Path.{refl, ◌∙◌}
use Rattle.integers.proofs.Ring.{ring, quote}
use Rattle.outline.specs.EdgeSums.{edges, sum_over}
use Rattle.outline.specs.ListCall.{points}
use Rattle.outline.proofs.EdgeSumLaws.{coordinates}
use Rattle.third_order.specs.FormulaEleven.{choose, factorial, power, sum_to, eleven, FormulaEleven, CallByFormula}
use Rattle.third_order.proofs.Accepted.{accepts_only_small}

pub formula_eleven : FormulaEleven
unfolding choose factorial power sum_to eleven
formula_eleven =
    record {
      xxx = record { term = λ a b. ring (coordinates a b) (search quote depth 20) (search quote depth 20) tt; whole = refl };
      xxy = record { term = λ a b. ring (coordinates a b) (search quote depth 20) (search quote depth 20) tt; whole = refl };
      xyy = record { term = λ a b. ring (coordinates a b) (search quote depth 20) (search quote depth 20) tt; whole = refl };
      yyy = record { term = λ a b. ring (coordinates a b) (search quote depth 20) (search quote depth 20) tt; whole = refl };
      area = record { term = λ a b. ring (coordinates a b) (search quote depth 20) (search quote depth 20) tt; whole = refl };
      x = record { term = λ a b. ring (coordinates a b) (search quote depth 20) (search quote depth 20) tt; whole = refl };
      y = record { term = λ a b. ring (coordinates a b) (search quote depth 20) (search quote depth 20) tt; whole = refl };
      xx = record { term = λ a b. ring (coordinates a b) (search quote depth 20) (search quote depth 20) tt; whole = refl };
      xy = record { term = λ a b. ring (coordinates a b) (search quote depth 20) (search quote depth 20) tt; whole = refl };
      yy = record { term = λ a b. ring (coordinates a b) (search quote depth 20) (search quote depth 20) tt; whole = refl };
    }

pub call_by_formula : CallByFormula
call_by_formula zs t taken =
    let es = edges (points zs) in
    (accepts_only_small zs t taken).1
    ∙ (λ i. record {
      xxx20 = sum_over (λ a b. formula_eleven.xxx.term a b i) es;
      xxy60 = sum_over (λ a b. formula_eleven.xxy.term a b i) es;
      xyy60 = sum_over (λ a b. formula_eleven.xyy.term a b i) es;
      yyy20 = sum_over (λ a b. formula_eleven.yyy.term a b i) es;
    })
