-- `weighted` adds the six products: every step fits 64 bits, by the bounds of the weights and of the totals.
use mathlib.Core.List.{List, ◌∷◌}
use lib.IntN.{ℤ}
use Rattle.integers.proofs.SignedCode.{code}
use Rattle.integers.proofs.SizedNumbers.{Sized, sized, fits, is_plain}
use Rattle.outline.specs.declared.Totals.{Totals}
use Rattle.outline.specs.EdgeSums.{outline_bounds}
use Rattle.outline.specs.private.Fit.{Fit}
use Rattle.affine.specs.private.Limits.{AtMost}
use Rattle.affine.proofs.Operands.{totals}
use Rattle.affine.proofs.weighted.Goals as goal

-- the six weights before the six totals
abbrev operands : {xx12 yy12 xy24 x6 y6 a2 : ℤ} {t : Totals} → AtMost 8 xx12 → AtMost 8 yy12 → AtMost 8 xy24 → AtMost 32000 x6 → AtMost 32000 y6 → AtMost 48000000 a2 → Fit outline_bounds t → List Sized
operands {xx12} {yy12} {xy24} {x6} {y6} {a2} p q r s u v k = sized xx12 p.size ∷ sized yy12 q.size ∷ sized xy24 r.size ∷ sized x6 s.size ∷ sized y6 u.size ∷ sized a2 v.size ∷ totals k

pub overflow_mul-result : goal.overflow_mul-result
overflow_mul-result c =
    let w = c.requires in
    fits (operands w.at_most w.at_most_2 w.at_most_3 w.at_most_4 w.at_most_5 w.at_most_6 w.fit) (search code depth 60 fits 20000) tt

pub overflow_mul-result-2 : goal.overflow_mul-result-2
overflow_mul-result-2 c =
    let w = c.requires in
    fits (operands w.at_most w.at_most_2 w.at_most_3 w.at_most_4 w.at_most_5 w.at_most_6 w.fit) (search code depth 60 fits 20000) tt

pub overflow_add-result : goal.overflow_add-result
overflow_add-result c =
    let w = c.requires in
    fits (operands w.at_most w.at_most_2 w.at_most_3 w.at_most_4 w.at_most_5 w.at_most_6 w.fit) (search code depth 60 fits 20000) tt

pub overflow_mul-result-3 : goal.overflow_mul-result-3
overflow_mul-result-3 c =
    let w = c.requires in
    fits (operands w.at_most w.at_most_2 w.at_most_3 w.at_most_4 w.at_most_5 w.at_most_6 w.fit) (search code depth 60 fits 20000) tt

pub overflow_add-result-2 : goal.overflow_add-result-2
overflow_add-result-2 c =
    let w = c.requires in
    fits (operands w.at_most w.at_most_2 w.at_most_3 w.at_most_4 w.at_most_5 w.at_most_6 w.fit) (search code depth 60 fits 20000) tt

pub overflow_mul-result-4 : goal.overflow_mul-result-4
overflow_mul-result-4 c =
    let w = c.requires in
    fits (operands w.at_most w.at_most_2 w.at_most_3 w.at_most_4 w.at_most_5 w.at_most_6 w.fit) (search code depth 60 fits 20000) tt

pub overflow_add-result-3 : goal.overflow_add-result-3
overflow_add-result-3 c =
    let w = c.requires in
    fits (operands w.at_most w.at_most_2 w.at_most_3 w.at_most_4 w.at_most_5 w.at_most_6 w.fit) (search code depth 60 fits 20000) tt

pub overflow_mul-result-5 : goal.overflow_mul-result-5
overflow_mul-result-5 c =
    let w = c.requires in
    fits (operands w.at_most w.at_most_2 w.at_most_3 w.at_most_4 w.at_most_5 w.at_most_6 w.fit) (search code depth 60 fits 20000) tt

pub overflow_add-result-4 : goal.overflow_add-result-4
overflow_add-result-4 c =
    let w = c.requires in
    fits (operands w.at_most w.at_most_2 w.at_most_3 w.at_most_4 w.at_most_5 w.at_most_6 w.fit) (search code depth 60 fits 20000) tt

pub overflow_mul-result-6 : goal.overflow_mul-result-6
overflow_mul-result-6 c =
    let w = c.requires in
    fits (operands w.at_most w.at_most_2 w.at_most_3 w.at_most_4 w.at_most_5 w.at_most_6 w.fit) (search code depth 60 fits 20000) tt

pub overflow_add-result-5 : goal.overflow_add-result-5
overflow_add-result-5 c =
    let w = c.requires in
    fits (operands w.at_most w.at_most_2 w.at_most_3 w.at_most_4 w.at_most_5 w.at_most_6 w.fit) (search code depth 60 fits 20000) tt

pub returns : goal.returns
returns c =
    let w = c.requires in
    is_plain (operands w.at_most w.at_most_2 w.at_most_3 w.at_most_4 w.at_most_5 w.at_most_6 w.fit) (search code depth 60 fits 20000) tt
