-- `outline_calls::walk::negate` meets its contract: a number of at most 10^18 in size has a negation that fits 64 bits.
use mathlib.Core.Path.{◌≡◌, ◌∙◌}
use mathlib.Core.Bool.{false}
use mathlib.Core.List.{List, [], ◌∷◌}
use lib.IntN.{ℤ, pos, neg_ℤ, ◌-ℤ◌, +ℤ_idl}
use Rattle.integers.proofs.SignedCode.{code}
use Rattle.integers.proofs.SizedNumbers.{Sized, sized, fits, is_plain}
use Rattle.outline.specs.declared.Totals.{Totals}
use Rattle.outline.specs.EdgeSums.{exceed}
use Rattle.outline.specs.MapCall.{total_limits}
use Rattle.outline.proofs.Limits.{exceed_fit}
use Rattle.outline.proofs.TotalsLaws.{totals_equal}
use Rattle.outline_calls.proofs.walk.negate.Goals as goal

abbrev operands : (t : Totals) → exceed total_limits t ≡ false → List Sized
operands t e =
    let small = exceed_fit total_limits t e in
    sized t.a2 small.a2 ∷ sized t.x6 small.x6 ∷ sized t.y6 small.y6 ∷ sized t.xx12 small.xx12 ∷ sized t.xy24 small.xy24 ∷ sized t.yy12 small.yy12 ∷ []

-- What the code makes of a number z, 0 less z, is its negation.
opposite : {r : ℤ} (z : ℤ) → r ≡ pos 0 -ℤ z → r ≡ neg_ℤ z
opposite z e = e ∙ +ℤ_idl (neg_ℤ z)

pub overflow_sub-result : goal.overflow_sub-result
overflow_sub-result c = fits (operands c.args.t c.requires) (search code depth 40) tt

pub overflow_sub-result-2 : goal.overflow_sub-result-2
overflow_sub-result-2 c = fits (operands c.args.t c.requires) (search code depth 40) tt

pub overflow_sub-result-3 : goal.overflow_sub-result-3
overflow_sub-result-3 c = fits (operands c.args.t c.requires) (search code depth 40) tt

pub overflow_sub-result-4 : goal.overflow_sub-result-4
overflow_sub-result-4 c = fits (operands c.args.t c.requires) (search code depth 40) tt

pub overflow_sub-result-5 : goal.overflow_sub-result-5
overflow_sub-result-5 c = fits (operands c.args.t c.requires) (search code depth 40) tt

pub overflow_sub-result-6 : goal.overflow_sub-result-6
overflow_sub-result-6 c = fits (operands c.args.t c.requires) (search code depth 40) tt

pub returns : goal.returns
returns c =
    let t = c.args.t in
    totals_equal
    (opposite t.a2 (is_plain (operands t c.requires) (search code depth 40) tt))
    (opposite t.x6 (is_plain (operands t c.requires) (search code depth 40) tt))
    (opposite t.y6 (is_plain (operands t c.requires) (search code depth 40) tt))
    (opposite t.xx12 (is_plain (operands t c.requires) (search code depth 40) tt))
    (opposite t.xy24 (is_plain (operands t c.requires) (search code depth 40) tt))
    (opposite t.yy12 (is_plain (operands t c.requires) (search code depth 40) tt))
