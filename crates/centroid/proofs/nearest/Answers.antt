-- `centroid::nearest` meets its contract: every step fits by the bounds, and (2n + d) / 2d rounded down is the quotient rounded.
use mathlib.Core.Path.{◌≡◌, ◌∙◌}
use mathlib.Core.List.{List, [], ◌∷◌}
use lib.IntN.{pos, ◌+ℤ◌, ◌*ℤ◌}
use Rattle.std.specs.Int.{int_div_euclid}
use Rattle.integers.proofs.SignedCode.{code}
use Rattle.integers.proofs.SizedNumbers.{i64, Sized, sized, is_plain, called}
use Rattle.integers.proofs.HalfUp.{euclid_rounds}
use Rattle.centroid.proofs.nearest.Goals.{Start}
use Rattle.centroid.proofs.nearest.Goals as goal

abbrev operands : Start → List Sized
operands s = sized s.args.n s.requires.dividend ∷ sized s.args.d s.requires.divisor ∷ []

pub returns : goal.returns
returns c =
    let s = c.before in
    let n = s.args.n in
    let d = s.args.d in
    let dividend : i64 (i64 (pos 2 *ℤ i64 n) +ℤ i64 d) ≡ pos 2 *ℤ n +ℤ d = is_plain (operands s) (search code depth 40) tt in
    let divisor : i64 (pos 2 *ℤ i64 d) ≡ pos 2 *ℤ d = is_plain (operands s) (search code depth 40) tt in
    called ((λ i. int_div_euclid (dividend i) (divisor i)) ∙ euclid_rounds n d s.requires.above) c.div_euclid.type_inv c.div_euclid.ensures
