-- `product` tests d × v by the laws of `ProductTest`, and makes the product only where it fits.
use mathlib.Core.Path.{◌≡◌, refl, sym, ◌∙◌, ap, subst}
use lib.IntN.{ℤ, pos, ◌*ℤ◌, zero-*ℤ}
use mir.Syntax.{w64}
use mir.Val.{SFits, of_z}
use mir.Facts.{to_z-of_z, sfits_lit}
use Rattle.std.specs.Prelude.{Some}
use Rattle.integers.proofs.SignedCode.{bits_equal}
use Rattle.integers.proofs.Flags.{of_field}
use Rattle.integers.proofs.SizedNumbers.{i64}
use Rattle.outline.specs.EdgeSums.{over}
use Rattle.outline.specs.MapCall.{total_limit}
use Rattle.affine.proofs.Fields.{product_read}
use Rattle.affine.proofs.ProductTest.{zero_not_over, over_times, product_fits}
use Rattle.affine.proofs.product.Goals.{Else-over_limit}
use Rattle.affine.proofs.product.Goals as goal

pub returns-then-d-eq0 : goal.returns-then-d-eq0
returns-then-d-eq0 c =
    let none : c.args.d ≡ pos 0 = bits_equal w64 c.args.d (pos 0) c.ranges.d (sfits_lit tt) c.if-d-eq0.true in
    rw (zero_not_over total_limit c.args.v none) (ap (λ (z : ℤ). Some z) (sym (ap (λ d. d *ℤ c.args.v) none ∙ zero-*ℤ c.args.v)))

pub returns-then-over_limit : goal.returns-then-over_limit
returns-then-over_limit c =
    let over_it = over_times total_limit c.args.d c.args.v (λ e. c.if-d-eq0.false (ap (of_z w64) e)) (sym (of_field (over _) _ c.over_limit.ensures (to_z-of_z c.ranges.v)) ∙ c.if-over_limit.true) in
    rw over_it refl

fits : (c : Else-over_limit) → SFits w64 (i64 c.args.d *ℤ i64 c.args.v)
fits c = subst (SFits w64) (sym (product_read c.ranges.d c.ranges.v)) (product_fits c.args.d c.args.v c.requires (sym (of_field (over _) _ c.over_limit.ensures (to_z-of_z c.ranges.v)) ∙ c.if-over_limit.false))

pub overflow_mul-product : goal.overflow_mul-product
overflow_mul-product c = fits c

pub returns-then-over_limit-2 : goal.returns-then-over_limit-2
returns-then-over_limit-2 c =
    let test = of_field (over total_limit) _ c.over_limit-2.ensures (to_z-of_z (fits c.before.before) ∙ product_read c.ranges.d c.ranges.v) in
    rw (sym test ∙ c.if-over_limit-2.true) refl

pub returns : goal.returns
returns c =
    let made = to_z-of_z (fits c.before.before) ∙ product_read c.ranges.d c.ranges.v in
    let test = of_field (over total_limit) _ c.over_limit-2.ensures made in
    rw (sym test ∙ c.if-over_limit-2.false) (ap (λ (z : ℤ). Some z) made)
