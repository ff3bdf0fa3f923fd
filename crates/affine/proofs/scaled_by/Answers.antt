-- `scaled_by` meets its contract: the first product that is not there is over its limit, and six that are there are the products.
use mathlib.Core.Path.{◌≡◌, refl, ◌∙◌}
use mathlib.Core.Bool.{true, false}
use borrow.Author.Rules.{rules}
use Rattle.std.specs.Prelude.{Some}
use Rattle.integers.proofs.Flags.{any_of_six}
use Rattle.outline.specs.EdgeSums.{exceed}
use Rattle.outline.specs.MapCall.{scaled, total_limits}
use Rattle.limits.proofs.Fields.{TotalsFit}
use Rattle.affine.proofs.ProductTest.{missing, given}
use Rattle.affine.proofs.scaled_by.Goals as goal

pub returns-in_err-product : goal.returns-in_err-product
unfolding exceed
returns-in_err-product c =
    let k : TotalsFit c.args.s = search rules in
    let d = c.ranges.d in
    let some : exceed total_limits (scaled c.args.d c.args.s) ≡ true = any_of_six (missing d k.a2 c.product.ensures c.in_err-product.was) refl refl refl refl refl in
    c.from_residual.ensures ∙ rw some

pub returns-in_err-product-2 : goal.returns-in_err-product-2
unfolding exceed
returns-in_err-product-2 c =
    let k : TotalsFit c.args.s = search rules in
    let d = c.ranges.d in
    let some : exceed total_limits (scaled c.args.d c.args.s) ≡ true = any_of_six (given d k.a2 c.product.ensures c.in_ok-product.was).0 (missing d k.x6 c.product-2.ensures c.in_err-product-2.was) refl refl refl refl in
    c.from_residual-in_err-product-2.ensures ∙ rw some

pub returns-in_err-product-3 : goal.returns-in_err-product-3
unfolding exceed
returns-in_err-product-3 c =
    let k : TotalsFit c.args.s = search rules in
    let d = c.ranges.d in
    let some : exceed total_limits (scaled c.args.d c.args.s) ≡ true = any_of_six (given d k.a2 c.product.ensures c.in_ok-product.was).0 (given d k.x6 c.product-2.ensures c.in_ok-product-2.was).0 (missing d k.y6 c.product-3.ensures c.in_err-product-3.was) refl refl refl in
    c.from_residual-in_err-product-3.ensures ∙ rw some

pub returns-in_err-product-4 : goal.returns-in_err-product-4
unfolding exceed
returns-in_err-product-4 c =
    let k : TotalsFit c.args.s = search rules in
    let d = c.ranges.d in
    let some : exceed total_limits (scaled c.args.d c.args.s) ≡ true = any_of_six (given d k.a2 c.product.ensures c.in_ok-product.was).0 (given d k.x6 c.product-2.ensures c.in_ok-product-2.was).0 (given d k.y6 c.product-3.ensures c.in_ok-product-3.was).0 (missing d k.xx12 c.product-4.ensures c.in_err-product-4.was) refl refl in
    c.from_residual-in_err-product-4.ensures ∙ rw some

pub returns-in_err-product-5 : goal.returns-in_err-product-5
unfolding exceed
returns-in_err-product-5 c =
    let k : TotalsFit c.args.s = search rules in
    let d = c.ranges.d in
    let some : exceed total_limits (scaled c.args.d c.args.s) ≡ true = any_of_six (given d k.a2 c.product.ensures c.in_ok-product.was).0 (given d k.x6 c.product-2.ensures c.in_ok-product-2.was).0 (given d k.y6 c.product-3.ensures c.in_ok-product-3.was).0 (given d k.xx12 c.product-4.ensures c.in_ok-product-4.was).0 (missing d k.xy24 c.product-5.ensures c.in_err-product-5.was) refl in
    c.from_residual-in_err-product-5.ensures ∙ rw some

pub returns-in_err-product-6 : goal.returns-in_err-product-6
unfolding exceed
returns-in_err-product-6 c =
    let k : TotalsFit c.args.s = search rules in
    let d = c.ranges.d in
    let some : exceed total_limits (scaled c.args.d c.args.s) ≡ true = any_of_six (given d k.a2 c.product.ensures c.in_ok-product.was).0 (given d k.x6 c.product-2.ensures c.in_ok-product-2.was).0 (given d k.y6 c.product-3.ensures c.in_ok-product-3.was).0 (given d k.xx12 c.product-4.ensures c.in_ok-product-4.was).0 (given d k.xy24 c.product-5.ensures c.in_ok-product-5.was).0 (missing d k.yy12 c.product-6.ensures c.in_err-product-6.was) in
    c.from_residual-in_err-product-6.ensures ∙ rw some

pub returns : goal.returns
unfolding exceed
returns c =
    let k : TotalsFit c.args.s = search rules in
    let d = c.ranges.d in
    let a2 = given d k.a2 c.product.ensures c.in_ok-product.was in
    let x6 = given d k.x6 c.product-2.ensures c.in_ok-product-2.was in
    let y6 = given d k.y6 c.product-3.ensures c.in_ok-product-3.was in
    let xx12 = given d k.xx12 c.product-4.ensures c.in_ok-product-4.was in
    let xy24 = given d k.xy24 c.product-5.ensures c.in_ok-product-5.was in
    let yy12 = given d k.yy12 c.product-6.ensures c.in_ok-product-6.was in
    let none : exceed total_limits (scaled c.args.d c.args.s) ≡ false = any_of_six a2.0 x6.0 y6.0 xx12.0 xy24.0 yy12.0 in
    rw none (λ i. Some (record { a2 = a2.1 i; x6 = x6.1 i; y6 = y6.1 i; xx12 = xx12.1 i; xy24 = xy24.1 i; yy12 = yy12.1 i }))
