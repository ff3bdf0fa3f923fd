-- `decimals::put_number` meets its contract: the text of a number by its magnitude, for either sign.
use mathlib.Core.Path.{◌≡◌, ap, ◌∙◌}
use mathlib.Core.List.{◌∷◌}
use native.Mathlib.Omega.{arith}
use lib.ListN.{length, length-set}
use Rattle.decimals.specs.Decimal.{decimal, signed}
use Rattle.decimals.proofs.BufferLaws.{fits_behind, written_behind}
use Rattle.decimals.proofs.SignLaws.{signed_below, signed_above}
use Rattle.decimals.proofs.put_number.Goals as goal

pub bounds-out-at : goal.bounds-out-at
bounds-out-at c =
    let negative : signed c.args.n ≡ 45 ∷ decimal c.unsigned_abs-m.result = signed_below c.args.n c.ranges.n c.unsigned_abs-m.ensures.value c.if-n-lt0.true in
    omega (arith, ap length negative)

pub up_to_twenty-requires : goal.up_to_twenty-requires
up_to_twenty-requires c =
    let negative : signed c.args.n ≡ 45 ∷ decimal c.unsigned_abs-m.result = signed_below c.args.n c.ranges.n c.unsigned_abs-m.ensures.value c.if-n-lt0.true in
    fits_behind c.args.out.now c.args.at 45 (decimal c.unsigned_abs-m.result) (omega (arith, ap length negative, c.requires))

pub shape_of-out-then-n-lt0 : goal.shape_of-out-then-n-lt0
shape_of-out-then-n-lt0 c = c.up_to_twenty.auto.out ∙ simp length-set

pub returns-then-n-lt0 : goal.returns-then-n-lt0
returns-then-n-lt0 c =
    let negative : signed c.args.n ≡ 45 ∷ decimal c.unsigned_abs-m.result = signed_below c.args.n c.ranges.n c.unsigned_abs-m.ensures.value c.if-n-lt0.true in
    rw negative (written_behind c.args.out.now c.args.at 45 (decimal c.unsigned_abs-m.result) (omega (arith, ap length negative, c.requires)) c.up_to_twenty.ensures)

pub up_to_twenty-requires-2 : goal.up_to_twenty-requires-2
up_to_twenty-requires-2 c =
    let natural : signed c.args.n ≡ decimal c.unsigned_abs-m.result = signed_above c.args.n c.ranges.n c.unsigned_abs-m.ensures.value c.if-n-lt0.false in
    omega (arith, ap length natural, c.requires)

pub returns : goal.returns
returns c =
    let natural : signed c.args.n ≡ decimal c.unsigned_abs-m.result = signed_above c.args.n c.ranges.n c.unsigned_abs-m.ensures.value c.if-n-lt0.false in
    rw natural c.up_to_twenty-2.ensures
