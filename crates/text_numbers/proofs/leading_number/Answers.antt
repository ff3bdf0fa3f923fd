-- `leading_number` gives the digits their sign.
use Prim.Native.Nat.{◌+◌}
use mathlib.Core.Path.{ap, ◌∙◌}
use mathlib.Core.List.{[], ◌∷◌}
use native.Mathlib.Omega.{arith}
use lib.IntN.{ℤ}
use mir.Val.{bool_byte}
use Rattle.std.specs.Prelude.{Some}
use Rattle.text_numbers.proofs.Signs.{sign_read, minus_small}
use Rattle.text_numbers.proofs.SignedDigits.{fits, none, some}
use Rattle.text_numbers.proofs.leading_number.Goals as goal

pub returns-in_err-n : goal.returns-in_err-n
returns-in_err-n c = c.from_residual.ensures ∙ none c.args.minus (c.args.a ∷ c.args.b ∷ c.args.c ∷ c.args.d ∷ []) c.in_err-n.ensures

pub signed-requires : goal.signed-requires
signed-requires c = (fits c.args.minus (c.args.a ∷ c.args.b ∷ c.args.c ∷ c.args.d ∷ []) c.in_ok-n.n c.in_ok-n.ensures).value_small

pub overflow_add-result : goal.overflow_add-result
overflow_add-result c = omega (arith, minus_small c.args.minus, (fits c.args.minus (c.args.a ∷ c.args.b ∷ c.args.c ∷ c.args.d ∷ []) c.in_ok-n.n c.in_ok-n.ensures).size_small)

pub returns : goal.returns
returns c =
    let bs = c.args.a ∷ c.args.b ∷ c.args.c ∷ c.args.d ∷ [] in
    let n = c.in_ok-n.n in
    let held = sign_read c.args.minus n.value (fits c.args.minus bs n c.in_ok-n.ensures).value_small c.signed.result c.signed.ensures in
    ap (λ (z : ℤ). Some (record { value = z; size = bool_byte c.args.minus + n.size })) held ∙ some c.args.minus bs n c.in_ok-n.ensures
