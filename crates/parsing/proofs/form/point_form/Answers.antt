-- `point_form` reads a tab and x, and hands on what follows.
use Prim.Native.Nat.{◌+◌}
use mathlib.Core.Path.{◌≡◌, ap, ◌∙◌}
use native.Mathlib.Omega.{arith}
use lib.IntN.{ℤ}
use lib.ListN.{drop}
use mir.Syntax.{w32}
use mir.Val.{to_z, of_z}
use Rattle.text_numbers.specs.Numbers.{number}
use Rattle.parsing.specs.ReadForm.{reading}
use Rattle.parsing.specs.private.Parts.{second_form, line_front}
use Rattle.parsing.proofs.Places.{TabNumber, point_no_tab, point-malformed-x, point_rest, size_small}
use borrow.Author.Rules.{rules}
use Rattle.parsing.proofs.form.point_form.Goals as goal

pub returns-then-s-ne9 : goal.returns-then-s-ne9
returns-then-s-ne9 c = point_no_tab c.args.s.now 1 (omega arith) c.if-s-ne9.true

pub returns-in_err-x : goal.returns-in_err-x
returns-in_err-x c = ap reading c.from_residual.ensures ∙ point-malformed-x c.args.s.now 1 (omega arith) c.if-s-ne9.false c.in_err-x.ensures

pub overflow_add-x : goal.overflow_add-x
overflow_add-x c =
    let x : TabNumber c.args.s.now 1 c.in_ok-x.x = record { room = omega arith; tab = c.if-s-ne9.false; number_is = c.in_ok-x.ensures } in
    omega (arith, size_small x)

pub second-requires : goal.second-requires
second-requires c =
    let x : TabNumber c.args.s.now 1 c.in_ok-x.x = record { room = omega arith; tab = c.if-s-ne9.false; number_is = c.in_ok-x.ensures } in
    omega (arith, size_small x)

pub returns : goal.returns
returns c =
    let x : TabNumber c.args.s.now 1 c.in_ok-x.x = record { room = omega arith; tab = c.if-s-ne9.false; number_is = c.in_ok-x.ensures } in
    let n = c.in_ok-x.x in
    let next = 2 + n.size in
    let x-kept : to_z w32 (of_z w32 n.value) ≡ n.value = search rules in
    c.second.ensures ∙ (ap (λ (z : ℤ). line_front (second_form (number z)) (drop next c.args.s.now) next) x-kept ∙ point_rest x)
