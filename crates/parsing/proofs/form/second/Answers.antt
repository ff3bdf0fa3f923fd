-- `second` reads a tab, y and a newline: each return is a law of the line after x.
use mathlib.Core.Path.{◌≡◌, ap, ◌∙◌}
use native.Mathlib.Omega.{arith}
use mir.Syntax.{w32}
use mir.Val.{to_z, of_z}
use Rattle.text_numbers.specs.Numbers.{number}
use Rattle.parsing.specs.ReadForm.{reading}
use Rattle.parsing.proofs.Places.{TabNumber, second_no_tab, second-malformed, second_goes_on, second-ends, size_small}
use borrow.Author.Rules.{rules}
use Rattle.parsing.proofs.form.second.Goals as goal

pub returns-then-s-at-ne9 : goal.returns-then-s-at-ne9
returns-then-s-at-ne9 c = second_no_tab c.args.s.now c.args.at (number c.args.x) (omega arith) c.if-s-at-ne9.true

pub returns-in_err-y : goal.returns-in_err-y
returns-in_err-y c = ap reading c.from_residual.ensures ∙ second-malformed c.args.s.now c.args.at c.requires c.if-s-at-ne9.false (number c.args.x) c.in_err-y.ensures

pub overflow_add-end-2 : goal.overflow_add-end-2
overflow_add-end-2 c =
    let y : TabNumber c.args.s.now c.args.at c.in_ok-y.y = record { room = c.requires; tab = c.if-s-at-ne9.false; number_is = c.in_ok-y.ensures } in
    omega (arith, size_small y)

pub bounds-s-end : goal.bounds-s-end
bounds-s-end c =
    let y : TabNumber c.args.s.now c.args.at c.in_ok-y.y = record { room = c.requires; tab = c.if-s-at-ne9.false; number_is = c.in_ok-y.ensures } in
    omega (arith, size_small y)

pub returns-then-s-end-ne10 : goal.returns-then-s-end-ne10
returns-then-s-end-ne10 c =
    let y : TabNumber c.args.s.now c.args.at c.in_ok-y.y = record { room = c.requires; tab = c.if-s-at-ne9.false; number_is = c.in_ok-y.ensures } in
    second_goes_on y (number c.args.x) c.if-s-end-ne10.true

pub returns : goal.returns
returns c =
    let y : TabNumber c.args.s.now c.args.at c.in_ok-y.y = record { room = c.requires; tab = c.if-s-at-ne9.false; number_is = c.in_ok-y.ensures } in
    let n = c.in_ok-y.y in
    let x_kept : to_z w32 (of_z w32 c.args.x) ≡ c.args.x = search rules in
    let y_kept : to_z w32 (of_z w32 n.value) ≡ n.value = search rules in
    rw (x_kept, y_kept) (second-ends y c.args.x c.if-s-end-ne10.false)
