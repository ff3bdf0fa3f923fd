-- `third_moments::sums::add_edge` meets its contract. The four coordinates are at most 500 in size, so every step fits 64 bits: a computed test.
use mathlib.Core.Path.{◌≡◌}
use mathlib.Core.Bool.{false}
use mathlib.Core.List.{List, [], ◌∷◌}
use Rattle.integers.proofs.SignedCode.{code}
use Rattle.integers.proofs.SizedNumbers.{called, Sized, sized, fits, is_plain}
use Rattle.outline.specs.declared.Position.{Position}
use Rattle.outline.specs.ListCall.{beyond}
use Rattle.outline.proofs.Limits.{never_over, beyond_not}
use Rattle.third_order.specs.declared.ThirdTotals.{ThirdTotals}
use Rattle.third_order.specs.ThirdLaws.{SmallThirds}
use Rattle.third_order.proofs.OddThirds.{thirds_equal}
use Rattle.third_moments.proofs.sums.add_edge.Goals as goal

-- What the function is given, each number with its bound.
abbrev operands : (sum : ThirdTotals) (a b : Position) → SmallThirds sum → beyond 500 a ≡ false → beyond 500 b ≡ false → List Sized
operands sum a b small a_near b_near =
    let from = beyond_not a a_near in
    let to = beyond_not b b_near in
    sized a.x from.0
    ∷ sized a.y from.1
    ∷ sized b.x to.0
    ∷ sized b.y to.1
    ∷ sized sum.xxx20 small.xxx20
    ∷ sized sum.xxy60 small.xxy60
    ∷ sized sum.xyy60 small.xyy60
    ∷ sized sum.yyy20 small.yyy20
    ∷ []

pub overflow_sub-c : goal.overflow_sub-c
overflow_sub-c c = fits (operands c.args.sum c.args.a c.args.b c.requires.small_thirds c.requires.a_value c.requires.b_value) (search code depth 40) tt

pub invariant_of-x : goal.invariant_of-x
invariant_of-x c =
    let l = operands c.args.sum c.args.a c.args.b c.requires.small_thirds c.requires.a_value c.requires.b_value in
    record { from_inside = never_over l 500 (search code depth 40) tt; to_inside = never_over l 500 (search code depth 40) tt }

pub invariant_of-y : goal.invariant_of-y
invariant_of-y c =
    let l = operands c.args.sum c.args.a c.args.b c.requires.small_thirds c.requires.a_value c.requires.b_value in
    record { from_inside = never_over l 500 (search code depth 40) tt; to_inside = never_over l 500 (search code depth 40) tt }

pub plus_cubic-requires : goal.plus_cubic-requires
plus_cubic-requires c =
    let l = operands c.args.sum c.args.a c.args.b c.requires.small_thirds c.requires.a_value c.requires.b_value in
    record { sum_value = never_over l 256000000000000000 (search code depth 40) tt; c_value = never_over l 500000 (search code depth 40) tt }

pub plus_mixed-requires : goal.plus_mixed-requires
plus_mixed-requires c =
    let l = operands c.args.sum c.args.a c.args.b c.requires.small_thirds c.requires.a_value c.requires.b_value in
    record { sum_value = never_over l 768000000000000000 (search code depth 40) tt; c_value = never_over l 500000 (search code depth 40) tt }

pub plus_mixed-requires-2 : goal.plus_mixed-requires-2
plus_mixed-requires-2 c =
    let l = operands c.args.sum c.args.a c.args.b c.requires.small_thirds c.requires.a_value c.requires.b_value in
    record { sum_value = never_over l 768000000000000000 (search code depth 40) tt; c_value = never_over l 500000 (search code depth 40) tt }

pub plus_cubic-requires-2 : goal.plus_cubic-requires-2
plus_cubic-requires-2 c =
    let l = operands c.args.sum c.args.a c.args.b c.requires.small_thirds c.requires.a_value c.requires.b_value in
    record { sum_value = never_over l 256000000000000000 (search code depth 40) tt; c_value = never_over l 500000 (search code depth 40) tt }

pub returns : goal.returns
returns c =
    let l = operands c.args.sum c.args.a c.args.b c.requires.small_thirds c.requires.a_value c.requires.b_value in
    thirds_equal
    (called (is_plain l (search code depth 60 fits 20000) tt) c.plus_cubic.type_inv c.plus_cubic.ensures)
    (called (is_plain l (search code depth 60 fits 20000) tt) c.plus_mixed.type_inv c.plus_mixed.ensures)
    (called (is_plain l (search code depth 60 fits 20000) tt) c.plus_mixed-2.type_inv c.plus_mixed-2.ensures)
    (called (is_plain l (search code depth 60 fits 20000) tt) c.plus_cubic-2.type_inv c.plus_cubic-2.ensures)
