-- `outline_calls::edge_between` meets its contract. The four coordinates are at most 2,000 in size, so every step fits 64 bits: a computed test.
use mathlib.Core.Path.{◌≡◌}
use mathlib.Core.Bool.{false}
use mathlib.Core.List.{List, [], ◌∷◌}
use lib.IntN.{ℤ, ◌-ℤ◌, ◌*ℤ◌}
use mir.Syntax.{w32}
use mir.Val.{to_z, of_z}
use Rattle.integers.proofs.Bounds.{Within}
use Rattle.integers.proofs.SignedCode.{code}
use Rattle.integers.proofs.SizedNumbers.{i64, called, Sized, sized, fits, is_plain}
use Rattle.outline.specs.declared.Position.{Position}
use Rattle.outline.specs.ListCall.{outside}
use Rattle.outline.specs.EdgeSums.{cross, x6, y6, xx12, xy24, yy12, over}
use Rattle.outline.proofs.Limits.{never_over, beyond_not}
use Rattle.outline.proofs.TotalsLaws.{totals_equal}
use Rattle.outline_calls.specs.private.Terms.{first_term, second_term, mixed_term}
use Rattle.outline_calls.proofs.edge_between.Goals as goal

-- A coordinate as the code casts and reads it, and the cross product as it makes it of four.
abbrev cast : ℤ → ℤ
cast z = i64 (to_z w32 (of_z w32 z))

abbrev made : Position → Position → ℤ
made a b = i64 (i64 (cast a.x *ℤ cast b.y) -ℤ i64 (cast b.x *ℤ cast a.y))

module _ (a b : Position) (a_value : outside a ≡ false) (b_value : outside b ≡ false) where
  inside : Within (a.x ∷ a.y ∷ b.x ∷ b.y ∷ []) (2000 ∷ 2000 ∷ 2000 ∷ 2000 ∷ [])
  inside =
      let from = beyond_not a a_value in
      let to = beyond_not b b_value in
      (from.0, (from.1, (to.0, (to.1, tt))))

  abbrev operands : List Sized
  operands = sized a.x inside.0 ∷ sized a.y inside.1.0 ∷ sized b.x inside.1.1.0 ∷ sized b.y inside.1.1.1.0 ∷ []

  x_is : cast a.x ≡ a.x
  x_is = is_plain operands (search code depth 40) tt

  y_is : cast a.y ≡ a.y
  y_is = is_plain operands (search code depth 40) tt

  p_is : cast b.x ≡ b.x
  p_is = is_plain operands (search code depth 40) tt

  q_is : cast b.y ≡ b.y
  q_is = is_plain operands (search code depth 40) tt

  c_is : made a b ≡ cross a b
  c_is = is_plain operands (search code depth 40) tt

  -- What the calls are promised to give, of the numbers as they are passed.
  x6_is : first_term (cast a.x) (cast b.x) (made a b) ≡ x6 a b
  x6_is i = first_term (x_is i) (p_is i) (c_is i)

  y6_is : first_term (cast a.y) (cast b.y) (made a b) ≡ y6 a b
  y6_is i = first_term (y_is i) (q_is i) (c_is i)

  xx12_is : second_term (cast a.x) (cast b.x) (made a b) ≡ xx12 a b
  xx12_is i = second_term (x_is i) (p_is i) (c_is i)

  xy24_is : mixed_term (cast a.x) (cast a.y) (cast b.x) (cast b.y) (made a b) ≡ xy24 a b
  xy24_is i = mixed_term (x_is i) (y_is i) (p_is i) (q_is i) (c_is i)

  yy12_is : second_term (cast a.y) (cast b.y) (made a b) ≡ yy12 a b
  yy12_is i = second_term (y_is i) (q_is i) (c_is i)

  x_small : over 2000 (cast a.x) ≡ false
  x_small = never_over operands 2000 (search code depth 40) tt

  y_small : over 2000 (cast a.y) ≡ false
  y_small = never_over operands 2000 (search code depth 40) tt

  p_small : over 2000 (cast b.x) ≡ false
  p_small = never_over operands 2000 (search code depth 40) tt

  q_small : over 2000 (cast b.y) ≡ false
  q_small = never_over operands 2000 (search code depth 40) tt

  c_small : over 8000000 (made a b) ≡ false
  c_small = never_over operands 8000000 (search code depth 40) tt

pub overflow_sub-c : goal.overflow_sub-c
overflow_sub-c c = fits (operands c.args.a c.args.b c.requires.a_value c.requires.b_value) (search code depth 40) tt

pub first_term-requires : goal.first_term-requires
first_term-requires c =
    let a = c.args.a in
    let b = c.args.b in
    record { s_value = x_small a b c.requires.a_value c.requires.b_value; t_value = p_small a b c.requires.a_value c.requires.b_value; c_value = c_small a b c.requires.a_value c.requires.b_value }

pub first_term-requires-2 : goal.first_term-requires-2
first_term-requires-2 c =
    let a = c.args.a in
    let b = c.args.b in
    record { s_value = y_small a b c.requires.a_value c.requires.b_value; t_value = q_small a b c.requires.a_value c.requires.b_value; c_value = c_small a b c.requires.a_value c.requires.b_value }

pub second_term-requires : goal.second_term-requires
second_term-requires c =
    let a = c.args.a in
    let b = c.args.b in
    record { s_value = x_small a b c.requires.a_value c.requires.b_value; t_value = p_small a b c.requires.a_value c.requires.b_value; c_value = c_small a b c.requires.a_value c.requires.b_value }

pub mixed_term-requires : goal.mixed_term-requires
mixed_term-requires c =
    let a = c.args.a in
    let b = c.args.b in
    record {
      x_value = x_small a b c.requires.a_value c.requires.b_value;
      y_value = y_small a b c.requires.a_value c.requires.b_value;
      p_value = p_small a b c.requires.a_value c.requires.b_value;
      q_value = q_small a b c.requires.a_value c.requires.b_value;
      c_value = c_small a b c.requires.a_value c.requires.b_value;
    }

pub second_term-requires-2 : goal.second_term-requires-2
second_term-requires-2 c =
    let a = c.args.a in
    let b = c.args.b in
    record { s_value = y_small a b c.requires.a_value c.requires.b_value; t_value = q_small a b c.requires.a_value c.requires.b_value; c_value = c_small a b c.requires.a_value c.requires.b_value }

pub returns : goal.returns
returns c =
    let a = c.args.a in
    let b = c.args.b in
    let e = c.requires.a_value in
    let f = c.requires.b_value in
    totals_equal
    (c_is a b e f)
    (called (x6_is a b e f) c.first_term.type_inv c.first_term.ensures)
    (called (y6_is a b e f) c.first_term-2.type_inv c.first_term-2.ensures)
    (called (xx12_is a b e f) c.second_term.type_inv c.second_term.ensures)
    (called (xy24_is a b e f) c.mixed_term.type_inv c.mixed_term.ensures)
    (called (yy12_is a b e f) c.second_term-2.type_inv c.second_term-2.ensures)
