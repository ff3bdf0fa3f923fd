-- `decimals::put_field` meets its contract: a tab, then the number.
use Prim.Native.Nat.{◌+◌, ◌≤◌}
use mathlib.Core.Path.{◌≡◌, ◌∙◌}
use native.Mathlib.Omega.{arith}
use borrow.Author.Rules.{rules}
use lib.ListN.{length, length-set}
use mir.Syntax.{w64}
use mir.Val.{to_z, of_z}
use mir.ValLaws.{to_z-of_z}
use Rattle.decimals.specs.Decimal.{signed, field}
use Rattle.decimals.specs.Buffer.{field_room}
use Rattle.decimals.proofs.BufferLaws.{has_room, not_written, text_written, fits_behind, written_behind}
use Rattle.decimals.proofs.FieldLaws.{field_fits}
use Rattle.decimals.proofs.put_field.Goals as goal

pub returns-then-lacks_room : goal.returns-then-lacks_room
returns-then-lacks_room c = not_written field_room c.args.out.now c.args.at c.lacks_room.ensures (field c.args.n) c.if-lacks_room.true

pub bounds-out-at : goal.bounds-out-at
bounds-out-at c = omega (arith, has_room field_room c.args.out.now c.args.at c.lacks_room.ensures c.if-lacks_room.false)

pub overflow_add-at : goal.overflow_add-at
overflow_add-at c = search rules

pub put_number-requires : goal.put_number-requires
put_number-requires c =
    let fits : c.args.at + length (field c.args.n) ≤ length c.args.out.now = omega (arith, has_room field_room c.args.out.now c.args.at c.lacks_room.ensures c.if-lacks_room.false, field_fits c.args.n c.ranges.n) in
    rw (to_z-of_z w64 c.args.n c.ranges.n) (fits_behind c.args.out.now c.args.at _ (signed c.args.n) fits)

pub shape_of-out : goal.shape_of-out
shape_of-out c = c.put_number.auto.out ∙ simp length-set

pub returns : goal.returns
returns c =
    let fits : c.args.at + length (field c.args.n) ≤ length c.args.out.now = omega (arith, has_room field_room c.args.out.now c.args.at c.lacks_room.ensures c.if-lacks_room.false, field_fits c.args.n c.ranges.n) in
    let held : to_z w64 (of_z w64 c.args.n) ≡ c.args.n = to_z-of_z w64 c.args.n c.ranges.n in
    text_written field_room c.args.out.now c.args.at c.lacks_room.ensures (field c.args.n) c.if-lacks_room.false (written_behind c.args.out.now c.args.at _ (signed c.args.n) fits (rw held at c.put_number.ensures))
