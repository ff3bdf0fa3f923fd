-- `decimals::put_natural` meets its contract: a tab, then the digits.
use Prim.Native.Nat.{◌+◌, ◌≤◌}
use mathlib.Core.Path.{◌∙◌}
use native.Mathlib.Omega.{arith}
use borrow.Author.Rules.{rules}
use lib.ListN.{length, length-set}
use lib.IntN.{pos}
use Rattle.decimals.specs.Decimal.{decimal, signed, field}
use Rattle.decimals.specs.Buffer.{field_room}
use Rattle.decimals.proofs.BufferLaws.{has_room, not_written, text_written, fits_behind, written_behind}
use Rattle.decimals.proofs.FieldLaws.{natural_fits}
use Rattle.decimals.proofs.put_natural.Goals as goal

pub returns-then-lacks_room : goal.returns-then-lacks_room
returns-then-lacks_room c = not_written field_room c.args.out.now c.args.at c.lacks_room.ensures (field (pos c.args.n)) c.if-lacks_room.true

pub bounds-out-at : goal.bounds-out-at
bounds-out-at c = omega (arith, has_room field_room c.args.out.now c.args.at c.lacks_room.ensures c.if-lacks_room.false)

pub overflow_add-at : goal.overflow_add-at
overflow_add-at c = search rules

pub up_to_twenty-requires : goal.up_to_twenty-requires
unfolding signed
up_to_twenty-requires c =
    let fits : c.args.at + length (field (pos c.args.n)) ≤ length c.args.out.now = omega (arith, has_room field_room c.args.out.now c.args.at c.lacks_room.ensures c.if-lacks_room.false, natural_fits c.args.n c.ranges.n) in
    fits_behind c.args.out.now c.args.at _ (decimal c.args.n) fits

pub shape_of-out : goal.shape_of-out
shape_of-out c = c.up_to_twenty.auto.out ∙ simp length-set

pub returns : goal.returns
unfolding signed
returns c =
    let fits : c.args.at + length (field (pos c.args.n)) ≤ length c.args.out.now = omega (arith, has_room field_room c.args.out.now c.args.at c.lacks_room.ensures c.if-lacks_room.false, natural_fits c.args.n c.ranges.n) in
    text_written field_room c.args.out.now c.args.at c.lacks_room.ensures (field (pos c.args.n)) c.if-lacks_room.false (written_behind c.args.out.now c.args.at _ (decimal c.args.n) fits c.up_to_twenty.ensures)
