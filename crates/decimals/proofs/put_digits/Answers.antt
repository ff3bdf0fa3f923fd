-- `decimals::put_digits` meets its contract: with room for a tab too, the digits have room.
use native.Mathlib.Omega.{arith}
use Rattle.decimals.specs.Decimal.{decimal, signed}
use Rattle.decimals.specs.Buffer.{field_room}
use Rattle.decimals.proofs.BufferLaws.{has_room, not_written, text_written}
use Rattle.decimals.proofs.FieldLaws.{natural_fits}
use Rattle.decimals.proofs.put_digits.Goals as goal

pub returns-then-lacks_room : goal.returns-then-lacks_room
returns-then-lacks_room c = not_written field_room c.args.out.now c.args.at c.lacks_room.ensures (decimal c.args.n) c.if-lacks_room.true

pub up_to_twenty-requires : goal.up_to_twenty-requires
unfolding signed
up_to_twenty-requires c =
    omega (arith, has_room field_room c.args.out.now c.args.at c.lacks_room.ensures c.if-lacks_room.false, natural_fits c.args.n c.ranges.n)

pub returns : goal.returns
returns c =
    text_written field_room c.args.out.now c.args.at c.lacks_room.ensures (decimal c.args.n) c.if-lacks_room.false c.up_to_twenty.ensures
