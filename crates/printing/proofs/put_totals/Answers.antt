-- `printing::put_totals` meets its contract: each field is written after the one before.
use Prim.Native.Nat.{◌*◌}
use borrow.Author.Rules.{rules}
use Rattle.decimals.specs.Buffer.{field_room}
use Rattle.decimals.proofs.BufferLaws.{none_yet}
use Rattle.decimals.proofs.FieldLaws.{and_field}
use Rattle.printing.specs.Output.{totals_text}
use Rattle.printing.proofs.put_totals.Goals as goal

pub returns : goal.returns
unfolding totals_text
returns c =
    let t = c.args.t in
    let none = none_yet c.args.out.now c.args.at (6 * field_room) c.requires in
    let one = and_field (5 * field_room) none t.a2 (search rules) c.put_field-a.ensures in
    let two = and_field (4 * field_room) one t.x6 (search rules) c.put_field-b.ensures in
    let three = and_field (3 * field_room) two t.y6 (search rules) c.put_field-c.ensures in
    let four = and_field (2 * field_room) three t.xx12 (search rules) c.put_field-d.ensures in
    let five = and_field field_room four t.xy24 (search rules) c.put_field-e.ensures in
    (and_field 0 five t.yy12 (search rules) c.put_field.ensures).written
