-- `printing::put_refusal` meets its contract: where there is room for the longest line, each piece is written after the one before.
use Prim.Native.Nat.{ℕ, ◌+◌, ◌*◌, ◌≤◌}
use mathlib.Core.List.{List, ◌∷◌, ◌++◌}
use native.Mathlib.Omega.{arith}
use borrow.Author.Rules.{rules}
use lib.IntN.{pos}
use lib.ListN.{length, set}
use mir.Syntax.{w64}
use mir.Val.{Fits}
use Rattle.decimals.specs.Decimal.{field}
use Rattle.decimals.specs.Buffer.{field_room, if_room, Written}
use Rattle.decimals.proofs.BufferLaws.{SoFar, none_yet, and_if_room, and_byte, room_left, has_room, not_written, text_written}
use Rattle.decimals.proofs.FieldLaws.{natural_fits}
use Rattle.printing.specs.Output.{refusal_line}
use Rattle.printing.specs.Buffer.{line_room, fitting}
use Rattle.printing.proofs.put_refusal.Goals as goal

-- What is written after the mark and both numbers.
numbers_written : {o p q : List ℕ} {at a b mark line number : ℕ} → at + line_room ≤ length o → Fits w64 line → Fits w64 number → Written (set o at mark) (at + 1) (if_room field_room (set o at mark) (at + 1) (field (pos line))) p a → Written p a (if_room field_room p a (field (pos number))) q b → SoFar o at (mark ∷ field (pos line) ++ field (pos number)) q b 1
numbers_written {o} {at = at} {mark = mark} {line = line} {number = number} room l n v w =
    let none = none_yet o at (2 * field_room + 2) (omega arith) in
    let after_mark = and_byte (2 * field_room + 1) none mark in
    let after_line = and_if_room field_room (field_room + 1) after_mark field_room (field (pos line)) (omega arith) (natural_fits line l) v in
    and_if_room field_room 1 after_line field_room (field (pos number)) (omega arith) (natural_fits number n) w

pub returns-then-lacks_room : goal.returns-then-lacks_room
unfolding fitting
returns-then-lacks_room c = not_written line_room c.args.out.now c.args.at c.lacks_room.ensures (refusal_line c.args.line c.args.number) c.if-lacks_room.true

pub bounds-out-b : goal.bounds-out-b
bounds-out-b c =
    let room = has_room line_room c.args.out.now c.args.at c.lacks_room.ensures c.if-lacks_room.false in
    omega (arith, room_left (numbers_written room c.ranges.line c.ranges.number c.put_natural-a.ensures c.put_natural-b.ensures))

pub overflow_add-result : goal.overflow_add-result
overflow_add-result c =
    let room = has_room line_room c.args.out.now c.args.at c.lacks_room.ensures c.if-lacks_room.false in
    let so_far = numbers_written room c.ranges.line c.ranges.number c.put_natural-a.ensures c.put_natural-b.ensures in
    search rules

pub returns : goal.returns
unfolding fitting refusal_line
returns c =
    let room = has_room line_room c.args.out.now c.args.at c.lacks_room.ensures c.if-lacks_room.false in
    let so_far = numbers_written room c.ranges.line c.ranges.number c.put_natural-a.ensures c.put_natural-b.ensures in
    text_written line_room c.args.out.now c.args.at c.lacks_room.ensures (refusal_line c.args.line c.args.number) c.if-lacks_room.false (and_byte 0 so_far 10).written
