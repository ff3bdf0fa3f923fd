-- `printing::put_outline` meets its contract: where there is room for the longest line, each piece is written after the one before.
use Prim.Native.Nat.{ℕ, ◌+◌, ◌*◌, ◌≤◌}
use mathlib.Core.List.{List, ◌∷◌, ◌++◌}
use native.Mathlib.Omega.{arith}
use lib.IntN.{pos}
use lib.ListN.{length, set}
use mir.Syntax.{w32}
use mir.Val.{Fits}
use Rattle.decimals.specs.Decimal.{field}
use Rattle.decimals.specs.Buffer.{field_room, if_room, Written}
use Rattle.decimals.proofs.BufferLaws.{SoFar, none_yet, and_if_room, and_byte, and_last, room_left, has_room, not_written, text_written}
use Rattle.decimals.proofs.FieldLaws.{natural_length}
use Rattle.printing.specs.Output.{outline_line}
use Rattle.printing.specs.Buffer.{line_room, fitting}
use Rattle.printing.proofs.put_outline.Goals as goal

-- What is written after both counts. Of the 192 bytes 1 is for the mark, 11 for each count, of 32 bits, with its tab, and 169 for the figures.
counts_written : {o p q : List ℕ} {at a b mark outlines points : ℕ} → at + line_room ≤ length o → Fits w32 outlines → Fits w32 points → Written (set o at mark) (at + 1) (if_room field_room (set o at mark) (at + 1) (field (pos outlines))) p a → Written p a (if_room field_room p a (field (pos points))) q b → SoFar o at (mark ∷ field (pos outlines) ++ field (pos points)) q b (8 * field_room + 1)
counts_written {o} {at = at} {mark = mark} {outlines = outlines} {points = points} room f g v w =
    let after_mark = and_byte 191 (none_yet o at line_room room) mark in
    let number = and_if_room 11 180 after_mark field_room (field (pos outlines)) (omega arith) (natural_length 9 outlines (omega (arith, f.fits))) v in
    and_if_room 11 (8 * field_room + 1) number field_room (field (pos points)) (omega arith) (natural_length 9 points (omega (arith, g.fits))) w

pub returns-then-lacks_room : goal.returns-then-lacks_room
unfolding fitting
returns-then-lacks_room c = not_written line_room c.args.out.now c.args.at c.lacks_room.ensures (outline_line c.args.outlines c.args.points c.args.t) c.if-lacks_room.true

pub put_figures-requires : goal.put_figures-requires
put_figures-requires c =
    let room = has_room line_room c.args.out.now c.args.at c.lacks_room.ensures c.if-lacks_room.false in
    room_left (counts_written room c.ranges.outlines c.ranges.points c.put_natural-a.ensures c.put_natural-b.ensures)

pub returns : goal.returns
unfolding fitting outline_line
returns c =
    let room = has_room line_room c.args.out.now c.args.at c.lacks_room.ensures c.if-lacks_room.false in
    let counts = counts_written room c.ranges.outlines c.ranges.points c.put_natural-a.ensures c.put_natural-b.ensures in
    text_written line_room c.args.out.now c.args.at c.lacks_room.ensures (outline_line c.args.outlines c.args.points c.args.t) c.if-lacks_room.false (and_last counts c.put_figures.ensures)
