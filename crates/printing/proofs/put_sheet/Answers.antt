-- `printing::put_sheet` meets its contract: where there is room for the longest line, each piece is written after the one before.
use Prim.Native.Nat.{ℕ, ◌+◌, ◌≤◌}
use mathlib.Core.List.{List, ◌∷◌}
use native.Mathlib.Omega.{arith}
use borrow.Author.Rules.{rules}
use lib.IntN.{pos}
use lib.ListN.{length, set}
use mir.Syntax.{w32}
use mir.Val.{Fits}
use Rattle.decimals.specs.Decimal.{field}
use Rattle.decimals.specs.Buffer.{field_room, if_room, Written}
use Rattle.decimals.proofs.BufferLaws.{SoFar, none_yet, and_if_room, and_byte, and_last, room_left, has_room, not_written, text_written}
use Rattle.decimals.proofs.FieldLaws.{natural_length}
use Rattle.printing.specs.Output.{sheet_line}
use Rattle.printing.specs.Buffer.{line_room, fitting}
use Rattle.printing.proofs.put_sheet.Goals as goal

-- What is written after the count. Of the 192 bytes 1 is for the mark and 11 for the count, of 32 bits, with its tab.
count_written : {o p : List ℕ} {at a mark count : ℕ} → at + line_room ≤ length o → Fits w32 count → Written (set o at mark) (at + 1) (if_room field_room (set o at mark) (at + 1) (field (pos count))) p a → SoFar o at (mark ∷ field (pos count)) p a 180
count_written {o} {at = at} {mark = mark} {count = count} room f v =
    let after_mark = and_byte 191 (none_yet o at line_room room) mark in
    and_if_room 11 180 after_mark field_room (field (pos count)) (omega arith) (natural_length 9 count (omega (arith, f.fits))) v

pub returns-then-lacks_room : goal.returns-then-lacks_room
unfolding fitting
returns-then-lacks_room c = not_written line_room c.args.out.now c.args.at c.lacks_room.ensures (sheet_line c.args.s) c.if-lacks_room.true

pub put_figures-requires : goal.put_figures-requires
put_figures-requires c =
    let room = has_room line_room c.args.out.now c.args.at c.lacks_room.ensures c.if-lacks_room.false in
    let small : Fits w32 c.args.s.count = search rules in
    omega (arith, room_left (count_written room small c.put_natural-a.ensures))

pub returns : goal.returns
unfolding fitting sheet_line
returns c =
    let room = has_room line_room c.args.out.now c.args.at c.lacks_room.ensures c.if-lacks_room.false in
    let small : Fits w32 c.args.s.count = search rules in
    text_written line_room c.args.out.now c.args.at c.lacks_room.ensures (sheet_line c.args.s) c.if-lacks_room.false (and_last (count_written room small c.put_natural-a.ensures) c.put_figures.ensures)
