-- `square_annex::put_line` meets its contract: there is room for any number of 32 bits and the newline.
use Prim.Native.Nat.{ℕ, ◌+◌, ◌^◌, ◌≤◌, ◌<◌}
use mathlib.Core.List.{List}
use native.Mathlib.Omega.{arith}
use borrow.Author.Rules.{rules}
use lib.ListN.{length}
use Rattle.decimals.specs.Decimal.{decimal, signed}
use Rattle.decimals.specs.Buffer.{field_room, if_room, Written}
use Rattle.decimals.proofs.BufferLaws.{SoFar, none_yet, and_if_room, and_byte, room_left}
use Rattle.decimals.proofs.FieldLaws.{natural_length}
use Rattle.square_annex.proofs.put_line.Goals as goal

-- After the digits, a byte has room.
digits_written : (before after : List ℕ) (at entry end : ℕ) → at + field_room ≤ length before → entry < 2 ^ 32 → Written before at (if_room field_room before at (decimal entry)) after end → SoFar before at (decimal entry) after end 1
unfolding signed
digits_written before after at entry end room fits w =
    and_if_room 20 1 (none_yet before at field_room room) field_room (decimal entry) (omega arith) (omega (arith, natural_length 9 entry (omega arith))) w

pub bounds-out-end : goal.bounds-out-end
bounds-out-end c = omega (arith, room_left (digits_written _ _ c.args.at c.args.entry _ c.requires c.ranges.entry.fits c.put_digits-end.ensures))

pub overflow_add-result : goal.overflow_add-result
overflow_add-result c =
    let left = digits_written _ _ c.args.at c.args.entry _ c.requires c.ranges.entry.fits c.put_digits-end.ensures in
    search rules

pub returns : goal.returns
returns c = (and_byte 0 (digits_written _ _ c.args.at c.args.entry _ c.requires c.ranges.entry.fits c.put_digits-end.ensures) _).written
