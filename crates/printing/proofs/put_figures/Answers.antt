-- `printing::put_figures` meets its contract: each piece is written after the one before.
use Prim.Native.Nat.{◌+◌, ◌*◌}
use native.Mathlib.Omega.{arith}
use borrow.Author.Rules.{rules}
use Rattle.outline.specs.private.Fit.{Fit}
use Rattle.decimals.specs.Buffer.{field_room}
use Rattle.decimals.proofs.BufferLaws.{none_yet, and_text, and_byte, room_left}
use Rattle.printing.proofs.LineLengths.{wide, fit_wide, totals-length, centre-length}
use Rattle.printing.proofs.put_figures.Goals as goal

-- What is written after the totals,
pub put_centre-b-requires : goal.put_centre-b-requires
put_centre-b-requires c =
    let widths : Fit wide c.args.t = fit_wide c.args.t (search rules) (search rules) (search rules) (search rules) (search rules) (search rules) in
    let totals = and_text (6 * field_room) (2 * field_room + 1) (none_yet c.args.out.now c.args.at (8 * field_room + 1) c.requires) (totals-length c.args.t widths) c.put_totals-a.ensures in
    omega (arith, room_left totals)

-- and after the centre.
pub bounds-out-b : goal.bounds-out-b
bounds-out-b c =
    let widths : Fit wide c.args.t = fit_wide c.args.t (search rules) (search rules) (search rules) (search rules) (search rules) (search rules) in
    let totals = and_text (6 * field_room) (2 * field_room + 1) (none_yet c.args.out.now c.args.at (8 * field_room + 1) c.requires) (totals-length c.args.t widths) c.put_totals-a.ensures in
    let centre = and_text (2 * field_room) 1 totals (centre-length c.args.t) c.put_centre-b.ensures in
    omega (arith, room_left centre)

pub overflow_add-result : goal.overflow_add-result
overflow_add-result c = let inside = bounds-out-b c in search rules

pub returns : goal.returns
returns c =
    let widths : Fit wide c.args.t = fit_wide c.args.t (search rules) (search rules) (search rules) (search rules) (search rules) (search rules) in
    let totals = and_text (6 * field_room) (2 * field_room + 1) (none_yet c.args.out.now c.args.at (8 * field_room + 1) c.requires) (totals-length c.args.t widths) c.put_totals-a.ensures in
    let centre = and_text (2 * field_room) 1 totals (centre-length c.args.t) c.put_centre-b.ensures in
    (and_byte 0 centre 10).written
