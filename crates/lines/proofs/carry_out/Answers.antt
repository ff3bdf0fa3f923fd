-- `carry_out` meets its contract, by the form of the line.
use mathlib.Core.Path.{◌≡◌}
use borrow.Author.Rules.{rules}
use mir.Syntax.{w32}
use mir.Val.{to_z, of_z}
use Rattle.outline.specs.WalkCalls.{point_call}
use Rattle.outline_answers.specs.WalkAnswers.{point_reading}
use Rattle.text_program.specs.Program.{carried_walk, carry_out}
use Rattle.lines.proofs.WalkLines.{begin_told, abandon_told, point_told}
use Rattle.lines.proofs.carry_out.Goals as goal

pub tell-requires-in-Point : goal.tell-requires-in-Point
tell-requires-in-Point c = point_told

pub tell-requires-in-Begin : goal.tell-requires-in-Begin
tell-requires-in-Begin c = begin_told

pub tell-requires-in-Abandon : goal.tell-requires-in-Abandon
tell-requires-in-Abandon c = abandon_told

-- A point's x and y as the code hands them on are x and y.
pub returns-in-Point : goal.returns-in-Point
unfolding carry_out
returns-in-Point c =
    let x : to_z w32 (of_z w32 c.in-Point.x) ≡ c.in-Point.x = search rules in
    let y : to_z w32 (of_z w32 c.in-Point.y) ≡ c.in-Point.y = search rules in
    let extended : point_reading c.point.result ≡ point_call c.args.walk (record { x = c.in-Point.x; y = c.in-Point.y }) = rw (← x, ← y) c.point.ensures in
    rw (c.in-Some.is, c.in-Point.is, ← extended) c.tell-in-Point.ensures

pub returns-in-Begin : goal.returns-in-Begin
unfolding carry_out
returns-in-Begin c = rw (c.in-Some.is, c.in-Begin.is, ← c.begin.ensures) c.tell-in-Begin.ensures

pub returns-in-Abandon : goal.returns-in-Abandon
unfolding carry_out
returns-in-Abandon c = rw (c.in-Some.is, c.in-Abandon.is, ← c.abandon.ensures) c.tell-in-Abandon.ensures

pub returns-in-End : goal.returns-in-End
unfolding carry_out
returns-in-End c = rw (c.in-Some.is, c.in-End.is) c.end_walk.ensures

pub returns-in_default : goal.returns-in_default
unfolding carry_out carried_walk
returns-in_default c = rw c.in_default.is c.tell.ensures
