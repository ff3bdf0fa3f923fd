-- `exports::mavrihkel_mask_runs` meets its contract: without room nothing is written, and with room the reply is the one to the call's answer.
use native.Mathlib.Omega.{arith}
use borrow.Author.Tests.{lt-ltb, le-ltb}
use lib.ListN.{length}
use Rattle.mask_cells.specs.MaskCalls.{mask_runs_call}
use Rattle.mask_replies.proofs.RunsReplyCases.{no_room, with_room}
use Rattle.exports.proofs.mavrihkel_mask_runs.Goals as goal

pub returns-then-out-lt1 : goal.returns-then-out-lt1
returns-then-out-lt1 c = no_room (mask_runs_call c.args.words.now c.args.runs.now) c.args.runs.now c.args.out.now (lt-ltb (length c.args.out.now) 1 (omega arith))

pub returns : goal.returns
returns c =
    let answer = c.mask_runs-answer in
    let told = c.mask_runs_reply in
    with_room c.args.words.now c.args.runs.now answer.result answer.new.runs told.result c.args.out.now told.new.out (le-ltb (length c.args.out.now) 1 (omega arith)) answer.ensures told.ensures
