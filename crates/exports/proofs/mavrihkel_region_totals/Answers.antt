-- `exports::mavrihkel_region_totals` meets its contract: the reply to the answer is the reply to the call's outcome, whose index is told as it is.
use mathlib.Core.Path.{ap, ◌∙◌}
use Rattle.region_replies.specs.RegionReply.{region_reply, index_capped}
use Rattle.region_replies.proofs.IndexLaw.{index-told}
use Rattle.exports.proofs.mavrihkel_region_totals.Goals as goal

pub returns : goal.returns
returns c = c.region_reply.ensures ∙ ap (λ o. region_reply o c.args.out.now) (ap index_capped c.region_totals-answer.ensures ∙ index-told c.args.runs.now)
