-- `outline_replies::map_totals_reply` meets its contract: the number and the totals told are those of the answer.
use mathlib.Core.Path.{ap, ◌∙◌}
use Rattle.outline_replies.specs.OutlineReply.{totals_reply}
use Rattle.outline_replies.proofs.Told.{map_told}
use Rattle.outline_replies.proofs.map_totals_reply.Goals as goal

pub returns : goal.returns
returns c = c.put_answer.ensures ∙ ap (λ o. totals_reply o c.args.out.now) (map_told c.map_totals.result ∙ c.map_totals.ensures)
