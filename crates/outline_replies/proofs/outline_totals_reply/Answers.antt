-- `outline_replies::outline_totals_reply` meets its contract: the number and the totals told are those of the answer.
use mathlib.Core.Path.{ap, ◌∙◌}
use Rattle.outline_replies.specs.OutlineReply.{totals_reply}
use Rattle.outline_replies.proofs.Told.{list_told}
use Rattle.outline_replies.proofs.outline_totals_reply.Goals as goal

pub returns : goal.returns
returns c = c.put_answer.ensures ∙ ap (λ o. totals_reply o c.args.out.now) (list_told c.outline_totals.result ∙ c.outline_totals.ensures)
