-- `outline_replies::put_totals` meets its contract: the values are the six totals, as the array holds them.
use mathlib.Core.Path.{ap, ◌∙◌}
use borrow.Author.Rules.{rules}
use Rattle.outline.proofs.TotalsLaws.{totals_equal}
use Rattle.outline_replies.specs.OutlineReply.{totals_reply}
use Rattle.outline_replies.proofs.put_totals.Goals as goal

pub returns : goal.returns
returns c =
    c.put_values.ensures
    ∙ ap (λ t. totals_reply (record { number = c.args.number; totals = t }) c.args.out.now)
    (totals_equal (search rules) (search rules) (search rules) (search rules) (search rules) (search rules))
