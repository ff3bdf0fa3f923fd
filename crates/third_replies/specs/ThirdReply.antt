-- The outcome of the call for third moments (document 02, CR 10) as a reply: which values stand in the buffer, and in which order.
use Rattle.std.specs.Prelude.{List, [], ◌∷◌, ℤ}
use Rattle.third_order.specs.ThirdCall.{ThirdOutcome}
use Rattle.replies.specs.Reply.{Reply, reply}

-- The number, and the four totals by falling power of x.
abbrev pub third_reply : ThirdOutcome → List ℤ → Reply
third_reply o buffer =
    let t = o.totals in
    reply o.number (t.xxx20 ∷ t.xxy60 ∷ t.xyy60 ∷ t.yyy20 ∷ []) buffer
