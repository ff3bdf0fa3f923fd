-- The outcome of the call on a receiver's fix (document 02, CR 9) as a reply: which values stand in the buffer, and in which order.
use Rattle.std.specs.Prelude.{List, [], ◌∷◌, ℤ}
use Rattle.outline.specs.FixCall.{FixOutcome}
use Rattle.replies.specs.Reply.{Reply, reply}

-- The number, and the point's x and y.
abbrev pub fix_reply : FixOutcome → List ℤ → Reply
fix_reply o buffer = reply o.number (o.point.x ∷ o.point.y ∷ []) buffer
