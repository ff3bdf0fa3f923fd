-- The outcomes of document 01's calls on outlines as replies: which values stand in the buffer, and in which order.
use Rattle.std.specs.Prelude.{List, [], ◌∷◌, ℤ}
use Rattle.outline.specs.ListCall.{Outcome}
use Rattle.centroid.specs.Centroid.{CentroidOutcome}
use Rattle.replies.specs.Reply.{Reply, reply}

-- The number, and the six totals in document 01's order: of outlines, and of masks too.
abbrev pub totals_reply : Outcome → List ℤ → Reply
totals_reply o buffer =
    let t = o.totals in
    reply o.number (t.a2 ∷ t.x6 ∷ t.y6 ∷ t.xx12 ∷ t.xy24 ∷ t.yy12 ∷ []) buffer

-- The number, and the centre's x and y.
abbrev pub centre_reply : CentroidOutcome → List ℤ → Reply
centre_reply o buffer = reply o.number (o.x ∷ o.y ∷ []) buffer
