-- The outcomes of document 01's call on a list of runs as replies: which values stand in the buffer, and in which order.
use Rattle.std.specs.Prelude.{min, List, [], ◌∷◌, ℤ, pos}
use Rattle.cells.specs.RegionCall.{RegionOutcome}
use Rattle.replies.specs.Reply.{Reply, reply}

-- The number, the six totals in the outline's order, and the index: 0 but with 6 and 7.
abbrev pub region_reply : RegionOutcome → List ℤ → Reply
region_reply o buffer =
    let t = o.totals in
    reply o.number (t.a2 ∷ t.x6 ∷ t.y6 ∷ t.xx12 ∷ t.xy24 ∷ t.yy12 ∷ pos o.index ∷ []) buffer

-- The outcome with no index above 4,096: an entry of the buffer holds it, whatever index the answer has. No outcome of the call has a larger one
-- (proofs/IndexLaw).
abbrev pub index_capped : RegionOutcome → RegionOutcome
index_capped o = record { number = o.number; index = min o.index 4096; totals = o.totals }
