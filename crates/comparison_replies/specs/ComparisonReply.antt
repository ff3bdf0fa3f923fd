-- The outcome of a comparison (document 02, CR 5) as a reply: which values stand in the buffer, and in which order. A part of the caller's lists is told by which list it
-- is of and how many numbers it has.
use Rattle.std.specs.Prelude.{cond, List, [], ◌∷◌, ℤ, pos, length}
use Rattle.two_walks.specs.Comparison.{FiguresOutcome, Part}
use Rattle.replies.specs.Reply.{Reply, reply}

-- The number; and the six differences in document 01's order, the distance from the first walk to the second and that from the second to the first, the list of the
-- part, 0 the first and 1 the second, and how many of its numbers.
abbrev pub comparison_reply : FiguresOutcome → Part → List ℤ → Reply
comparison_reply o part buffer =
    let f = o.figures in
    let d = f.differences in
    reply
    o.number
    (d.a2 ∷ d.x6 ∷ d.y6 ∷ d.xx12 ∷ d.xy24 ∷ d.yy12 ∷ pos f.forward ∷ pos f.backward ∷ cond part.of_second (pos 1) (pos 0) ∷ pos (length part.numbers) ∷ [])
    buffer
