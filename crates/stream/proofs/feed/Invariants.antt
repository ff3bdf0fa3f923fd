-- `stream::feed` meets its contract: the loop takes the call's steps one after the other.
use mathlib.Core.Bool.{true}
use lib.ListN.{drop}
use Rattle.text_program.proofs.Progress.{work_left}
use Rattle.stream.proofs.FeedLaws.{SoFar}
use Rattle.stream.proofs.feed.Given as goal

abbrev pub invariant-loop-state : goal.invariant-loop-state
invariant-loop-state l = SoFar l.last l.initial.state l.initial.sheet l.chunk l.initial.out l.out l.state l.sheet l.used l.filled true

abbrev pub decreases-loop-state : goal.decreases-loop-state
decreases-loop-state l = work_left l.state (drop l.used l.chunk)
