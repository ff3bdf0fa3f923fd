-- How a call of a walk goes on: with an open walk, unless 28 or 21 comes; and what it hands back, by what it leaves or why it refuses.
use Rattle.std.specs.Prelude.{not, cond, Result, Ok, Err}
use Rattle.outline.specs.declared.Walk.{Walk}
use Rattle.outline.specs.WalkCalls.{impossible_walk}
use Rattle.outline_answers.specs.declared.WalkReply.{WalkReply}
use Rattle.outline_answers.specs.declared.AbandonRefusal.{AbandonRefusal}
use Rattle.outline_answers.specs.declared.AbandonRefusal.TheVariants.{Impossible, NotOpen}
use Rattle.walk_state.specs.declared.walking.OpenWalk.{OpenWalk}

-- Order: 28, 21.
abbrev pub asked : Walk → Result Walk AbandonRefusal
asked w =
    cond (impossible_walk w) (Err Impossible)
    (cond (not w.is_open) (Err NotOpen)
    (Ok w))

-- The walk that an open one is.
abbrev pub as_walk : Result OpenWalk AbandonRefusal → Result Walk AbandonRefusal
as_walk (Ok walking) = Ok walking.walk
as_walk (Err r) = Err r

-- The walk handed in comes back with every refusal.
abbrev pub replied : {R : Type 0} → Walk → Result Walk R → WalkReply R
replied held (Ok left) = record { answer = Ok tt; walk = left }
replied held (Err r) = record { answer = Err r; walk = held }
