-- The walk that goes on is the one handed in, and neither 28 nor 21 refuses it.
use mathlib.Core.Path.{◌≡◌, refl}
use mathlib.Core.Bool.{Bool, true, false, not, cond}
use Rattle.std.specs.Prelude.{Result, Ok, Err}
use Rattle.outline.specs.declared.Walk.{Walk}
use Rattle.outline.specs.WalkCalls.{impossible_walk}
use Rattle.outline_answers.specs.declared.AbandonRefusal.{AbandonRefusal}
use Rattle.outline_answers.specs.declared.AbandonRefusal.TheVariants.{Impossible, NotOpen}
use Rattle.walk_state.specs.Replies.{asked}

pub record GoesOn (w v : Walk) : Type 0 where
  pub same : v ≡ w
  pub possible : impossible_walk w ≡ false
  pub marked : w.is_open ≡ true

pub goes_on : (w v : Walk) → Ok v ≡ asked w → GoesOn w v
goes_on w v e = go (impossible_walk w) w.is_open refl refl e
  where
    go : (refused marked : Bool) → impossible_walk w ≡ refused → w.is_open ≡ marked → Ok v ≡ cond {A = Result Walk AbandonRefusal} refused (Err Impossible) (cond (not marked) (Err NotOpen) (Ok w)) → GoesOn w v
    go true marked p q h = absurd (cc)
    go false false p q h = absurd (cc)
    go false true p q h = record { same = cc; possible = p; marked = q }
