-- The longest outage of some in turn: one more at the end, and that 33 and 34 refuse it only if they refuse one of them.
use mathlib.Core.Path.{◌≡◌, refl}
use mathlib.Core.Bool.{Bool, true, false, cond}
use mathlib.Core.List.{List, [], ◌∷◌, ◌++◌}
use lib.Ieee.{Float, lt}
use Rattle.receiver.specs.Floats.{not_finite, below_zero, plus_zero}
use Rattle.outline.specs.EntryCalls.{longer}
use Rattle.outline.specs.CallLists.{longest_after}
use Rattle.outline.proofs.Every.{All}

pub longest_snoc : (kept : Float) (os : List Float) (seconds : Float) → longest_after kept (os ++ seconds ∷ []) ≡ longer (longest_after kept os) seconds
unfolding longest_after
longest_snoc kept [] seconds = refl
longest_snoc kept (o ∷ os) seconds = longest_snoc (longer kept o) os seconds

-- Neither 33 nor 34 refuses it.
pub record Usable (seconds : Float) : Type 0 where
  pub finite : not_finite seconds ≡ false
  pub not_below : below_zero seconds ≡ false

pub zero_usable : Usable plus_zero
unfolding not_finite below_zero lt
zero_usable = record { finite = refl; not_below = refl }

-- The longer of two is one of them.
longer_usable : (kept seconds : Float) → Usable kept → Usable seconds → Usable (longer kept seconds)
unfolding longer
longer_usable kept seconds h k = go (lt kept seconds)
  where
    go : (b : Bool) → Usable (cond b seconds kept)
    go true = k
    go false = h

pub longest_usable : (kept : Float) (os : List Float) → Usable kept → All Usable os → Usable (longest_after kept os)
unfolding longest_after
longest_usable kept [] h all = h
longest_usable kept (o ∷ os) h all = longest_usable (longer kept o) os (longer_usable kept o h all.0) all.1
