use mathlib.Core.Path.{◌≡◌, refl, ap, ◌∙◌}
use native.Mathlib.Numerals.{add-one}
use native.Mathlib.Omega.{arith}
use Rattle.outline.specs.declared.Kind.TheVariants.{Island}
use Rattle.outline.specs.WalkCalls.{begin_call}
use Rattle.worked_entries.specs.FullWalk.{after_round, after_rounds, full_walk}
use Rattle.worked_entries.proofs.full_walk.full_walk.Goals as goal

pub loop-rounds-init : goal.loop-rounds-init
unfolding after_rounds
loop-rounds-init c = refl

pub loop-rounds-preserved : goal.loop-rounds-preserved
unfolding after_rounds
loop-rounds-preserved c = rw add-one (c.walk_round-walk.ensures ∙ ap after_round c.loop-rounds.invariant)

pub returns : goal.returns
unfolding full_walk
returns c =
    let at = c.loop-rounds in
    let all : at.rounds ≡ 256 = omega arith in
    let walk = ap (λ r. r.walk) (c.begin.ensures ∙ ap (λ w. begin_call w Island) c.new_walk.ensures) in
    at.invariant ∙ (λ i. after_rounds (all i) (walk i))
