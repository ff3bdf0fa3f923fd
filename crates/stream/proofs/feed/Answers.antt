-- `stream::feed` meets its contract: a turn is one step more, from where the ones before have come to.
use Prim.Native.Nat.{◌+◌}
use mathlib.Core.Path.{◌≡◌, ap}
use mathlib.Core.Bool.{true, false}
use native.Mathlib.Omega.{arith}
use borrow.Author.Rules.{rules}
use lib.ListN.{length}
use Rattle.stream.proofs.FeedLaws.{none_yet, to_within, step_within, step_less, step-more}
use Rattle.stream.proofs.feed.Goals as goal

pub loop-state-init : goal.loop-state-init
loop-state-init c = none_yet c.args.last c.args.state c.args.sheet c.args.chunk.now c.args.out.now

pub step-stepped-requires : goal.step-stepped-requires
step-stepped-requires c = record { at_in_bounds = c.loop-state.invariant.place; filled_in_bounds = to_within c.loop-state.invariant }

pub overflow_add-used : goal.overflow_add-used
overflow_add-used c =
    let inside = step_within c.loop-state.invariant c.step-stepped.ensures in
    search rules

pub loop-state-smaller : goal.loop-state-smaller
loop-state-smaller c =
    let more : c.step-stepped.result.more ≡ true = search rules in
    let less = rw more at (step_less c.loop-state.invariant c.step-stepped.ensures) in
    omega arith

pub loop-state-preserved : goal.loop-state-preserved
loop-state-preserved c =
    let more : c.step-stepped.result.more ≡ true = search rules in
    rw more at (step-more c.loop-state.invariant c.step-stepped.ensures (search rules))

pub returns-then-not-stepped : goal.returns-then-not-stepped
returns-then-not-stepped c =
    let no_more : c.step-stepped.result.more ≡ false = search rules in
    let r = c.step-stepped.result in
    let k = rw no_more at (step-more c.loop-state.invariant c.step-stepped.ensures (search rules)) in
    let place : r.filled ≡ length k.text = omega (arith, k.written.end) in
    rw k.whole (record { answer = ap (λ n. record { state = r.state; sheet = r.sheet; used = c.loop-state.used + r.used; filled = n }) place; buffer = k.written.buffer })
