-- `ended`: the tests stand in the definition's order, and the totals of a walk and a sheet that 28 does not refuse can be added.
use mathlib.Core.Path.{◌≡◌, ◌∙◌, ap}
use Prim.Native.Nat.{◌+◌}
use native.Mathlib.Omega.{arith}
use borrow.Author.Rules.{rules}
use borrow.Author.Tests.{le-ltb, le-leb, lt-leb}
use mir.Syntax.{w64}
use mir.Val.{SFits}
use mir.Facts.{to_z-of_z}
use Rattle.integers.proofs.Flags.{tells}
use Rattle.limits.proofs.ZeroTest.{zero_size, nonzero_size}
use Rattle.outline.specs.EdgeSums.{plus, exceed}
use Rattle.outline.specs.MapCall.{total_limits}
use Rattle.outline.specs.WalkCalls.{sheet_of, closed, closed_totals, turned, added_totals, zero_area, end_call}
use Rattle.outline.proofs.PossibleWalks.{sheet_within}
use Rattle.outline.proofs.TurnedTotals.{turned-exceed}
use Rattle.walk_state.proofs.Asked.{goes_on}
use Rattle.outline_calls.proofs.WalkTotals.{ring_within}
use Rattle.outline_calls.proofs.walk.ended.Goals as goal

pub returns-then-ring-eq0 : goal.returns-then-ring-eq0
unfolding end_call zero_area
returns-then-ring-eq0 c =
    let w = c.args.w in
    let on = goes_on w c.in_ok-walking.walking.walk c.in_ok-walking.ensures in
    let ring : c.closed_totals-ring.result ≡ closed_totals w = c.closed_totals-ring.ensures ∙ ap closed_totals on.same in
    let fits : SFits w64 c.closed_totals-ring.result.a2 = search rules in
    let zero = zero_size c.closed_totals-ring.result.a2 (to_z-of_z fits) c.if-ring-eq0.true in
    rw (on.possible, tells c.impossible_sheet.ensures c.if-impossible_sheet.false, on.marked, le-ltb _ _ c.if-w-lt3.false, tells (ap zero_area ring) zero)

pub returns-then-s-ge64 : goal.returns-then-s-ge64
unfolding end_call zero_area
returns-then-s-ge64 c =
    let w = c.args.w in
    let on = goes_on w c.in_ok-walking.walking.walk c.in_ok-walking.ensures in
    let ring : c.closed_totals-ring.result ≡ closed_totals w = c.closed_totals-ring.ensures ∙ ap closed_totals on.same in
    let some = nonzero_size c.closed_totals-ring.result.a2 c.if-ring-eq0.false in
    rw
    (on.possible, tells c.impossible_sheet.ensures c.if-impossible_sheet.false, on.marked, le-ltb _ _ c.if-w-lt3.false, tells (ap zero_area ring) some, le-leb 64 c.args.s.count (omega arith))

pub turn-added-requires : goal.turn-added-requires
turn-added-requires c =
    let w = c.args.w in
    let on = goes_on w c.in_ok-walking.walking.walk c.in_ok-walking.ensures in
    ring_within w c.closed_totals-ring.result on.possible on.marked c.if-w-lt3.false (c.closed_totals-ring.ensures ∙ ap closed_totals on.same)

pub add-sums-requires : goal.add-sums-requires
add-sums-requires c =
    let w = c.args.w in
    let on = goes_on w c.in_ok-walking.walking.walk c.in_ok-walking.ensures in
    let within = ring_within w c.closed_totals-ring.result on.possible on.marked c.if-w-lt3.false (c.closed_totals-ring.ensures ∙ ap closed_totals on.same) in
    record {
      s_value = sheet_within c.args.s (tells c.impossible_sheet.ensures c.if-impossible_sheet.false);
      t_value = rw (c.turn-added.ensures, turned-exceed total_limits w.kind c.closed_totals-ring.result) within;
    }

pub returns-then-outside_limits : goal.returns-then-outside_limits
unfolding end_call zero_area
returns-then-outside_limits c =
    let w = c.args.w in
    let on = goes_on w c.in_ok-walking.walking.walk c.in_ok-walking.ensures in
    let ring : c.closed_totals-ring.result ≡ closed_totals w = c.closed_totals-ring.ensures ∙ ap closed_totals on.same in
    let some = nonzero_size c.closed_totals-ring.result.a2 c.if-ring-eq0.false in
    let added : c.turn-added.result ≡ added_totals w = c.turn-added.ensures ∙ ap (turned w.kind) ring in
    let sums : c.add-sums.result ≡ plus c.args.s.totals (added_totals w) = c.add-sums.ensures ∙ ap (plus c.args.s.totals) added in
    let asked : c.outside_limits.result ≡ exceed total_limits (plus c.args.s.totals (added_totals w)) = c.outside_limits.ensures ∙ ap (exceed total_limits) sums in
    rw
    (on.possible, tells c.impossible_sheet.ensures c.if-impossible_sheet.false, on.marked, le-ltb _ _ c.if-w-lt3.false, tells (ap zero_area ring) some, lt-leb 64 c.args.s.count (omega arith), tells asked c.if-outside_limits.true)

pub returns : goal.returns
unfolding end_call zero_area
returns c =
    let w = c.args.w in
    let s = c.args.s in
    let on = goes_on w c.in_ok-walking.walking.walk c.in_ok-walking.ensures in
    let ring : c.closed_totals-ring.result ≡ closed_totals w = c.closed_totals-ring.ensures ∙ ap closed_totals on.same in
    let some = nonzero_size c.closed_totals-ring.result.a2 c.if-ring-eq0.false in
    let added : c.turn-added.result ≡ added_totals w = c.turn-added.ensures ∙ ap (turned w.kind) ring in
    let sums : c.add-sums.result ≡ plus s.totals (added_totals w) = c.add-sums.ensures ∙ ap (plus s.totals) added in
    let asked : c.outside_limits.result ≡ exceed total_limits (plus s.totals (added_totals w)) = c.outside_limits.ensures ∙ ap (exceed total_limits) sums in
    rw
    (on.possible, tells c.impossible_sheet.ensures c.if-impossible_sheet.false, on.marked, le-ltb _ _ c.if-w-lt3.false, tells (ap zero_area ring) some, lt-leb 64 c.args.s.count (omega arith), tells asked c.if-outside_limits.false)
    (λ i. record { number = 0; totals = added i; outage = w.outage; walk = closed; sheet = sheet_of (s.count + 1) (sums i) })
