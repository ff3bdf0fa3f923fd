-- A fix beside the point call, what an outage answers, keeps and leaves alone, and 28 of the longest outage: by the tests of each call.
use mathlib.Core.Path.{◌≡◌, refl, sym}
use mathlib.Core.Bool.{Bool, true, false, not, ◌&&◌, ◌||◌, cond}
use mathlib.Core.Logic.{◌≢◌}
use lib.Dec.{ltb, eqb}
use lib.Ieee.{Float, lt}
use borrow.Author.Tests.{not-false, eqb-false}
use Rattle.integers.proofs.Cases.{by_cond}
use Rattle.receiver.specs.declared.Fix.{Fix as FixOf}
use Rattle.receiver.specs.Floats.{not_finite, below_zero}
use Rattle.outline.specs.declared.Position.{Position}
use Rattle.outline.specs.declared.Walk.{Walk}
use Rattle.outline.specs.EdgeSums.{exceed}
use Rattle.outline.specs.ListCall.{outside}
use Rattle.outline.specs.FixCall.{fix_point, fix_not_finite}
use Rattle.outline.specs.WalkCalls.{extended, share, impossible_walk, WalkOutcome, refused_walk, point_call}
use Rattle.outline.specs.EntryCalls.{longer, fix_call, outage_call, entry_call}
use Rattle.outline.specs.EntryLaws.{FixAsPoint, Fix33, OutageNumbers, PointKeepsOutage, SamePoints, OutageAddsNoPoint, Outage28}
use Rattle.outline.proofs.CallCases as Case
use Rattle.outline.proofs.Refusals.{first_28}

-- 28 and 21 come first in both calls, so a finite fix is its point for every walk.
pub finite-fix : (w : Walk) (f : FixOf) → fix_not_finite f ≡ false → fix_call w f ≡ point_call w (fix_point f)
unfolding fix_call point_call
finite-fix w f e = rw e (go (impossible_walk w) (not w.is_open) _)
  where
    go : (a b : Bool) (rest : WalkOutcome) → (let point = cond a (refused_walk 28 w) (cond b (refused_walk 21 w) rest) in cond a (refused_walk 28 w) (cond b (refused_walk 21 w) point) ≡ point)
    go true b rest = refl
    go false true rest = refl
    go false false rest = refl

-- ---- 33

pub infinite_fix : (w : Walk) (f : FixOf) → impossible_walk w ≡ false → w.is_open ≡ true → fix_not_finite f ≡ true → fix_call w f ≡ refused_walk 33 w
unfolding fix_call
infinite_fix w f e o n = rw (e, o, n) refl

-- No point call answers 33.
point_not_33 : (w : Walk) (p : Position) → (point_call w p).number ≢ 33
point_not_33 w p = go (point_call w p) (Case.point_case w p)
  where
    go : (r : WalkOutcome) → Case.PointCase w p r → r.number ≢ 33
    go r (Case.refused n h k) = k
    go r (Case.accepted h) = eqb-false 0 33 refl

-- A fix whose floats are not both finite is answered with 28, 21 or 33, and so is not answered as a point where 33 does not come.
unless_33 : (w : Walk) (f : FixOf) → fix_not_finite f ≡ true → (fix_call w f).number ≢ 33 → fix_call w f ≡ point_call w (fix_point f)
unfolding fix_call point_call
unless_33 w f e = rw e (go (impossible_walk w) (not w.is_open) _)
  where
    go : (a b : Bool) (rest : WalkOutcome) → (let r = cond a (refused_walk 28 w) (cond b (refused_walk 21 w) (refused_walk 33 w)) in r.number ≢ 33 → r ≡ cond a (refused_walk 28 w) (cond b (refused_walk 21 w) rest))
    go true b rest n = refl
    go false true rest n = refl
    go false false rest n = absurd (n refl)

pub fix_as_point : FixAsPoint
unfolding entry_call
fix_as_point w f = go (fix_not_finite f) refl
  where
    go : (b : Bool) → fix_not_finite f ≡ b → (fix_call w f).number ≢ 33 → fix_call w f ≡ point_call w (fix_point f)
    go true e n = unless_33 w f e n
    go false e n = finite-fix w f e

only_33 : (w : Walk) (f : FixOf) → (fix_call w f).number ≡ 33 → (impossible_walk w ≡ false) × (w.is_open ≡ true) × (fix_not_finite f ≡ true)
unfolding fix_call
only_33 w f =
    by_cond Told (impossible_walk w) (λ _ n. absurd (eqb-false 28 33 refl n)) (λ p.
    by_cond Told (not w.is_open) (λ _ n. absurd (eqb-false 21 33 refl n)) (λ o.
    by_cond Told (fix_not_finite f) (λ e _. (p, not-false w.is_open o, e)) (λ _ n.
    absurd (point_not_33 w (fix_point f) n))))
  where
    Told : WalkOutcome → Type 0
    Told r = r.number ≡ 33 → (impossible_walk w ≡ false) × (w.is_open ≡ true) × (fix_not_finite f ≡ true)

pub fix_33 : (w : Walk) (f : FixOf) → Fix33 w f
unfolding entry_call
fix_33 w f = record { refused = infinite_fix w f; only = only_33 w f }

-- ---- outages

pub outage_adds_no_point : OutageAddsNoPoint
unfolding entry_call
outage_adds_no_point w seconds = go (outage_call w seconds) (Case.outage_case w seconds)
  where
    go : (r : WalkOutcome) → Case.OutageCase w seconds r → SamePoints w r.walk
    go r (Case.refused n h) = record { is_open = refl; kind = refl; count = refl; first = refl; last = refl; totals = refl }
    go r (Case.accepted h) = record { is_open = sym h.is_open; kind = refl; count = refl; first = refl; last = refl; totals = refl }

not_kept : (w : Walk) (seconds : Float) → lt w.outage seconds ≡ false → (outage_call w seconds).walk.outage ≡ w.outage
unfolding longer
not_kept w seconds g = go (outage_call w seconds) (Case.outage_case w seconds)
  where
    go : (r : WalkOutcome) → Case.OutageCase w seconds r → r.walk.outage ≡ w.outage
    go r (Case.refused n h) = refl
    go r (Case.accepted h) = rw g refl

kept_if_greater : (w : Walk) (seconds : Float) → lt w.outage seconds ≡ true → (outage_call w seconds).number ≡ 0 → (outage_call w seconds).walk.outage ≡ seconds
unfolding longer
kept_if_greater w seconds g = go (outage_call w seconds) (Case.outage_case w seconds)
  where
    go : (r : WalkOutcome) → Case.OutageCase w seconds r → r.number ≡ 0 → r.walk.outage ≡ seconds
    go r (Case.refused n h) z = absurd (h.not_0 z)
    go r (Case.accepted h) z = rw g refl

pub outage-numbers : (w : Walk) (seconds : Float) → OutageNumbers w seconds
unfolding entry_call outage_call
outage-numbers w seconds =
    record {
      not_open = λ p o. rw (p, o) refl;
      not_finite_lem = λ p o e. rw (p, o, e) refl;
      below_zero_lem = λ p o e b. rw (p, o, e, b) refl;
      accepted = λ p o e b. rw (p, o, e, b) refl;
      greater = λ n g. kept_if_greater w seconds g n;
      not_greater = not_kept w seconds;
    }

-- ---- points

extended_keeps : (w : Walk) (p : Position) → (extended w p).outage ≡ w.outage
unfolding extended
extended_keeps w p = by_cond (λ (v : Walk). v.outage ≡ w.outage) (eqb w.count 0) (λ _. refl) (λ _. refl)

pub point_keeps_outage : PointKeepsOutage
point_keeps_outage w p = go (point_call w p) (Case.point_case w p)
  where
    go : (r : WalkOutcome) → Case.PointCase w p r → r.walk.outage ≡ w.outage
    go r (Case.refused n h k) = refl
    go r (Case.accepted h) = extended_keeps w p

-- ---- 28

outage_impossible : (w : Walk) → w.is_open ≡ true → (not_finite w.outage || below_zero w.outage) ≡ true → impossible_walk w ≡ true
unfolding impossible_walk
outage_impossible w o e = rw o (go (ltb 1024 w.count) (not (eqb w.count 0) && (outside w.first || outside w.last)) (exceed (share w.count) w.totals) (not_finite w.outage) (below_zero w.outage) e)
  where
    go : (many ends large infinite below : Bool) → (infinite || below) ≡ true → (many || ends || large || infinite || below) ≡ true
    go true ends large infinite below e = refl
    go false true large infinite below e = refl
    go false false true infinite below e = refl
    go false false false infinite below e = e

pub outage_28 : Outage28
outage_28 w o e c = first_28 w c (rw (outage_impossible w o e))
