-- The totals of a walk that 28 does not refuse, with the closing edge too, can be added.
use mathlib.Core.Path.{◌≡◌}
use mathlib.Core.Bool.{true, false}
use Prim.Native.Nat.{ℕ, ◌+◌, ◌≤◌}
use native.Mathlib.Omega.{arith}
use Rattle.integers.proofs.Order.{nat_abs_add}
use Rattle.outline.specs.declared.Totals.{Totals}
use Rattle.outline.specs.declared.Walk.{Walk}
use Rattle.outline.specs.EdgeSums.{plus, exceed}
use Rattle.outline.specs.ListCall.{outside}
use Rattle.outline.specs.MapCall.{total_limits}
use Rattle.outline.specs.WalkCalls.{share, closed_totals, impossible_walk}
use Rattle.outline.specs.private.Fit.{Fit}
use Rattle.outline.proofs.PossibleWalks.{PossibleOpen, possible_open}
use Rattle.outline_calls.proofs.Sizes.{share_within, edge_fit}

plus_fit : (m n : ℕ) (s t : Totals) → Fit (share m) s → Fit (share n) t → Fit (share (m + n)) (plus s t)
plus_fit m n s t f g =
    record {
      a2 = omega (arith, nat_abs_add s.a2 t.a2);
      x6 = omega (arith, nat_abs_add s.x6 t.x6);
      y6 = omega (arith, nat_abs_add s.y6 t.y6);
      xx12 = omega (arith, nat_abs_add s.xx12 t.xx12);
      xy24 = omega (arith, nat_abs_add s.xy24 t.xy24);
      yy12 = omega (arith, nat_abs_add s.yy12 t.yy12);
    }

pub walked_within : (w : Walk) → PossibleOpen w → exceed total_limits w.totals ≡ false
walked_within w o = share_within w.count w.totals (omega (arith, o.count)) o.totals

pub closed_within : (w : Walk) → PossibleOpen w → (w.count ≡ 0 → ⊥) → exceed total_limits (closed_totals w) ≡ false
closed_within w o h = share_within (w.count + 1) (closed_totals w) (omega (arith, o.count)) (plus_fit w.count 1 w.totals _ o.totals (edge_fit w.last w.first (o.last h) (o.first h)))

-- The totals of a ring that is an open walk's with the closing edge can be added.
pub ring_within : (w : Walk) (ring : Totals) → impossible_walk w ≡ false → w.is_open ≡ true → 3 ≤ w.count → ring ≡ closed_totals w → exceed total_limits ring ≡ false
ring_within w ring e o h is =
    let some : w.count ≡ 0 → ⊥ = λ z. omega arith in
    rw is (closed_within w (possible_open w e o) some)

-- The same of a walk that 28 and 21 do not refuse, and its ends are within the limits.
pub open_totals_within : (w : Walk) → impossible_walk w ≡ false → w.is_open ≡ true → exceed total_limits w.totals ≡ false
open_totals_within w e o = walked_within w (possible_open w e o)

pub open_last_inside : (w : Walk) → impossible_walk w ≡ false → w.is_open ≡ true → (w.count ≡ 0 → ⊥) → outside w.last ≡ false
open_last_inside w e o h = (possible_open w e o).last h

pub open_first_inside : (w : Walk) → impossible_walk w ≡ false → w.is_open ≡ true → (w.count ≡ 0 → ⊥) → outside w.first ≡ false
open_first_inside w e o h = (possible_open w e o).first h
