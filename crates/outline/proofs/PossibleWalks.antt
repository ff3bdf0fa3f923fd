-- What is known of walks and sheets that 28 does not refuse.
use mathlib.Core.Path.{◌≡◌}
use mathlib.Core.Bool.{Bool, true, false, not, ◌&&◌, ◌||◌}
use Prim.Native.Nat.{◌≤◌}
use borrow.Author.Tests.{ltb-false, ne_eqb}
use lib.Dec.{ltb, eqb}
use Rattle.integers.proofs.Flags.{or_left, or_right}
use Rattle.receiver.specs.Floats.{not_finite, below_zero}
use Rattle.outline.specs.declared.Walk.{Walk}
use Rattle.outline.specs.declared.Sheet.{Sheet}
use Rattle.outline.specs.EdgeSums.{exceed}
use Rattle.outline.specs.ListCall.{outside}
use Rattle.outline.specs.MapCall.{total_limits}
use Rattle.outline.specs.WalkCalls.{share, impossible_walk, impossible_sheet}
use Rattle.outline.specs.private.Fit.{Fit}
use Rattle.outline.proofs.Limits.{exceed_fit}

-- Of an open walk.
pub record PossibleOpen (w : Walk) : Type 0 where
  pub count : w.count ≤ 1024
  pub first : (w.count ≡ 0 → ⊥) → outside w.first ≡ false
  pub last : (w.count ≡ 0 → ⊥) → outside w.last ≡ false
  pub totals : Fit (share w.count) w.totals
  pub finite : not_finite w.outage ≡ false
  pub not_below : below_zero w.outage ≡ false

pub possible_open : (w : Walk) → impossible_walk w ≡ false → w.is_open ≡ true → PossibleOpen w
unfolding impossible_walk
possible_open w e o =
    let many : Bool = ltb 1024 w.count in
    let ends : Bool = not (eqb w.count 0) && (outside w.first || outside w.last) in
    let large : Bool = exceed (share w.count) w.totals in
    let infinite : Bool = not_finite w.outage in
    let below : Bool = below_zero w.outage in
    let all : (many || ends || large || infinite || below) ≡ false = rw o at e in
    let finite = or_left (many || ends || large || infinite) below all in
    let sized = or_left (many || ends || large) infinite finite in
    let front = or_left (many || ends) large sized in
    record {
      count = ltb-false 1024 w.count (or_left many ends front);
      first = λ h. or_left (outside w.first) (outside w.last) (rw (ne_eqb w.count 0 h) at (or_right many ends front));
      last = λ h. or_right (outside w.first) (outside w.last) (rw (ne_eqb w.count 0 h) at (or_right many ends front));
      totals = exceed_fit (share w.count) w.totals (or_right (many || ends) large sized);
      finite = or_right (many || ends || large) infinite finite;
      not_below = or_right (many || ends || large || infinite) below all;
    }

pub sheet_within : (s : Sheet) → impossible_sheet s ≡ false → exceed total_limits s.totals ≡ false
unfolding impossible_sheet
sheet_within s e = or_right (ltb 64 s.count) (exceed total_limits s.totals) e
