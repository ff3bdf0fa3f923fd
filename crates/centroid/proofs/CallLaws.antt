-- What the outcome of the call for a centre says: where there is a centre, D is above 0, the inequality holds of each of its numbers and of no other; else it is zeros.
use mathlib.Core.Path.{◌≡◌, refl}
use mathlib.Core.Bool.{Bool, true, false, cond}
use mathlib.Core.Logic.{◌≢◌}
use native.Mathlib.Omega.{arith}
use lib.Dec.{eqb}
use lib.IntN.{ℤ, pos, nat_abs, ◌*ℤ◌}
use lib.Signed.{◌<ℤ◌}
use Rattle.outline.specs.declared.Totals.{Totals}
use Rattle.outline.specs.EdgeSums.{exceed}
use Rattle.outline.specs.MapCall.{total_limits}
use Rattle.outline.proofs.Limits.{exceed_fit}
use Rattle.integers.specs.Rounding.{rounds_to, round_half_up}
use Rattle.centroid.specs.Centroid.{CentroidOutcome, refused, centred, signed_by, outline_centroid_call}
use Rattle.integers.proofs.HalfUp.{half_up_holds, half_up_only}
use Rattle.centroid.proofs.Limits.{quotient_bounds}

-- k is the one centre of N and D.
pub record IsTheCentre (n d k : ℤ) : Type 0 where
  pub above : pos 0 <ℤ d
  pub holds : rounds_to n d k ≡ true
  pub only : (j : ℤ) → rounds_to n d j ≡ true → j ≡ k

-- The outcome of a call whose quotients are of nx and ny over d: a centre, or a refusal with zeros.
pub record Centred (nx ny d : ℤ) (r : CentroidOutcome) : Type 0 where
  pub x : r.number ≡ 0 → IsTheCentre nx d r.x
  pub y : r.number ≡ 0 → IsTheCentre ny d r.y
  pub zeros : r.number ≢ 0 → (r.x ≡ pos 0) × (r.y ≡ pos 0)

the_centre : (n d : ℤ) → pos 0 <ℤ d → IsTheCentre n d (round_half_up n d)
the_centre n d h = record { above = h; holds = half_up_holds n d h; only = λ j e. half_up_only n d j h e }

by_tests : (nx ny d : ℤ) (a b : Bool) → (a ≡ false → b ≡ false → pos 0 <ℤ d) → Centred nx ny d (cond a (refused 11) (cond b (refused 27) (centred nx ny d)))
by_tests nx ny d true b h = record { x = λ e. absurd (omega arith); y = λ e. absurd (omega arith); zeros = λ _. (refl, refl) }
by_tests nx ny d false true h = record { x = λ e. absurd (omega arith); y = λ e. absurd (omega arith); zeros = λ _. (refl, refl) }
by_tests nx ny d false false h = record { x = λ _. the_centre nx d (h refl refl); y = λ _. the_centre ny d (h refl refl); zeros = λ f. absurd (f refl) }

pub outline-centre : (t : Totals) → Centred (signed_by t.a2 t.x6) (signed_by t.a2 t.y6) (signed_by t.a2 (pos 3 *ℤ t.a2)) (outline_centroid_call t)
unfolding outline_centroid_call
outline-centre t = by_tests _ _ _ (exceed total_limits t) (eqb (nat_abs t.a2) 0) (λ e f. let fit = exceed_fit total_limits t e in (quotient_bounds t.x6 t.a2 fit.x6 fit.a2 f).above)
