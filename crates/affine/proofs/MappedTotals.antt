-- The map call by the outcome of its three tests, and the mapped totals as the brackets, each times the determinant.
use mathlib.Core.Path.{◌≡◌, refl, ap₂}
use mathlib.Core.Bool.{Bool, true, false, cond}
use lib.IntN.{ℤ}
use Rattle.std.specs.Prelude.{Some, None}
use Rattle.std.specs.Option.{ok_or}
use Rattle.outline.specs.declared.Totals.{Totals}
use Rattle.outline.specs.declared.AffineMap.{AffineMap}
use Rattle.outline.specs.EdgeSums.{exceed, outline_bounds}
use Rattle.outline.specs.ListCall.{accepted, refused}
use Rattle.outline.specs.MapCall.{disallowed, determinant, brackets, scaled, mapped, total_limits, map_call}
use Rattle.affine.specs.declared.MapRefusal.TheVariants.{ResultOutsideLimits}
use Rattle.affine.specs.Answer.{reading}

module _ (m : AffineMap) (t : Totals) where
  pub scaled-brackets : {d : ℤ} {s : Totals} → d ≡ determinant m → s ≡ brackets m t → scaled d s ≡ mapped m t
  scaled-brackets p q = ap₂ scaled p q

  pub by_tests : {a b c : Bool} → disallowed m ≡ a → exceed outline_bounds t ≡ b → exceed total_limits (mapped m t) ≡ c → map_call m t ≡ cond a (refused 3) (cond b (refused 4) (cond c (refused 5) (accepted (mapped m t))))
  unfolding map_call
  by_tests p q r i = cond (p i) (refused 3) (cond (q i) (refused 4) (cond (r i) (refused 5) (accepted (mapped m t))))

-- the answer by the last test
pub told_or_refused : (b : Bool) (t : Totals) → reading (ok_or (cond b None (Some t)) ResultOutsideLimits) ≡ cond b (refused 5) (accepted t)
told_or_refused true t = refl
told_or_refused false t = refl
