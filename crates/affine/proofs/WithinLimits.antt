-- What refusal 3 leaves: a map within the limits, and its determinant is at most 8 in size.
use mathlib.Core.Path.{◌≡◌}
use mathlib.Core.Bool.{false}
use Rattle.integers.proofs.SignedCode.{code}
use Rattle.integers.proofs.Flags.{none_of_six}
use Rattle.outline.specs.declared.AffineMap.{AffineMap}
use Rattle.outline.specs.EdgeSums.{over}
use Rattle.outline.specs.MapCall.{coefficient_limit, shift_limit, disallowed, determinant}
use Rattle.outline.proofs.Limits.{over_not}
use Rattle.affine.specs.private.Limits.{AtMost, MapWithin}
use Rattle.affine.proofs.Operands.{coefficients, small}

pub map_within : (m : AffineMap) → disallowed m ≡ false → MapWithin m
unfolding disallowed
map_within m e =
    let k = none_of_six (over coefficient_limit m.a) (over coefficient_limit m.b) (over coefficient_limit m.g) (over coefficient_limit m.h) (over shift_limit m.e) (over shift_limit m.f) e in
    record {
      u = record { first = over_not coefficient_limit m.a k.0; second = over_not coefficient_limit m.b k.1; shift = over_not shift_limit m.e k.4 };
      v = record { first = over_not coefficient_limit m.g k.2; second = over_not coefficient_limit m.h k.3; shift = over_not shift_limit m.f k.5 };
    }

pub determinant_small : {m : AffineMap} → MapWithin m → AtMost 8 (determinant m)
determinant_small k = small (coefficients k) (search code depth 60 fits 20000) tt
