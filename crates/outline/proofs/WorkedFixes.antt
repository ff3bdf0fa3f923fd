-- Fixes by the bits of their floats: the point of each or its refusal, and which refusal comes first, from the definitions.
use Prim.Native.Nat.{ℕ}
use mathlib.Core.Path.{◌≡◌, refl}
use mathlib.Core.Bool.{cond}
use lib.IntN.{ℤ, pos, negsuc}
use lib.Count.{count_trailing_zeros}
use lib.Ieee.{of_bits, of_fields, odd}
use Rattle.receiver.specs.declared.Fix.{Fix}
use Rattle.receiver.specs.Floats.{not_finite}
use Rattle.receiver.proofs.WorkedFloats.{float, Rounds, at_limits, about_zero, greatest}
use Rattle.outline.specs.declared.Position.{Position}
use Rattle.outline.specs.EdgeSums.{over}
use Rattle.outline.specs.ListCall.{beyond, outside}
use Rattle.outline.specs.FixCall.{FixOutcome, no_point, fix_not_finite, fix_point_call}

-- The fix of two floats, each by its bits.
abbrev fix : ℕ → ℕ → Fix
fix east north = record { east = float east; north = float north }

-- What a point answers by itself: 1 where it is outside.
abbrev answered : Position → FixOutcome
answered p = cond (outside p) (no_point 1) (record { number = 0; point = p })

-- Two finite floats answer as the whole numbers do that they round to.
finite : {a b : ℕ} {x y : ℤ} → Rounds a x → Rounds b y → fix_point_call (fix a b) ≡ answered (record { x = x; y = y })
unfolding fix_not_finite fix_point_call
finite e n = rw (e.finite, n.finite, e.rounds, n.rounds)

-- ---- accepted, and 1

abbrev at : ℤ → ℤ → FixOutcome
at x y = record { number = 0; point = record { x = x; y = y } }

record Finite : Type 0 where
  -- (-2000.5, 2000.49988): halves go up, and both are at the limits
  at_both_limits : fix_point_call (fix 0xC4FA1000 0x44FA0FFF) ≡ at (negsuc 1999) (pos 2000)
  -- the same, exchanged: x is east and y is north
  exchanged : fix_point_call (fix 0x44FA0FFF 0xC4FA1000) ≡ at (pos 2000) (negsuc 1999)
  -- (-0.5, 0.5)
  halves : fix_point_call (fix 0xBF000000 0x3F000000) ≡ at (pos 0) (pos 1)
  -- (-0, 0.49999997)
  zeros : fix_point_call (fix 0x80000000 0x3EFFFFFF) ≡ at (pos 0) (pos 0)
  -- 2000.5 in either coordinate
  east_too_far : fix_point_call (fix 0x44FA1000 0x00000000) ≡ no_point 1
  north_too_far : fix_point_call (fix 0x00000000 0x44FA1000) ≡ no_point 1
  -- -2000.50012 in either coordinate
  west_too_far : fix_point_call (fix 0xC4FA1001 0x00000000) ≡ no_point 1
  south_too_far : fix_point_call (fix 0x00000000 0xC4FA1001) ≡ no_point 1
  -- the greatest float is finite, and outside
  greatest_east : fix_point_call (fix 0x7F7FFFFF 0x00000000) ≡ no_point 1

finite_fixes : Finite
unfolding over beyond
finite_fixes = record {
  at_both_limits = finite at_limits.low_half at_limits.below_high_half;
  exchanged = finite at_limits.below_high_half at_limits.low_half;
  halves = finite about_zero.minus_half about_zero.half;
  zeros = finite about_zero.minus_zero about_zero.below_half;
  east_too_far = finite at_limits.high_half about_zero.plus_zero_lem;
  north_too_far = finite about_zero.plus_zero_lem at_limits.high_half;
  west_too_far = finite at_limits.below_low_half about_zero.plus_zero_lem;
  south_too_far = finite about_zero.plus_zero_lem at_limits.below_low_half;
  greatest_east = finite greatest.itself about_zero.plus_zero_lem;
}

-- ---- 33, before 1: the other float is 2000.5, and either may be the one that is not finite

record NotFiniteFixes : Type 0 where
  -- plus infinity
  infinite_east : fix_point_call (fix 0x7F800000 0x44FA1000) ≡ no_point 33
  infinite_north : fix_point_call (fix 0x44FA1000 0x7F800000) ≡ no_point 33
  -- minus infinity
  minus_infinite_east : fix_point_call (fix 0xFF800000 0x44FA1000) ≡ no_point 33
  minus_infinite_north : fix_point_call (fix 0x44FA1000 0xFF800000) ≡ no_point 33
  -- not a number
  no_number_east : fix_point_call (fix 0x7FC00000 0x44FA1000) ≡ no_point 33
  no_number_north : fix_point_call (fix 0x44FA1000 0x7FC00000) ≡ no_point 33
  -- both
  both_infinite : fix_point_call (fix 0xFF800000 0xFF800000) ≡ no_point 33
  infinite_and_no_number : fix_point_call (fix 0x7F800000 0x7FC00000) ≡ no_point 33

not_finite_fixes : NotFiniteFixes
unfolding not_finite fix_not_finite fix_point_call of_bits of_fields odd count_trailing_zeros
not_finite_fixes = record { infinite_east = refl; infinite_north = refl; minus_infinite_east = refl; minus_infinite_north = refl; no_number_east = refl; no_number_north = refl; both_infinite = refl; infinite_and_no_number = refl }
