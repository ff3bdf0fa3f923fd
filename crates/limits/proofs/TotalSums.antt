-- Two numbers of at most 10^18 in size have a sum and a difference that fit 64 bits.
use mathlib.Core.Path.{◌≡◌}
use mathlib.Core.List.{List, [], ◌∷◌}
use Prim.Native.Nat.{◌≤◌}
use lib.IntN.{ℤ, nat_abs, ◌+ℤ◌, ◌-ℤ◌}
use mir.Syntax.{w64}
use mir.Val.{SFits}
use Rattle.integers.proofs.SignedCode.{code}
use Rattle.integers.proofs.SizedNumbers.{i64, Sized, sized, fits, is_plain}
use Rattle.outline.specs.MapCall.{total_limit}

module _ (a b : ℤ) (h : nat_abs a ≤ total_limit) (k : nat_abs b ≤ total_limit) where
  abbrev operands : List Sized
  operands = sized a h ∷ sized b k ∷ []

  pub sum_fits : SFits w64 (i64 a +ℤ i64 b)
  sum_fits = fits operands (search code depth 40) tt

  pub sum_is : i64 (i64 a +ℤ i64 b) ≡ a +ℤ b
  sum_is = is_plain operands (search code depth 40) tt

  pub difference_fits : SFits w64 (i64 a -ℤ i64 b)
  difference_fits = fits operands (search code depth 40) tt

  pub difference_is : i64 (i64 a -ℤ i64 b) ≡ a -ℤ b
  difference_is = is_plain operands (search code depth 40) tt
