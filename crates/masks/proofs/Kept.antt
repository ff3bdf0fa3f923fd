-- A sum that the code copies from one struct to another stays what it is.
use mathlib.Core.Path.{◌≡◌}
use mathlib.Core.List.{[], ◌∷◌}
use Prim.Native.Nat.{◌≤◌, ◌^◌}
use lib.IntN.{ℤ, nat_abs}
use Rattle.integers.proofs.SignedCode.{code}
use Rattle.integers.proofs.SizedNumbers.{i64, sized, is_plain}

pub kept : (z : ℤ) → nat_abs z ≤ 2 ^ 31 → i64 z ≡ z
kept z h = is_plain (sized z h ∷ []) (search code depth 40) tt
