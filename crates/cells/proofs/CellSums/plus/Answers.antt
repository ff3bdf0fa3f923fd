-- `cells::CellSums::plus` meets its contract: the bounds keep each of the six sums within 64 bits.
use mathlib.Core.Path.{◌≡◌}
use mathlib.Core.List.{[], ◌∷◌}
use Prim.Native.Nat.{◌≤◌, ◌^◌}
use native.Mathlib.Omega.{arith}
use lib.IntN.{ℤ, nat_abs, ◌+ℤ◌}
use mir.Syntax.{w64}
use mir.Val.{to_z, of_z}
use Rattle.integers.proofs.SignedCode.{code}
use Rattle.integers.proofs.SizedNumbers.{sized, is_plain}
use Rattle.cells.proofs.CellSums.plus.Goals as goal

sum_is : (a b : ℤ) → nat_abs a ≤ 2 ^ 42 → nat_abs b ≤ 2 ^ 30 → to_z w64 (of_z w64 (to_z w64 (of_z w64 a) +ℤ to_z w64 (of_z w64 b))) ≡ a +ℤ b
sum_is a b h k = is_plain (sized a h ∷ sized b k ∷ []) (search code depth 40) tt

pub returns : goal.returns
returns c =
    let s = c.args.self in
    let t = c.args.more in
    let p = c.requires.sums in
    let q = c.requires.more in
    λ i. record {
      count = sum_is s.count t.count (omega (arith, p.count)) (omega (arith, q.count)) i;
      x = sum_is s.x t.x (omega (arith, p.x)) (omega (arith, q.x)) i;
      y = sum_is s.y t.y (omega (arith, p.y)) (omega (arith, q.y)) i;
      xx = sum_is s.xx t.xx p.xx q.xx i;
      xy = sum_is s.xy t.xy p.xy q.xy i;
      yy = sum_is s.yy t.yy p.yy q.yy i;
    }
