-- No size of a drawn float is past infinity's, so it leaves the bit of the sign free.
use mathlib.Core.Bool.{Bool, true, false, cond}
use Prim.Native.Nat.{ℕ, ◌+◌, ◌%◌, ◌≤◌, min}
use native.Mathlib.Omega.{arith}
use lib.Dec.{eqb}
use Rattle.worked_entries.specs.Draws.{drawn_size}

pub size_bound : (kind draw : ℕ) → drawn_size kind draw ≤ 0x7F800000
unfolding drawn_size
size_bound kind draw = go (eqb (kind % 8) 0) (eqb (kind % 8) 1) (eqb (kind % 8) 2)
  where
    go : (a b c : Bool) → cond a 0x7F800000 (cond b (min draw 0x7F800000) (cond c 0 (0x44000000 + draw % 0x1000000))) ≤ 0x7F800000
    go true b c = omega arith
    go false true c = omega arith
    go false false true = omega arith
    go false false false = omega arith
