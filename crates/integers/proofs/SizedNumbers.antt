-- The numbers that code computes with, each with a bound on its size, in one list; and what `SignedCode` says of code on them:
--     add-sum c = fits (operands c) (search code depth 40) tt      -- this step fits
--     returns c = is_plain (operands c) (search code depth 40) tt  -- the result is the plain expression
use mathlib.Core.Path.{◌≡◌, ◌∙◌}
use mathlib.Core.List.{List, [], ◌∷◌}
use mathlib.Core.Bool.{Bool}
use Prim.Native.Nat.{ℕ, ◌<◌, ◌≤◌, ◌^◌}
use lib.Dec.{T, leb, ltb}
use lib.IntN.{ℤ, pos, nat_abs}
use lib.Signed.{mag, ◌<ℤ◌}
use mir.Syntax.{Width, w64}
use mir.Val.{SFits, hbits, to_z, of_z}
use mir.Facts.{to_z-of_z}
use Rattle.integers.proofs.Bounds.{Within}
use Rattle.integers.proofs.SignedCode.{Code, plain, size, both, steps, runs, run_fits, run_within, run-divisor, Test, plain_t, steps_t, tested}

-- A number as code reads it back from an i64.
abbrev pub i64 : ℤ → ℤ
i64 z = to_z w64 (of_z w64 z)

-- What a call gives, kept in an i64, where it is known to be z, and z to be v.
pub called : {r z v : ℤ} → z ≡ v → mag r < 2 ^ 63 → r ≡ z → i64 r ≡ v
called f ok e = to_z-of_z {w = w64} (record { sfits = ok }) ∙ e ∙ f

pub record Sized : Type 0 where
  pub number : ℤ
  pub bound : ℕ
  pub small : nat_abs number ≤ bound

abbrev pub sized : (z : ℤ) {n : ℕ} → nat_abs z ≤ n → Sized
sized z {n} h = record { number = z; bound = n; small = h }

abbrev pub numbers : List Sized → List ℤ
numbers [] = []
numbers (x ∷ l) = x.number ∷ numbers l

abbrev pub bounds : List Sized → List ℕ
bounds [] = []
bounds (x ∷ l) = x.bound ∷ bounds l

pub all_within : (l : List Sized) → Within (numbers l) (bounds l)
all_within [] = tt
all_within (x ∷ l) = (x.small, all_within l)

module _ (l : List Sized) where
  -- a step fits its type
  pub fits : {w : Width} {z : ℤ} (k : Code (numbers l) z) → T (both (ltb (size (bounds l) k) (2 ^ hbits w)) (steps (bounds l) k)) → SFits w z
  fits k t = run_fits (numbers l) (bounds l) (all_within l) k t

  -- what the code computes is the plain expression
  pub is_plain : {z : ℤ} (k : Code (numbers l) z) → T (steps (bounds l) k) → z ≡ plain k
  is_plain k t = runs (numbers l) (bounds l) (all_within l) k t

  -- it is at most K in size
  pub at_most : {z : ℤ} {K : ℕ} (k : Code (numbers l) z) → T (both (leb (size (bounds l) k) K) (steps (bounds l) k)) → nat_abs z ≤ K
  at_most k t = run_within (numbers l) (bounds l) (all_within l) k t

  -- a divisor is above 0, by its bits
  pub divisor : (w : Width) {n : ℕ} (k : Code (numbers l) (to_z w n)) → T (steps (bounds l) k) → pos 0 <ℤ plain k → 0 < n
  divisor w k t p = run-divisor (numbers l) (bounds l) (all_within l) w k t p

  -- a test of the code is the plain test
  pub plain_test : {b v : Bool} → b ≡ v → (k : Test (numbers l) b) → T (steps_t (bounds l) k) → plain_t k ≡ v
  plain_test e k t = tested (numbers l) (bounds l) (all_within l) e k t
