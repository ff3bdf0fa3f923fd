-- How many bytes a field takes, and a field written after other text.
use Prim.Native.Nat.{ℕ, zero, suc, ◌+◌, ◌^◌, ◌/◌, ◌%◌, ◌≤◌, ◌<◌}
use mathlib.Core.List.{List, [], ◌∷◌, ◌++◌}
use native.Mathlib.Omega.{arith}
use lib.ListN.{length, length-append}
use lib.IntN.{ℤ, pos, negsuc, nat_abs}
use lib.Dec.{ltb}
use borrow.Author.Tests.{lt-ltb}
use mir.Syntax.{w64}
use mir.Val.{SFits, Fits, to_z, of_z}
use mir.ValLaws.{to_z-of_z}
use Rattle.integers.proofs.Cases.{by_cond}
use Rattle.integers.proofs.SignedCode.{sfits_nat_abs}
use Rattle.decimals.specs.Decimal.{digits, decimal, signed, field}
use Rattle.decimals.specs.Buffer.{field_room, if_room, Written}
use Rattle.decimals.proofs.BufferLaws.{SoFar, and_if_room}

-- A number below 10^(k + 1) has k + 1 digits at most.
digits-length : (most k n : ℕ) → n < 10 ^ suc k → length (digits most n) ≤ suc k
unfolding digits
digits-length zero k n h = omega arith
digits-length (suc most) zero n h = rw (lt-ltb n 10 h) (omega arith)
digits-length (suc most) (suc k) n h = by_cond (λ l. length l ≤ suc (suc k)) (ltb n 10) {yes = (48 + n) ∷ []} {no = digits most (n / 10) ++ (48 + n % 10) ∷ []} (λ e. omega arith) (λ e. simp length-append (omega (arith, digits-length most k (n / 10) (omega arith))))

-- With its tab,
pub natural_length : (k n : ℕ) → n < 10 ^ suc k → length (field (pos n)) ≤ k + 2
unfolding signed decimal
natural_length k n h = omega (arith, digits-length (suc n) k n h)

-- and with a minus.
pub field-length : (k : ℕ) (z : ℤ) → nat_abs z < 10 ^ suc k → length (field z) ≤ k + 3
unfolding signed decimal
field-length k (pos n) h = omega (arith, digits-length (suc n) k n h)
field-length k (negsuc n) h = omega (arith, digits-length (suc (suc n)) k (suc n) h)

-- Any of 64 bits.
pub natural_fits : (n : ℕ) → Fits w64 n → length (field (pos n)) ≤ field_room
natural_fits n f = natural_length 19 n (omega (arith, f.fits))

pub field_fits : (z : ℤ) → SFits w64 z → length (field z) ≤ field_room
field_fits z f = field-length 18 z (omega (arith, sfits_nat_abs f))

-- The texts so far, and one field more, whose number the machine holds.
pub and_field : (room : ℕ) {o p x : List ℕ} {at a : ℕ} → SoFar o at x p a (field_room + room) → (z : ℤ) → SFits w64 z → {q : List ℕ} {b : ℕ} → Written p a (if_room field_room p a (field (to_z w64 (of_z w64 z)))) q b → SoFar o at (x ++ field z) q b room
and_field room s z f w = and_if_room field_room room s field_room (field z) (omega arith) (field_fits z f) (rw (to_z-of_z w64 z f) at w)
