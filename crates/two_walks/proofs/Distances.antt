-- The squared distance of two points: 0 only from a point to itself, and not above that of two opposite corners of the square of all points.
use Prim.Native.Nat.{ℕ, zero, suc, ◌*◌, ◌≤◌}
use mathlib.Core.Path.{◌≡◌, refl}
use native.Mathlib.Nat.{mul-le-mul}
use native.Mathlib.Omega.{arith}
use lib.IntN.{ℤ, neg_ℤ, nat_abs, ◌-ℤ◌, neg_ℤ-neg_ℤ, neg_ℤ-+ℤ, +ℤ_comm, +ℤ_invr}
use Rattle.integers.proofs.Order.{parts, pp_neg, nn_neg, nat_abs_parts, sum_parts, nat_abs_neg, nat_abs_add}
use Rattle.outline.specs.declared.Position.{Position}
use Rattle.outline.proofs.Limits.{Inside}
use Rattle.two_walks.specs.Distances.{square, squared_distance}

-- ---- differences

pub difference_exchanged : (a b : ℤ) → b -ℤ a ≡ neg_ℤ (a -ℤ b)
difference_exchanged a b = rw (neg_ℤ-+ℤ a (neg_ℤ b), neg_ℤ-neg_ℤ b) (+ℤ_comm b (neg_ℤ a))

no_difference : (a b : ℤ) → nat_abs (a -ℤ b) ≡ 0 → a ≡ b
no_difference a b e = parts (omega (arith, nat_abs_parts (a -ℤ b), sum_parts a (neg_ℤ b), pp_neg b, nn_neg b))

pub difference_size : (a b : ℤ) (n : ℕ) → nat_abs a ≤ n → nat_abs b ≤ n → nat_abs (a -ℤ b) ≤ 2 * n
difference_size a b n h k = omega (arith, nat_abs_add a (neg_ℤ b), nat_abs_neg b)

-- ---- squares

square_zero : (n : ℕ) → square n ≡ 0 → n ≡ 0
square_zero zero e = refl
square_zero (suc n) e = absurd (omega (arith, mul-le-mul {n₁ = 1} {m₁ = 1} {n₂ = suc n} {m₂ = suc n} (omega arith) (omega arith)))

-- ---- distances

pub distance_itself : (p : Position) → squared_distance p p ≡ 0
unfolding squared_distance
distance_itself p = rw (+ℤ_invr p.x, +ℤ_invr p.y)

pub distance_zero : (p q : Position) → squared_distance p q ≡ 0 → p ≡ q
unfolding squared_distance
distance_zero p q e =
    let x = no_difference p.x q.x (square_zero (nat_abs (p.x -ℤ q.x)) (omega arith)) in
    let y = no_difference p.y q.y (square_zero (nat_abs (p.y -ℤ q.y)) (omega arith)) in
    λ i. record { x = x i; y = y i }

pub distance_size : (p q : Position) → Inside p → Inside q → squared_distance p q ≤ 32_000_000
unfolding squared_distance
distance_size p q h k =
    let x = difference_size p.x q.x 2000 h.0 k.0 in
    let y = difference_size p.y q.y 2000 h.1 k.1 in
    omega (arith, mul-le-mul x x, mul-le-mul y y)
