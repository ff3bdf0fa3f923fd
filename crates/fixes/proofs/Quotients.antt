-- What the code's shifts compute: (q + h) / D rounded down, with h the half of D, is q / D rounded, halves up; and with 1 less above the line, the size of -q / D rounded so.
use mathlib.Core.Path.{◌≡◌, ◌∙◌, ap}
use mathlib.Core.Bool.{Bool, true, false}
use mathlib.Core.List.{[], ◌∷◌}
use Prim.Native.Nat.{ℕ, zero, suc, ◌+◌, ◌-◌, ◌*◌, ◌/◌, ◌%◌, ◌<◌, ◌≤◌, ◌^◌}
use native.Mathlib.Nat.{div-add-mod', mod-lt, one-mul, mod-eq_of_lt, two-pow-succ, lt_of_le_of_lt}
use native.Mathlib.Omega.{arith}
use lib.Dec.{lit<}
use lib.Pow.{pow_pos, pow_mono}
use lib.IntN.{ℤ, pos, neg_ℤ, ◌+ℤ◌, ◌*ℤ◌, ◌-ℤ◌}
use lib.Signed.{◌≤ℤ◌, ◌<ℤ◌}
use Rattle.integers.proofs.Ring.{quote}
use Rattle.integers.proofs.Order.{parts, sum_parts, lt_parts, parts_lt, le_parts, parts_le}
use Rattle.integers.proofs.Linear.{→≤, →<, ≡→, →≡}
use Rattle.integers.proofs.Floor.{Nearest}
use Rattle.receiver.specs.private.Signed.{signed}
use Rattle.fixes.specs.private.Coordinates.{rounded_size}

-- ---- the quotient rounded down, by its remainder r

floor_near : (q h d k r : ℤ) → k *ℤ d +ℤ r ≡ q +ℤ h → d ≡ h +ℤ h → pos 0 ≤ℤ r → r <ℤ d → Nearest q d k
floor_near q h d k r whole twice least most =
    let ρ = q ∷ h ∷ d ∷ k ∷ r ∷ [] in
    let W = ≡→ ρ {a = k *ℤ d +ℤ r} {b = q +ℤ h} (search quote depth 20) (search quote depth 20) whole in
    let D = ≡→ ρ {a = d} {b = h +ℤ h} (search quote depth 20) (search quote depth 20) twice in
    record {
      low = →≤ ρ (search quote depth 20) (search quote depth 20) (omega (arith, W, D, le_parts least));
      high = →< ρ (search quote depth 20) (search quote depth 20) (omega (arith, W, D, lt_parts most));
    }

up_near : (q h D : ℕ) → 0 < h → D ≡ h + h → Nearest (pos q) (pos D) (pos ((q + h) / D))
up_near q h D p e =
    let rest : (q + h) % D < D = mod-lt (q + h) (omega arith) in
    floor_near (pos q) (pos h) (pos D) (pos ((q + h) / D)) (pos ((q + h) % D)) (ap pos (div-add-mod' (q + h) D)) (ap pos e)
    (parts_le (omega arith)) (parts_lt (omega arith))

-- ---- the same below zero: the remainder is turned into d - 1 - r

turned : (q h d k r : ℤ) → k *ℤ d +ℤ r ≡ q +ℤ h -ℤ pos 1 → d ≡ h +ℤ h → neg_ℤ k *ℤ d +ℤ (d -ℤ pos 1 -ℤ r) ≡ neg_ℤ q +ℤ h
turned q h d k r whole twice =
    let ρ = q ∷ h ∷ d ∷ k ∷ r ∷ [] in
    →≡ ρ (search quote depth 20) (search quote depth 20)
    (omega (arith, ≡→ ρ {a = k *ℤ d +ℤ r} {b = q +ℤ h -ℤ pos 1} (search quote depth 20) (search quote depth 20) whole, ≡→ ρ {a = d} {b = h +ℤ h} (search quote depth 20) (search quote depth 20) twice))

least : (d r : ℤ) → r <ℤ d → pos 0 ≤ℤ (d -ℤ pos 1 -ℤ r)
least d r h = →≤ (d ∷ r ∷ []) (search quote depth 20) (search quote depth 20) (omega (arith, lt_parts h))

most : (d r : ℤ) → pos 0 ≤ℤ r → (d -ℤ pos 1 -ℤ r) <ℤ d
most d r h = →< (d ∷ r ∷ []) (search quote depth 20) (search quote depth 20) (omega (arith, le_parts h))

less_one : (n : ℕ) → 0 < n → pos (n - 1) ≡ pos n -ℤ pos 1
less_one n h = parts (omega (arith, sum_parts (pos n) (neg_ℤ (pos 1))))

down_near : (q h D : ℕ) → 0 < h → D ≡ h + h → Nearest (neg_ℤ (pos q)) (pos D) (neg_ℤ (pos ((q + h - 1) / D)))
down_near q h D p e =
    let m : ℕ = q + h - 1 in
    let rest : m % D < D = mod-lt m (omega arith) in
    floor_near (neg_ℤ (pos q)) (pos h) (pos D) (neg_ℤ (pos (m / D))) (pos D -ℤ pos 1 -ℤ pos (m % D))
    (turned (pos q) (pos h) (pos D) (pos (m / D)) (pos (m % D)) (ap pos (div-add-mod' m D) ∙ less_one (q + h) (omega arith)) (ap pos e)) (ap pos e)
    (least (pos D) (pos (m % D)) (parts_lt (omega arith))) (most (pos D) (pos (m % D)) (parts_le (omega arith)))

-- ---- by powers of 2, as the code has them

twice : (d : ℕ) → 1 ≤ d → 2 ^ d ≡ 2 ^ (d - 1) + 2 ^ (d - 1)
twice zero h = absurd (omega arith)
twice (suc d) h = let same : d ≡ suc d - 1 = omega arith in two-pow-succ d ∙ ap (λ (k : ℕ). 2 ^ k + 2 ^ k) same

-- The size that the code computes, with its sign, is the nearest whole number.
pub size-near : (s : Bool) (q d : ℕ) → 1 ≤ d → Nearest (signed s q) (pos (2 ^ d)) (signed s (rounded_size s q d))
unfolding rounded_size
size-near false q d h = up_near q (2 ^ (d - 1)) (2 ^ d) (pow_pos (d - 1)) (twice d h)
size-near true q d h = down_near q (2 ^ (d - 1)) (2 ^ d) (pow_pos (d - 1)) (twice d h)

pub half_le : (d : ℕ) → d ≤ 24 → 2 ^ (d - 1) ≤ 8388608
half_le d h = pow_mono {i = d - 1} {j = 23} (omega arith)

-- 1 shifted by d - 1 loses nothing.
pub half_is : (d : ℕ) → d ≤ 24 → 1 * 2 ^ (d - 1) % 4294967296 ≡ 2 ^ (d - 1)
half_is d h = ap (λ (n : ℕ). n % 4294967296) (one-mul (2 ^ (d - 1))) ∙ mod-eq_of_lt (lt_of_le_of_lt (half_le d h) (lit< tt))
