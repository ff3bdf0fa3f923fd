-- Numbers whose rounding the code need not compute: less than a half is 0, and 2^23 or more is outside.
use mathlib.Core.Bool.{Bool, true, false}
use mathlib.Core.List.{[], ◌∷◌}
use Prim.Native.Nat.{ℕ, ◌*◌, ◌<◌, ◌≤◌}
use native.Mathlib.Omega.{arith}
use lib.IntN.{ℤ, pos, neg_ℤ, nat_abs, ◌+ℤ◌, ◌*ℤ◌, ◌-ℤ◌}
use lib.Signed.{◌≤ℤ◌, ◌<ℤ◌}
use Rattle.integers.proofs.Laws.{mul_neg}
use Rattle.integers.proofs.Ring.{quote}
use Rattle.integers.proofs.Order.{orders, pp_neg, nn_neg, lt_parts, parts_lt, parts_le, mul_mono, nat_abs_parts}
use Rattle.integers.proofs.Linear.{≤→, →≤, <→, →<}
use Rattle.integers.proofs.Floor.{Nearest}
use Rattle.receiver.specs.private.Signed.{signed}

neg_anti : {a b : ℤ} → a ≤ℤ b → neg_ℤ b ≤ℤ neg_ℤ a
neg_anti {a} {b} h = parts_le (omega (orders, pp_neg a, nn_neg a, pp_neg b, nn_neg b))

between : (n d : ℤ) → (neg_ℤ d) ≤ℤ (pos 2 *ℤ n) → (pos 2 *ℤ n) <ℤ d → Nearest n d (pos 0)
between n d l h =
    let ρ = n ∷ d ∷ [] in
    record {
      low = →≤ ρ {a = pos 2 *ℤ pos 0 *ℤ d -ℤ d} {b = pos 2 *ℤ n} (search quote depth 20) (search quote depth 20) (omega (arith, ≤→ ρ (search quote depth 20) (search quote depth 20) l));
      high = →< ρ {a = pos 2 *ℤ n} {b = pos 2 *ℤ pos 0 *ℤ d +ℤ d} (search quote depth 20) (search quote depth 20) (omega (arith, <→ ρ (search quote depth 20) (search quote depth 20) h));
    }

-- Less than a half rounds to 0, on either side of it.
pub small_near : (s : Bool) (a c : ℕ) → 2 * a < c → Nearest (signed s a) (pos c) (pos 0)
small_near false a c h = between (pos a) (pos c) (parts_le (omega (arith, pp_neg (pos c)))) (parts_lt (omega arith))
small_near true a c h =
    between (neg_ℤ (pos a)) (pos c)
    (rw (mul_neg (pos 2) (pos a)) (neg_anti {a = pos 2 *ℤ pos a} {b = pos c} (parts_le (omega arith))))
    (rw (mul_neg (pos 2) (pos a)) (parts_lt (omega (arith, pp_neg (pos (2 * a)), nn_neg (pos (2 * a))))))

-- A number of 2^23 or more by size does not round to one of 2,000 or less.
far : (n d k : ℤ) → pos 0 <ℤ d → Nearest n d k → nat_abs k ≤ 2000 → ((pos 8388608 *ℤ d) ≤ℤ n → ⊥) × (n ≤ℤ (neg_ℤ (pos 8388608 *ℤ d)) → ⊥)
far n d k h f small =
    let ρ = n ∷ d ∷ k ∷ [] in
    let above : k ≤ℤ pos 2000 = parts_le (omega (arith, nat_abs_parts k)) in
    let below : neg_ℤ (pos 2000) ≤ℤ k = parts_le (omega (arith, nat_abs_parts k)) in
    let A = ≤→ ρ (search quote depth 20) (search quote depth 20) (mul_mono {a = k} {b = pos 2000} {c = d} (omega orders) above) in
    let B = ≤→ ρ (search quote depth 20) (search quote depth 20) (mul_mono {a = neg_ℤ (pos 2000)} {b = k} {c = d} (omega orders) below) in
    let L = ≤→ ρ (search quote depth 20) (search quote depth 20) f.low in
    let H = <→ ρ (search quote depth 20) (search quote depth 20) f.high in (
      (λ (g : (pos 8388608 *ℤ d) ≤ℤ n). omega (arith, A, H, lt_parts h, ≤→ ρ (search quote depth 20) (search quote depth 20) g)),
      (λ (g : n ≤ℤ (neg_ℤ (pos 8388608 *ℤ d))). omega (arith, B, L, lt_parts h, ≤→ ρ (search quote depth 20) (search quote depth 20) g)),
    )

pub large_far : (s : Bool) (a c : ℕ) (k : ℤ) → 0 < c → 8388608 * c ≤ a → Nearest (signed s a) (pos c) k → nat_abs k ≤ 2000 → ⊥
large_far false a c k h g f small = (far (pos a) (pos c) k (parts_lt (omega arith)) f small).0 (parts_le (omega arith))
large_far true a c k h g f small = (far (neg_ℤ (pos a)) (pos c) k (parts_lt (omega arith)) f small).1 (neg_anti {a = pos 8388608 *ℤ pos c} {b = pos a} (parts_le (omega arith)))
