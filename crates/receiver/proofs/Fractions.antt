-- Fractions with the nearest whole number: equal ones have the same, and a whole number has itself.
use mathlib.Core.Path.{◌≡◌, sym, ◌∙◌, ap}
use mathlib.Core.Bool.{Bool, true, false}
use mathlib.Core.List.{[], ◌∷◌}
use mathlib.Core.Logic.{inl, inr}
use Prim.Native.Nat.{ℕ, ◌*◌}
use native.Mathlib.Omega.{arith}
use lib.IntN.{ℤ, pos, neg_ℤ, ◌+ℤ◌, ◌*ℤ◌, ◌-ℤ◌}
use lib.Signed.{◌<ℤ◌, clash_ℤ}
use Rattle.integers.proofs.Laws.{neg_mul}
use Rattle.integers.proofs.Ring.{quote}
use Rattle.integers.proofs.Order.{orders, lt_parts, le_or_lt, mul_mono}
use Rattle.integers.proofs.Linear.{≤→, →≤, <→, →<, ≡→}
use Rattle.integers.proofs.Floor.{Nearest, mul_lt, mul_cancel_le}
use Rattle.receiver.specs.private.Signed.{signed}

mul_cancel_lt : {a b c : ℤ} → pos 0 <ℤ c → (a *ℤ c) <ℤ (b *ℤ c) → a <ℤ b
mul_cancel_lt {a} {b} {c} h k = elim (le_or_lt b a) [ inl l ↦ absurd (clash_ℤ k (mul_mono {a = b} {b = a} {c = c} (omega orders) l)) | inr l ↦ l ]

-- Equal fractions, n / d and a / c, round alike.
pub same_fraction : (a c n d k : ℤ) → pos 0 <ℤ c → pos 0 <ℤ d → n *ℤ c ≡ a *ℤ d → Nearest a c k → Nearest n d k
same_fraction a c n d k hc hd e f =
    let ρ = a ∷ c ∷ n ∷ d ∷ k ∷ [] in
    let E = ≡→ ρ {a = n *ℤ c} {b = a *ℤ d} (search quote depth 20) (search quote depth 20) e in
    record {
      low =
          mul_cancel_le {a = pos 2 *ℤ k *ℤ d -ℤ d} {b = pos 2 *ℤ n} {c = c} hc
          (→≤ ρ (search quote depth 20) (search quote depth 20)
          (omega (arith, E, ≤→ ρ (search quote depth 20) (search quote depth 20) (mul_mono {a = pos 2 *ℤ k *ℤ c -ℤ c} {b = pos 2 *ℤ a} {c = d} (omega orders) f.low))));
      high =
          mul_cancel_lt {a = pos 2 *ℤ n} {b = pos 2 *ℤ k *ℤ d +ℤ d} {c = c} hc
          (→< ρ (search quote depth 20) (search quote depth 20)
          (omega (arith, E, <→ ρ (search quote depth 20) (search quote depth 20) (mul_lt {a = pos 2 *ℤ a} {b = pos 2 *ℤ k *ℤ c +ℤ c} {c = d} hd f.high))));
    }

-- The same factor on both sizes is one on both numbers.
pub signed_times : (s : Bool) (n c a d : ℕ) → n * c ≡ a * d → signed s n *ℤ pos c ≡ signed s a *ℤ pos d
signed_times false n c a d e = ap pos e
signed_times true n c a d e = neg_mul (pos n) (pos c) ∙ ap (λ (x : ℕ). neg_ℤ (pos x)) e ∙ sym (neg_mul (pos a) (pos d))

-- k × d over d rounds to k.
pub whole-nearest : (d k : ℤ) → pos 0 <ℤ d → Nearest (k *ℤ d) d k
whole-nearest d k h =
    let ρ = d ∷ k ∷ [] in
    record {
      low = →≤ ρ (search quote depth 20) (search quote depth 20) (omega (arith, lt_parts h));
      high = →< ρ (search quote depth 20) (search quote depth 20) (omega (arith, lt_parts h));
    }
