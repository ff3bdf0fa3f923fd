-- For every D above 0, N / D rounded half up satisfies document 01's inequality, and no other whole number does.
-- Existence: the quotient rounded down of 2×N + D and 2×D satisfies it and is no greater in size than N, so the search finds one. Uniqueness is `nearest_unique`.
use Prim.Native.Nat.{ℕ, zero, suc, ◌+◌, ◌*◌, ◌-◌, ◌/◌, ◌<◌}
use mathlib.Core.Path.{◌≡◌, refl, sym, ◌∙◌}
use mathlib.Core.Bool.{Bool, true, false, ◌&&◌, cond}
use mathlib.Core.List.{List, [], ◌∷◌}
use native.Mathlib.Omega.{arith}
use lib.Dec.{T}
use lib.IntN.{ℤ, pos, neg_ℤ, nat_abs, ◌+ℤ◌, ◌-ℤ◌, ◌*ℤ◌, +ℤ_idr, +ℤ_assoc}
use lib.Signed.{◌≤ℤ◌, ◌<ℤ◌, le_z, lt_z, quot_z, rem_z}
use Rattle.std.specs.Int.{int_div_euclid}
use Rattle.integers.proofs.Ring.{quote}
use Rattle.integers.proofs.Order.{pp, nn, parts, nat_abs_parts, sum_parts, pp_neg, nn_neg, orders, lt_parts, le_true, lt_true, mul_mono, not_lt}
use Rattle.integers.proofs.Linear.{≤→, →≤, <→, →<}
use Rattle.integers.proofs.Floor.{Nearest, nearest_is, nearest_z_is, nearest_unique}
use Rattle.integers.specs.Rounding.{rounds_to, first_rounded, round_half_up}

-- ---- the test and the inequality

both_hold : (a b : Bool) → (a && b) ≡ true → (a ≡ true) × (b ≡ true)
both_hold true b e = (refl, e)
both_hold false b e = let z : ◌≡◌ {A = ℕ} 0 1 = cc in absurd (omega arith)

hold_both : (a b : Bool) → T a → T b → (a && b) ≡ true
hold_both true true t u = refl
hold_both true false t u = absurd u
hold_both false b t u = absurd t

test_nearest : {n d k : ℤ} → rounds_to n d k ≡ true → Nearest n d k
unfolding rounds_to
test_nearest {n} {d} {k} e =
    let f = both_hold (le_z (pos 2 *ℤ k *ℤ d -ℤ d) (pos 2 *ℤ n)) (lt_z (pos 2 *ℤ n) (pos 2 *ℤ k *ℤ d +ℤ d)) e in
    record { low = le_true _ _ f.0; high = lt_true _ _ f.1 }

nearest_test : {n d k : ℤ} → Nearest n d k → rounds_to n d k ≡ true
unfolding rounds_to
nearest_test {n} {d} {k} h = hold_both (le_z (pos 2 *ℤ k *ℤ d -ℤ d) (pos 2 *ℤ n)) (lt_z (pos 2 *ℤ n) (pos 2 *ℤ k *ℤ d +ℤ d)) h.low.le h.high.lt

-- ---- the search finds one where one of the numbers that it looks at satisfies the inequality

one_of : (n d k rest : ℤ) (b : Bool) → rounds_to n d k ≡ b → rounds_to n d rest ≡ true → rounds_to n d (cond b k rest) ≡ true
one_of n d k rest true t e = t
one_of n d k rest false t e = e

found : (n d k : ℤ) (count i : ℕ) → i < count → rounds_to n d (k +ℤ pos i) ≡ true → rounds_to n d (first_rounded n d k count) ≡ true
unfolding first_rounded
found n d k zero i h e = absurd (omega arith)
found n d k (suc count) zero h e = let t : rounds_to n d k ≡ true = rw +ℤ_idr at e in rw t t
found n d k (suc count) (suc i) h e =
    let s : suc i ≡ 1 + i = omega arith in
    one_of n d k (first_rounded n d (k +ℤ pos 1) count) (rounds_to n d k) refl (found n d (k +ℤ pos 1) count i (omega arith) (rw +ℤ_assoc (rw (← s) e)))

-- ---- a number that satisfies the inequality is no greater in size than N

module _ (n d k a : ℤ) (h : pos 0 <ℤ d) (f : Nearest n d k) (p : pos 0 ≤ℤ a) where
  abbrev ρ : List ℤ
  ρ = n ∷ d ∷ k ∷ a ∷ []

  -- for D is at least 1
  grown : a ≤ℤ (d *ℤ a)
  grown = →≤ ρ (search quote depth 20) (search quote depth 20) (omega (arith, ≤→ ρ (search quote depth 20) (search quote depth 20) (mul_mono {a = pos 1} {b = d} {c = a} p (omega orders))))

  at_least : neg_ℤ a ≤ℤ n → neg_ℤ a ≤ℤ k
  at_least u = not_lt λ (l : k <ℤ neg_ℤ a).
      let m = mul_mono {a = k} {b = neg_ℤ a -ℤ pos 1} {c = d} (omega orders) (→≤ ρ (search quote depth 20) (search quote depth 20) (omega (arith, <→ ρ (search quote depth 20) (search quote depth 20) l))) in
      omega (arith, ≤→ ρ (search quote depth 20) (search quote depth 20) m, ≤→ ρ (search quote depth 20) (search quote depth 20) grown, ≤→ ρ (search quote depth 20) (search quote depth 20) u, <→ ρ {a = pos 0} {b = d} (search quote depth 20) (search quote depth 20) h, <→ ρ (search quote depth 20) (search quote depth 20) f.high)

  at_most : n ≤ℤ a → k ≤ℤ a
  at_most u = not_lt λ (l : a <ℤ k).
      let m = mul_mono {a = a +ℤ pos 1} {b = k} {c = d} (omega orders) (→≤ ρ (search quote depth 20) (search quote depth 20) (omega (arith, lt_parts l))) in
      omega (arith, ≤→ ρ (search quote depth 20) (search quote depth 20) m, ≤→ ρ (search quote depth 20) (search quote depth 20) grown, ≤→ ρ (search quote depth 20) (search quote depth 20) u, <→ ρ {a = pos 0} {b = d} (search quote depth 20) (search quote depth 20) h, ≤→ ρ (search quote depth 20) (search quote depth 20) f.low)

-- ---- the theorems

-- where a number lies on the way from −m to m
place : (m : ℕ) (k : ℤ) → neg_ℤ (pos m) ≤ℤ k → k ≤ℤ pos m → (i : ℕ) × (i < suc (2 * m)) × (neg_ℤ (pos m) +ℤ pos i ≡ k)
place m k l u =
    let i = m + pp k - nn k in (
      i,
      omega (orders, pp_neg (pos m), nn_neg (pos m)),
      parts (omega (orders, sum_parts (neg_ℤ (pos m)) (pos i), pp_neg (pos m), nn_neg (pos m))),
    )

pub half_up_holds : (n d : ℤ) → pos 0 <ℤ d → rounds_to n d (round_half_up n d) ≡ true
unfolding round_half_up
half_up_holds n d h =
    let k = int_div_euclid (pos 2 *ℤ n +ℤ d) (pos 2 *ℤ d) in
    let f : Nearest n d k = nearest_is n d h in
    let m = nat_abs n in
    let p = place m k (at_least n d k (pos m) h f (omega orders) (omega (orders, nat_abs_parts n, pp_neg (pos m), nn_neg (pos m)))) (at_most n d k (pos m) h f (omega orders) (omega (orders, nat_abs_parts n))) in
    found n d (neg_ℤ (pos m)) (suc (2 * m)) p.0 p.1 (rw p.2 (nearest_test f))

-- a number of which the inequality holds is the quotient rounded
pub nearest_half_up : (n d k : ℤ) → pos 0 <ℤ d → Nearest n d k → k ≡ round_half_up n d
nearest_half_up n d k h f = nearest_unique n d k (round_half_up n d) h f (test_nearest (half_up_holds n d h))

pub half_up_only : (n d k : ℤ) → pos 0 <ℤ d → rounds_to n d k ≡ true → k ≡ round_half_up n d
half_up_only n d k h e = nearest_half_up n d k h (test_nearest e)

-- N greater by j times D rounds to a number greater by j.
pub half_up_moves : (n d k j : ℤ) → rounds_to n d k ≡ true → rounds_to (n +ℤ j *ℤ d) d (k +ℤ j) ≡ true
half_up_moves n d k j e =
    let ρ = n ∷ d ∷ k ∷ j ∷ [] in
    let f = test_nearest e in
    nearest_test
    (record {
      low = →≤ ρ (search quote depth 20) (search quote depth 20) (omega (arith, ≤→ ρ (search quote depth 20) (search quote depth 20) f.low));
      high = →< ρ (search quote depth 20) (search quote depth 20) (omega (arith, <→ ρ (search quote depth 20) (search quote depth 20) f.high));
    })

-- So the quotient rounded is greater by j.
pub half_up_plus : (n d j : ℤ) → pos 0 <ℤ d → round_half_up (n +ℤ j *ℤ d) d ≡ round_half_up n d +ℤ j
half_up_plus n d j h = sym (half_up_only (n +ℤ j *ℤ d) d (round_half_up n d +ℤ j) h (half_up_moves n d (round_half_up n d) j (half_up_holds n d h)))

-- The inequality, of the quotient rounded.
pub half_up_nearest : (n d : ℤ) → pos 0 <ℤ d → Nearest n d (round_half_up n d)
half_up_nearest n d h = test_nearest (half_up_holds n d h)

-- The quotient rounded is that of 2×N + D and 2×D rounded down.
pub euclid_rounds : (n d : ℤ) → pos 0 <ℤ d → int_div_euclid (pos 2 *ℤ n +ℤ d) (pos 2 *ℤ d) ≡ round_half_up n d
euclid_rounds n d h = nearest_half_up n d _ h (nearest_is n d h)

-- The same by the quotient toward zero, less 1 where the remainder is negative.
pub rounded_down : (n d : ℤ) → pos 0 <ℤ d → (b : Bool) {z : ℤ} → lt_z (rem_z (pos 2 *ℤ n +ℤ d) (pos 2 *ℤ d)) (pos 0) ≡ b → z ≡ cond b (quot_z (pos 2 *ℤ n +ℤ d) (pos 2 *ℤ d) -ℤ pos 1) (quot_z (pos 2 *ℤ n +ℤ d) (pos 2 *ℤ d)) → z ≡ round_half_up n d
rounded_down n d h b t e = e ∙ rw (← t) (nearest_half_up n d _ h (nearest_z_is n d h))

-- The same of natural numbers.
pub half_up_natural : (n d : ℕ) → 0 < d → round_half_up (pos n) (pos d) ≡ pos ((2 * n + d) / (2 * d))
half_up_natural n d h = sym (euclid_rounds (pos n) (pos d) (omega orders))
