-- Laws of the search for the first place that a predicate holds of.
use mathlib.Core.Path.{◌≡◌, refl, sym, ap, ap₂, ◌∙◌, subst}
use mathlib.Core.Bool.{Bool, true, false, cond}
use mathlib.Core.Logic.{◌⊎◌, inl, inr}
use Prim.Native.Nat.{ℕ, zero, suc, ◌+◌, ◌≤◌, ◌<◌}
use native.Mathlib.Nat.{add-zero, zero-add, add-suc, suc-add}
use native.Mathlib.Omega.{arith}
use lib.Dec.{T, eqb}
use borrow.Author.Tests.{eqb-true, eqb-false}
use Rattle.integers.specs.Search.{first_where}

module _ (p : ℕ → Bool) where
  -- ---- what is found

  -- With no place to search, the end is the start.
  pub empty_search : (n i : ℕ) → n ≡ 0 → first_where p n i ≡ i
  unfolding first_where
  empty_search n i e = ap (λ (k : ℕ). first_where p k i) e

  -- No place before the first one searched, and none past the end of the search.
  pub found_bounds : (n i : ℕ) → (i ≤ first_where p n i) × (first_where p n i ≤ i + n)
  unfolding first_where
  found_bounds zero i = (omega arith, omega arith)
  found_bounds (suc n) i = by_test (p i) (found_bounds n (suc i))
    where
      by_test : (b : Bool) → (suc i ≤ first_where p n (suc i)) × (first_where p n (suc i) ≤ suc i + n)
          → (i ≤ cond b i (first_where p n (suc i))) × (cond b i (first_where p n (suc i)) ≤ i + suc n)
      by_test true rest = (omega arith, omega arith)
      by_test false rest = (omega arith, omega arith)

  -- The predicate holds of the place found.
  pub found_holds : (n i : ℕ) → first_where p n i < i + n → p (first_where p n i) ≡ true
  unfolding first_where
  found_holds zero i h = absurd (omega arith)
  found_holds (suc n) i h = by_test (p i) refl h (found_holds n (suc i))
    where
      by_test : (b : Bool) → p i ≡ b → cond b i (first_where p n (suc i)) < i + suc n
          → (first_where p n (suc i) < suc i + n → p (first_where p n (suc i)) ≡ true)
          → p (cond b i (first_where p n (suc i))) ≡ true
      by_test true e l rest = e
      by_test false e l rest = rest (omega arith)

  -- It holds of no place before.
  pub none_before : (n i k : ℕ) → i ≤ k → k < first_where p n i → p k ≡ false
  unfolding first_where
  none_before zero i k h l = absurd (omega arith)
  none_before (suc n) i k h l = by_test (p i) refl l (none_before n (suc i) k)
    where
      by_place : (b : Bool) → eqb i k ≡ b → p i ≡ false → (suc i ≤ k → p k ≡ false) → p k ≡ false
      by_place true e clear rest = ap p (sym (eqb-true i k e)) ∙ clear
      by_place false e clear rest = let other : i ≡ k → ⊥ = eqb-false i k e in rest (omega arith)

      by_test : (b : Bool) → p i ≡ b → k < cond b i (first_where p n (suc i))
          → (suc i ≤ k → k < first_where p n (suc i) → p k ≡ false) → p k ≡ false
      by_test true e m rest = absurd (omega arith)
      by_test false e m rest = by_place (eqb i k) refl e (λ after. rest after m)

  -- These facts settle the place: the predicate holds of none before it, and of it, unless it is the end of the search.
  pub found_at : (n i k : ℕ) → i ≤ k → k ≤ i + n → ((j : ℕ) → i ≤ j → j < k → p j ≡ false) → (k ≡ i + n) ⊎ (p k ≡ true)
      → first_where p n i ≡ k
  unfolding first_where
  found_at zero i k h m none last = omega arith
  found_at (suc n) i k h m none last =
      by_place (eqb i k) refl last (λ after rest. found_at n (suc i) k after (omega arith) (λ j l. none j (omega arith)) rest)
    where
      further : (k ≡ i + suc n) ⊎ (p k ≡ true) → (k ≡ suc i + n) ⊎ (p k ≡ true)
      further (inl end) = inl (omega arith)
      further (inr holds) = inr holds

      by_place : (b : Bool) → eqb i k ≡ b → (k ≡ i + suc n) ⊎ (p k ≡ true)
          → (suc i ≤ k → (k ≡ suc i + n) ⊎ (p k ≡ true) → first_where p n (suc i) ≡ k)
          → cond (p i) i (first_where p n (suc i)) ≡ k
      by_place true e (inl end) rest = let same : i ≡ k = eqb-true i k e in absurd (omega arith)
      by_place true e (inr holds) rest =
          let same : i ≡ k = eqb-true i k e in
          ap (λ (b : Bool). cond b i (first_where p n (suc i))) (ap p same ∙ holds) ∙ same
      by_place false e ends rest =
          let other : i ≡ k → ⊥ = eqb-false i k e in
          ap (λ (b : Bool). cond b i (first_where p n (suc i))) (none i (omega arith) (omega arith)) ∙ rest (omega arith) (further ends)

  -- ---- a search in two parts

  -- Nothing in the first part: the search goes on after it.
  pub goes_on : (n m i : ℕ) → first_where p n i ≡ i + n → first_where p (n + m) i ≡ first_where p m (i + n)
  unfolding first_where
  goes_on zero m i e = ap₂ (first_where p) (zero-add m) (sym (add-zero i))
  goes_on (suc n) m i e = ap (λ (k : ℕ). first_where p k i) (suc-add n m) ∙ by_test (p i) e (goes_on n m (suc i))
    where
      by_test : (b : Bool) → cond b i (first_where p n (suc i)) ≡ i + suc n
          → (first_where p n (suc i) ≡ suc i + n → first_where p (n + m) (suc i) ≡ first_where p m (suc i + n))
          → cond b i (first_where p (n + m) (suc i)) ≡ first_where p m (i + suc n)
      by_test true h rest = absurd (omega arith)
      by_test false h rest = let same : suc i + n ≡ i + suc n = omega arith in rest (h ∙ sym same) ∙ ap (first_where p m) same

  -- Something there: it is found.
  pub is_found : (n m i : ℕ) → first_where p n i < i + n → first_where p (n + m) i ≡ first_where p n i
  unfolding first_where
  is_found zero m i h = absurd (omega arith)
  is_found (suc n) m i h = ap (λ (k : ℕ). first_where p k i) (suc-add n m) ∙ by_test (p i) h (is_found n m (suc i))
    where
      by_test : (b : Bool) → cond b i (first_where p n (suc i)) < i + suc n
          → (first_where p n (suc i) < suc i + n → first_where p (n + m) (suc i) ≡ first_where p n (suc i))
          → cond b i (first_where p (n + m) (suc i)) ≡ cond b i (first_where p n (suc i))
      by_test true l rest = refl
      by_test false l rest = rest (omega arith)

  -- The same places, counted from further back.
  pub moved : (q : ℕ → Bool) (b n i : ℕ) → ((k : ℕ) → k < i + n → p (b + k) ≡ q k) → first_where p n (b + i) ≡ b + first_where q n i
  unfolding first_where
  moved q b zero i h = refl
  moved q b (suc n) i h =
      by_test (p (b + i)) (q i) (h i (omega arith)) (ap (first_where p n) (sym (add-suc b i)) ∙ moved q b n (suc i) (λ k l. h k (omega arith)))
    where
      by_test : (x y : Bool) → x ≡ y → first_where p n (suc (b + i)) ≡ b + first_where q n (suc i)
          → cond x (b + i) (first_where p n (suc (b + i))) ≡ b + cond y i (first_where q n (suc i))
      by_test true true e rest = refl
      by_test false false e rest = rest
      by_test true false e rest = absurd (subst T e tt)
      by_test false true e rest = absurd (subst T (sym e) tt)

  -- Two that agree on the places searched find the same place.
  pub same_search : (q : ℕ → Bool) (n i : ℕ) → ((k : ℕ) → i ≤ k → k < i + n → p k ≡ q k) → first_where p n i ≡ first_where q n i
  unfolding first_where
  same_search q zero i h = refl
  same_search q (suc n) i h =
      ap₂ (λ (b : Bool) (rest : ℕ). cond b i rest) (h i (omega arith) (omega arith))
      (same_search q n (suc i) (λ k after l. h k (omega arith) (omega arith)))
