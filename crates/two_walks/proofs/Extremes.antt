-- The least and the greatest of the numbers that f gives for the elements of a list: some element has it, and none goes past it.
use Prim.Native.Nat.{ℕ, ◌≤◌, ◌<◌, min, max}
use mathlib.Core.Path.{◌≡◌, refl, ap}
use mathlib.Core.List.Memᴰ
use mathlib.Core.List.{List, [], ◌∷◌, map, Memᴰ}
use mathlib.Core.Logic.{inl, inr}
use native.Mathlib.Nat.{not-suc-le-zero}
use native.Mathlib.Omega.{arith, min_cases, max_cases}
use lib.ListN.{length}
use Rattle.two_walks.specs.Distances.{least_of, greatest_of}

module _ {X : Type 0} (f : X → ℕ) where
  -- The number n is that of an element.
  abbrev pub Reached : List X → ℕ → Type 0
  Reached xs n = (x : X) × Memᴰ x xs × (f x ≡ n)

  of_more : (y : X) (xs : List X) {m n : ℕ} → Reached xs m → n ≡ m → Reached (y ∷ xs) n
  of_more y xs r e = (r.0, Memᴰ.tail r.1, omega (arith, r.2))

  -- ---- the least

  pub least_at_most : (xs : List X) (x : X) → Memᴰ x xs → least_of (map f xs) ≤ f x
  unfolding least_of
  least_at_most [] x m = absurd (Memᴰ.not-nil m)
  least_at_most (y ∷ []) x m = elim (Memᴰ.cases_cons m) [ inl e ↦ omega (arith, ap f e) | inr k ↦ absurd (Memᴰ.not-nil k) ]
  least_at_most (y ∷ z ∷ xs) x m = elim (Memᴰ.cases_cons m) [ inl e ↦ omega (arith, ap f e) | inr k ↦ omega (arith, least_at_most (z ∷ xs) x k) ]

  pub least_reached : (xs : List X) → 0 < length xs → Reached xs (least_of (map f xs))
  unfolding least_of
  least_reached [] h = absurd (not-suc-le-zero h)
  least_reached (y ∷ []) h = (y, Memᴰ.head refl, refl)
  least_reached (y ∷ z ∷ xs) h = min_cases (f y) (least_of (map f (z ∷ xs))) (Reached (y ∷ z ∷ xs) (min (f y) (least_of (map f (z ∷ xs)))))
      (λ l e. (y, Memᴰ.head refl, omega arith))
      (λ l e. of_more y (z ∷ xs) (least_reached (z ∷ xs) (omega arith)) e)

  -- ---- the greatest

  pub greatest_at_least : (xs : List X) (x : X) → Memᴰ x xs → f x ≤ greatest_of (map f xs)
  unfolding greatest_of
  greatest_at_least [] x m = absurd (Memᴰ.not-nil m)
  greatest_at_least (y ∷ xs) x m = elim (Memᴰ.cases_cons m) [ inl e ↦ omega (arith, ap f e) | inr k ↦ omega (arith, greatest_at_least xs x k) ]

  pub greatest_at_most : (xs : List X) (n : ℕ) → ((x : X) → Memᴰ x xs → f x ≤ n) → greatest_of (map f xs) ≤ n
  unfolding greatest_of
  greatest_at_most [] n h = omega arith
  greatest_at_most (y ∷ xs) n h = omega (arith, h y (Memᴰ.head refl), greatest_at_most xs n (λ x m. h x (Memᴰ.tail m)))

  pub greatest_reached : (xs : List X) → 0 < length xs → Reached xs (greatest_of (map f xs))
  unfolding greatest_of
  greatest_reached [] h = absurd (not-suc-le-zero h)
  greatest_reached (y ∷ []) h = (y, Memᴰ.head refl, omega arith)
  greatest_reached (y ∷ z ∷ xs) h = max_cases (f y) (greatest_of (map f (z ∷ xs))) (Reached (y ∷ z ∷ xs) (max (f y) (greatest_of (map f (z ∷ xs)))))
      (λ l e. of_more y (z ∷ xs) (greatest_reached (z ∷ xs) (omega arith)) e)
      (λ l e. (y, Memᴰ.head refl, omega arith))
