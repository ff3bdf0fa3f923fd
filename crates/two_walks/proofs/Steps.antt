-- The least and the greatest of the numbers that f gives for the first elements of a list, one element after another.
use Prim.Native.Nat.{ℕ, zero, suc, ◌+◌, ◌<◌, min, max}
use mathlib.Core.Path.{◌≡◌, refl}
use mathlib.Core.List.{List, [], ◌∷◌, map}
use native.Mathlib.Nat.{not-suc-le-zero, le_of_suc-le-suc}
use native.Mathlib.Numerals.{add-one}
use native.Mathlib.Omega.{arith}
use lib.ListN.{length, get_or, take}
use Rattle.two_walks.specs.Distances.{least_of, greatest_of}

module _ {X : Type 0} (f : X → ℕ) where
  -- ---- the least

  -- of one element
  pub least_first : (xs : List X) (d : X) → 0 < length xs → least_of (map f (take 1 xs)) ≡ f (get_or xs 0 d)
  unfolding least_of
  least_first [] d h = absurd (not-suc-le-zero h)
  least_first (x ∷ xs) d h = refl

  least_suc : (xs : List X) (k : ℕ) (d : X) → 0 < k → k < length xs → least_of (map f (take (suc k) xs)) ≡ min (least_of (map f (take k xs))) (f (get_or xs k d))
  unfolding least_of
  least_suc [] k d z h = absurd (not-suc-le-zero h)
  least_suc (x ∷ xs) zero d z h = absurd (not-suc-le-zero z)
  least_suc (x ∷ []) (suc k) d z h = absurd (not-suc-le-zero (le_of_suc-le-suc h))
  least_suc (x ∷ y ∷ ys) (suc zero) d z h = refl
  least_suc (x ∷ y ∷ ys) (suc (suc k)) d z h = omega (arith, least_suc (y ∷ ys) (suc k) d (omega arith) (le_of_suc-le-suc h))

  -- of one more than k elements, where there are some
  pub least_next : (xs : List X) (k : ℕ) (d : X) → 0 < k → k < length xs → least_of (map f (take (k + 1) xs)) ≡ min (least_of (map f (take k xs))) (f (get_or xs k d))
  least_next xs k d z h = rw add-one (least_suc xs k d z h)

  -- ---- the greatest

  greatest_suc : (xs : List X) (k : ℕ) (d : X) → k < length xs → greatest_of (map f (take (suc k) xs)) ≡ max (greatest_of (map f (take k xs))) (f (get_or xs k d))
  unfolding greatest_of
  greatest_suc [] k d h = absurd (not-suc-le-zero h)
  greatest_suc (x ∷ xs) zero d h = omega arith
  greatest_suc (x ∷ xs) (suc k) d h = omega (arith, greatest_suc xs k d (le_of_suc-le-suc h))

  -- of one more than k elements
  pub greatest_next : (xs : List X) (k : ℕ) (d : X) → k < length xs → greatest_of (map f (take (k + 1) xs)) ≡ max (greatest_of (map f (take k xs))) (f (get_or xs k d))
  greatest_next xs k d h = rw add-one (greatest_suc xs k d h)
