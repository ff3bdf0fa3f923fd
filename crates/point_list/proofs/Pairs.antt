-- A list of numbers and its points: the length and the points by the numbers, and that the numbers of all pairs are searched as the definition searches the points; and the step of that search.
use mathlib.Core.Path.{◌≡◌, refl, sym, ◌∙◌, ap}
use mathlib.Core.Bool.{Bool, false, ◌||◌, or-false, or_assoc}
use mathlib.Core.List.{List, [], ◌∷◌}
use Prim.Native.Nat.{ℕ, zero, suc, ◌+◌, ◌*◌, ◌/◌, ◌%◌, ◌<◌, ◌≤◌}
use native.Mathlib.Nat.{not-suc-le-zero, le_of_suc-le-suc}
use native.Mathlib.Numerals.{add-one}
use native.Mathlib.Omega.{arith}
use lib.Dec.{eqb, ltb}
use lib.IntN.{ℤ, pos}
use lib.ListN.{length, get_or, get_or-eq_default, take}
use Rattle.std.specs.List.{list_any}
use Rattle.outline.specs.EdgeSums.{over}
use Rattle.outline.specs.ListCall.{points, beyond, any_beyond, wrong_length}
use Rattle.outline.specs.WalkCalls.{origin}
use Rattle.outline.proofs.IndexLaws.{length-points, points-at}

pub length_by_numbers : (zs : List ℤ) → wrong_length zs ≡ (eqb (length zs % 2) 1 || ltb (length zs / 2) 3 || ltb 1024 (length zs / 2))
unfolding wrong_length
length_by_numbers zs = rw length-points

pub point_by_numbers : (zs : List ℤ) (k : ℕ) → k < length zs / 2 → get_or (points zs) k origin ≡ record { x = get_or zs (2 * k) (pos 0); y = get_or zs (2 * k + 1) (pos 0) }
point_by_numbers zs k h = points-at zs k origin (omega arith)

pub no_point : (zs : List ℤ) (k : ℕ) → length zs / 2 ≤ k → get_or (points zs) k origin ≡ origin
no_point zs k h = get_or-eq_default (points zs) origin (omega (arith, length-points zs))

-- A number that is left without its pair is in no point.
pub beyond_by_numbers : (limit : ℕ) (zs : List ℤ) → any_beyond limit (points zs) ≡ list_any (over limit) (take (length zs / 2 * 2) zs)
unfolding points beyond any_beyond
beyond_by_numbers limit [] = refl
beyond_by_numbers limit (x ∷ []) = refl
beyond_by_numbers limit (x ∷ y ∷ zs) = or_assoc (over limit x) (over limit y) (any_beyond limit (points zs)) ∙ ap (λ b. over limit x || (over limit y || b)) (beyond_by_numbers limit zs) ∙ sym (ap (λ n. list_any (over limit) (take n (x ∷ y ∷ zs))) two_more)
  where
    two_more : suc (suc (length zs)) / 2 * 2 ≡ suc (suc (length zs / 2 * 2))
    two_more = omega arith

-- ---- the search by index

module _ (limit : ℕ) where
  -- Whether some number of the list is over the limit in size.
  unfoldable pub any_over : List ℤ → Bool
  any_over [] = false
  any_over (z ∷ zs) = over limit z || any_over zs

  -- It is the library's search, of which the invariant of the code's loop speaks.
  pub any_over_is : (zs : List ℤ) → any_over zs ≡ list_any (over limit) zs
  unfolding any_over
  any_over_is [] = refl
  any_over_is (z ∷ zs) = ap (λ b. over limit z || b) (any_over_is zs)

  one_more : (zs : List ℤ) (i : ℕ) → i < length zs → any_over (take (suc i) zs) ≡ (any_over (take i zs) || over limit (get_or zs i (pos 0)))
  unfolding any_over
  one_more [] i h = absurd (not-suc-le-zero h)
  one_more (z ∷ zs) zero h = or-false (over limit z)
  one_more (z ∷ zs) (suc i) h = ap (λ b. over limit z || b) (one_more zs i (le_of_suc-le-suc h)) ∙ sym (or_assoc (over limit z) (any_over (take i zs)) (over limit (get_or zs i (pos 0))))

  -- Among the first i + 1 numbers, as among the first i or at number i.
  pub over-next : (zs : List ℤ) (i : ℕ) → i < length zs → any_over (take (i + 1) zs) ≡ (any_over (take i zs) || over limit (get_or zs i (pos 0)))
  over-next zs i h = rw add-one (one_more zs i h)

  -- Among the numbers of all pairs, as among the points. A number that is left without its pair is in no point.
  pub over_pairs : (zs : List ℤ) → any_over (take (length (points zs) * 2) zs) ≡ any_beyond limit (points zs)
  unfolding any_over points beyond any_beyond
  over_pairs [] = refl
  over_pairs (x ∷ []) = refl
  over_pairs (x ∷ y ∷ zs) = ap (λ n. any_over (take n (x ∷ y ∷ zs))) two_more ∙ ap (λ b. over limit x || (over limit y || b)) (over_pairs zs) ∙ sym (or_assoc (over limit x) (over limit y) (any_beyond limit (points zs)))
    where
      two_more : suc (length (points zs)) * 2 ≡ suc (suc (length (points zs) * 2))
      two_more = omega arith
