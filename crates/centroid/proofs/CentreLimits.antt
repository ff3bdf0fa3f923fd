-- Both sides of each limit of 11, at each of the six totals, and where 27 comes, by computation from the definitions.
use Prim.Native.Nat.{ℕ, ◌+◌, ◌^◌}
use mathlib.Core.Path.{◌≡◌, refl}
use mathlib.Core.List.{List, [], ◌∷◌, map}
use lib.IntN.{ℤ, pos, negsuc}
use lib.ListN.{replicate}
use Rattle.outline.specs.declared.Totals.{Totals}
use Rattle.outline.specs.EdgeSums.{over, exceed}
use Rattle.centroid.specs.Centroid.{outline_centroid_call}
use Rattle.centroid.proofs.WorkedCentres.{totals}

-- Six totals of which one is z and the others are 0: each of the six in turn, the area first.
abbrev in_turn : ℤ → List Totals
in_turn z =
    let o = pos 0 in
    totals z o o o o o ∷ totals o z o o o o ∷ totals o o z o o o ∷ totals o o o z o o ∷ totals o o o o z o ∷ totals o o o o o z ∷ []

-- The numbers answered for these. But for the first, the area is 0: what 11 does not refuse is 27, and what 11 refuses is 11 before 27.
abbrev outlines : ℤ → List ℕ
outlines z = map (λ t. (outline_centroid_call t).number) (in_turn z)

-- ---- the limits of 11, and 27 behind them

record Outlines : Type 0 where
  none : outlines (pos 0) ≡ replicate 6 27
  one : outlines (pos 1) ≡ 0 ∷ replicate 5 27
  minus_one : outlines (negsuc 0) ≡ 0 ∷ replicate 5 27
  largest : outlines (pos (10 ^ 18)) ≡ 0 ∷ replicate 5 27
  one-above : outlines (pos (10 ^ 18 + 1)) ≡ replicate 6 11
  least : outlines (negsuc 999_999_999_999_999_999) ≡ 0 ∷ replicate 5 27
  one_below : outlines (negsuc (10 ^ 18)) ≡ replicate 6 11

outline-numbers : Outlines
unfolding over exceed outline_centroid_call
outline-numbers = record { none = refl; one = refl; minus_one = refl; largest = refl; one-above = refl; least = refl; one_below = refl }
