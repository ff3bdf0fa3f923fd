-- Quotients rounded half up, by computation: document 01, "Errors a surveyor would not notice", and all quarters from -6/4 to 6/4.
use mathlib.Core.Path.{◌≡◌, refl}
use mathlib.Core.List.{[], ◌∷◌, map}
use lib.IntN.{pos, negsuc}
use Rattle.integers.specs.Rounding.{rounds_to, first_rounded, round_half_up}

half : round_half_up (pos 1) (pos 2) ≡ pos 1
unfolding rounds_to first_rounded round_half_up
half = refl

minus_three_halves : round_half_up (negsuc 2) (pos 2) ≡ negsuc 0
unfolding rounds_to first_rounded round_half_up
minus_three_halves = refl

quarters : map (λ n. round_half_up n (pos 4)) (negsuc 5 ∷ negsuc 4 ∷ negsuc 3 ∷ negsuc 2 ∷ negsuc 1 ∷ negsuc 0 ∷ pos 0 ∷ pos 1 ∷ pos 2 ∷ pos 3 ∷ pos 4 ∷ pos 5 ∷ pos 6 ∷ [])
    ≡ negsuc 0 ∷ negsuc 0 ∷ negsuc 0 ∷ negsuc 0 ∷ pos 0 ∷ pos 0 ∷ pos 0 ∷ pos 0 ∷ pos 1 ∷ pos 1 ∷ pos 1 ∷ pos 1 ∷ pos 2 ∷ []
unfolding rounds_to first_rounded round_half_up
quarters = refl
