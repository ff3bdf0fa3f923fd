-- Lengths of lines worked by computation: no byte; a newline; B and a newline; B, which nothing ends; a carriage return and two newlines.
use mathlib.Core.Path.{◌≡◌, refl}
use mathlib.Core.List.{[], ◌∷◌, map}
use Rattle.newlines.specs.LineLength.{line_length}

lengths : map line_length ([] ∷ (10 ∷ []) ∷ (66 ∷ 10 ∷ []) ∷ (66 ∷ []) ∷ (13 ∷ 10 ∷ 10 ∷ []) ∷ []) ≡ 0 ∷ 0 ∷ 1 ∷ 1 ∷ 1 ∷ []
unfolding line_length
lengths = refl
