-- Document 01, "Walk and sheet" (an outline as one list of numbers) and the refusals 1 and 2: the outcome of the call on a whole list.
use Rattle.std.specs.Prelude.{ℕ, ◌%◌, Bool, false, ◌||◌, cond, List, [], ◌∷◌, ltb, eqb, length, ℤ}
use Rattle.outline.specs.declared.Position.{Position}
use Rattle.outline.specs.declared.Totals.{Totals}
use Rattle.outline.specs.EdgeSums.{outline_totals, zeros, over}

-- What a call that gives totals answers: number 0 and the totals where it is accepted, else the number of its refusal and zeros.
pub record Outcome : Type 0 where
  pub number : ℕ
  pub totals : Totals

abbrev pub accepted : Totals → Outcome
accepted t = record { number = 0; totals = t }

abbrev pub refused : ℕ → Outcome
refused n = record { number = n; totals = zeros }

-- The points of a list of numbers that alternates x and y.
unfoldable pub points : List ℤ → List Position
points [] = []
points (x ∷ []) = []
points (x ∷ y ∷ zs) = record { x = x; y = y } ∷ points zs

-- The list of numbers of some points.
unfoldable pub numbers : List Position → List ℤ
numbers [] = []
numbers (p ∷ ps) = p.x ∷ p.y ∷ numbers ps

-- A coordinate is below -n or above n: of a point, and of some point of a list.
unfoldable pub beyond : ℕ → Position → Bool
beyond n p = over n p.x || over n p.y

unfoldable pub any_beyond : ℕ → List Position → Bool
any_beyond n [] = false
any_beyond n (p ∷ ps) = beyond n p || any_beyond n ps

-- Refusal 1: a coordinate is below -2,000 or above 2,000.
abbrev pub outside : Position → Bool
outside p = beyond 2000 p

abbrev pub any_outside : List Position → Bool
any_outside ps = any_beyond 2000 ps

-- Refusal 2: an x is left without its y, or the number of points is not from 3 to 1,024.
unfoldable pub wrong_length : List ℤ → Bool
wrong_length zs = eqb (length zs % 2) 1 || ltb (length (points zs)) 3 || ltb 1024 (length (points zs))

-- Order: 2, 1.
unfoldable pub list_call : List ℤ → Outcome
list_call zs =
    cond (wrong_length zs) (refused 2)
    (cond (any_outside (points zs)) (refused 1)
    (accepted (outline_totals (points zs))))
