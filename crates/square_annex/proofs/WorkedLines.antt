-- The first lines of the annex, worked by computation: 0, 0, 1, 5, 14, 30, 55, 91, 140. A newline is 10, a digit d 48 + d.
use mathlib.Core.Path.{◌≡◌, refl}
use mathlib.Core.List.{[], ◌∷◌}
use Rattle.column_sums.specs.SumsBelow.{square_sum}
use Rattle.decimals.specs.Decimal.{digits, decimal}
use Rattle.column_sums.specs.Annex.{entries_from}
use Rattle.square_annex.specs.Printed.{lines_of}

first-lines : lines_of (entries_from 0 9) ≡ 48 ∷ 10 ∷ 48 ∷ 10 ∷ 49 ∷ 10 ∷ 53 ∷ 10 ∷ 49 ∷ 52 ∷ 10 ∷ 51 ∷ 48 ∷ 10 ∷ 53 ∷ 53 ∷ 10 ∷ 57 ∷ 49 ∷ 10 ∷ 49 ∷ 52 ∷ 48 ∷ 10 ∷ []
unfolding lines_of entries_from square_sum decimal digits
first-lines = refl
