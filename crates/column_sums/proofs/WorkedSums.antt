-- The sums below small numbers and below 1,024, by computation from the definitions; and that of the numbers below the largest u16, by the closed formula.
use mathlib.Core.Path.{◌≡◌, refl}
use mathlib.Core.List.{List, [], ◌∷◌, map}
use Prim.Native.Nat.{ℕ}
use native.Mathlib.Omega.{arith}
use Rattle.column_sums.specs.SumsBelow.{index_sum, square_sum}
use Rattle.column_sums.proofs.ClosedFormula.{index-closed}

abbrev numbers : List ℕ
numbers = 0 ∷ 1 ∷ 2 ∷ 5 ∷ 1023 ∷ 1024 ∷ []

index-sums : map index_sum numbers ≡ 0 ∷ 0 ∷ 1 ∷ 10 ∷ 522_753 ∷ 523_776 ∷ []
unfolding index_sum
index-sums = refl

square-sums : map square_sum numbers ≡ 0 ∷ 0 ∷ 1 ∷ 30 ∷ 356_343_295 ∷ 357_389_824 ∷ []
unfolding square_sum
square-sums = refl

largest_index_sum : index_sum 65_535 ≡ 2_147_385_345
largest_index_sum = omega (arith, index-closed 65_535)
