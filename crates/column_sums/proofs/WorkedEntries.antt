-- The annex at its ends and past them, by computation from the definitions; and the two laws used, where they meet and past it.
use mathlib.Core.Path.{◌≡◌, refl}
use mathlib.Core.List.{List, [], ◌∷◌, map}
use Prim.Native.Nat.{ℕ, ◌+◌}
use native.Mathlib.Omega.{arith}
use lib.ListN.{length, get_or}
use Rattle.column_sums.specs.SumsBelow.{square_sum}
use Rattle.column_sums.specs.Annex.{entries_from, square_sums}
use Rattle.column_sums.proofs.Entries.{every_entry, past_the_end}

abbrev indices : List ℕ
indices = 0 ∷ 1 ∷ 2 ∷ 3 ∷ 4 ∷ 5 ∷ 1023 ∷ 1024 ∷ 1025 ∷ []

entries : map (λ (k : ℕ). get_or square_sums k 0) indices ≡ 0 ∷ 0 ∷ 1 ∷ 5 ∷ 14 ∷ 30 ∷ 356_343_295 ∷ 357_389_824 ∷ 0 ∷ []
unfolding square_sums entries_from square_sum
entries = refl

how_many : length square_sums ≡ 1025
unfolding square_sums entries_from
how_many = refl

last_entry : get_or square_sums 1024 0 ≡ square_sum 1024
last_entry = every_entry 1024 (omega arith)

every_later : (n : ℕ) → get_or square_sums (1025 + n) 0 ≡ 0
every_later n = past_the_end (1025 + n) (omega arith)
