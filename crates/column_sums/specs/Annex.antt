-- Document 02, CR 6: the entries of the annex.
use Rattle.std.specs.Prelude.{ℕ, zero, suc, List, [], ◌∷◌}
use Rattle.column_sums.specs.SumsBelow.{square_sum}

-- n entries, from entry k on. Entry k is the sum of j² for j below k.
unfoldable pub entries_from : ℕ → ℕ → List ℕ
entries_from k zero = []
entries_from k (suc n) = square_sum k ∷ entries_from (suc k) n

-- The entries 0 to 1,024.
unfoldable pub square_sums : List ℕ
square_sums = entries_from 0 1025
