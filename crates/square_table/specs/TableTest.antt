-- Document 02, CR 6: the rule of the annex as one test over a whole table, and what a table that passes it has. Proved in proofs/TestedTable.
use Rattle.std.specs.Prelude.{◌≡◌, Bool, true, ◌&&◌, List, [], ◌∷◌, ℕ, suc, ◌+◌, ◌*◌, ◌≤◌, eqb, length, get_or}
use Rattle.column_sums.specs.SumsBelow.{square_sum}

-- The first number is s, and each next one is more by the square of the place before it; the places count from k. Each number is looked at once.
abbrev pub adds_squares : ℕ → ℕ → List ℕ → Bool
adds_squares k s [] = true
adds_squares k s (x ∷ xs) = eqb x s && adds_squares (suc k) (s + k * k) xs

abbrev pub EntriesByTest : Type 0
EntriesByTest =
    -- For every table of 1,025 numbers that passes the test from place 0 and number 0,
    (table : List ℕ)
    → length table ≡ 1025
    → adds_squares 0 0 table ≡ true
    -- and every k up to 1,024,
    → (k : ℕ)
    → k ≤ 1024
    -- entry k is the sum of j² for j below k.
    → get_or table k 0 ≡ square_sum k
