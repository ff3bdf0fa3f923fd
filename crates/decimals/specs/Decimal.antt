-- Document 01, "The text program": a number of the output, as bytes.
use Rattle.std.specs.Prelude.{ℕ, zero, suc, ◌+◌, ◌/◌, ◌%◌, cond, List, [], ◌∷◌, ◌++◌, ltb, ℤ, pos, negsuc}

-- The decimal digits of n, at most `most` of them.
unfoldable pub digits : ℕ → ℕ → List ℕ
digits zero n = []
digits (suc most) n = cond (ltb n 10) ((48 + n) ∷ []) (digits most (n / 10) ++ (48 + n % 10) ∷ [])

-- A number has no more digits than its value and one.
unfoldable pub decimal : ℕ → List ℕ
decimal n = digits (suc n) n

-- A minus before a negative number.
unfoldable pub signed : ℤ → List ℕ
signed (pos n) = decimal n
signed (negsuc n) = 45 ∷ decimal (suc n)

-- A tab and a number.
abbrev pub field : ℤ → List ℕ
field z = 9 ∷ signed z
