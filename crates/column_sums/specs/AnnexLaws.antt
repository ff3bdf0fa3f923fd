-- Document 02, CR 6: what stands at each index of the annex. Proved in proofs/Entries.
use Rattle.std.specs.Prelude.{ℕ, ◌<◌, ◌≤◌, ◌≡◌, get_or}
use Rattle.column_sums.specs.SumsBelow.{square_sum}
use Rattle.column_sums.specs.Annex.{square_sums}

-- For every k up to 1,024, entry k is the sum of j² for j below k.
abbrev pub EveryEntry : Type 0
EveryEntry = (k : ℕ) → k ≤ 1024 → get_or square_sums k 0 ≡ square_sum k

-- Past entry 1,024, 0 is read.
abbrev pub PastTheEnd : Type 0
PastTheEnd = (k : ℕ) → 1024 < k → get_or square_sums k 0 ≡ 0
