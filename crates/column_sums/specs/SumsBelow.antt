-- Document 01, "Cells", and document 02, CR 6: the sums of the column indices below k and of their squares, by which the sums of x and of x² over a run are computed.
use Rattle.std.specs.Prelude.{ℕ, zero, suc, ◌+◌, ◌*◌}

-- 0 + 1 + .. + (k − 1).
unfoldable pub index_sum : ℕ → ℕ
index_sum zero = 0
index_sum (suc k) = index_sum k + k

-- 0² + 1² + .. + (k − 1)².
unfoldable pub square_sum : ℕ → ℕ
square_sum zero = 0
square_sum (suc k) = square_sum k + k * k
