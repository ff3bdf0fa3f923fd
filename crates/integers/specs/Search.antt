-- The first place where a test holds: where the next run of a mask begins and ends (document 02, CR 1), and which run breaks a rule first (CR 8).
use Rattle.std.specs.Prelude.{ℕ, zero, suc, Bool, cond}

-- The first place that p holds of, among the n places from i on; i + n where there is none.
unfoldable pub first_where : (ℕ → Bool) → ℕ → ℕ → ℕ
first_where p zero i = i
first_where p (suc n) i = cond (p i) i (first_where p n (suc i))
