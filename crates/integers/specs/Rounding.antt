-- A quotient rounded to a whole number, halves up: document 01, "Centre", and document 02, CR 9, for a float's exact value.
use Rattle.std.specs.Prelude.{ℕ, zero, suc, ◌*◌, Bool, ◌&&◌, cond, ℤ, pos, neg_ℤ, nat_abs, ◌+ℤ◌, ◌-ℤ◌, ◌*ℤ◌}
use Rattle.std.specs.Int.Signed.{le_z, lt_z}

-- N / D rounds to k: 2×k×D − D ≤ 2×N < 2×k×D + D, so that a half goes up.
unfoldable pub rounds_to : ℤ → ℤ → ℤ → Bool
rounds_to n d k = le_z (pos 2 *ℤ k *ℤ d -ℤ d) (pos 2 *ℤ n) && lt_z (pos 2 *ℤ n) (pos 2 *ℤ k *ℤ d +ℤ d)

-- The first of `count` whole numbers from k on that N / D rounds to, and 0 where there is none.
unfoldable pub first_rounded : ℤ → ℤ → ℤ → ℕ → ℤ
first_rounded n d k zero = pos 0
first_rounded n d k (suc count) = cond (rounds_to n d k) k (first_rounded n d (k +ℤ pos 1) count)

-- N / D rounded, looked for from −|N| to |N|: D is at least 1, so the quotient is no greater in size than N.
-- For every such D it is the one whole number that `rounds_to` holds of (proofs/HalfUp).
unfoldable pub round_half_up : ℤ → ℤ → ℤ
round_half_up n d = first_rounded n d (neg_ℤ (pos (nat_abs n))) (suc (2 * nat_abs n))
