-- The lines of the annex: one more, and how long they get.
use Prim.Native.Nat.{ℕ, zero, suc, ◌+◌, ◌*◌, ◌≤◌}
use mathlib.Core.Path.{◌≡◌, refl, sym, ap, ◌∙◌}
use mathlib.Core.List.{◌++◌, append_assoc, append-nil}
use native.Mathlib.Omega.{arith}
use lib.ListN.{length, length-append}
use Rattle.column_sums.specs.SumsBelow.{square_sum}
use Rattle.column_sums.proofs.SumBounds.{square-sized}
use Rattle.decimals.specs.Decimal.{signed}
use Rattle.decimals.proofs.FieldLaws.{natural_length}
use Rattle.column_sums.specs.Annex.{entries_from}
use Rattle.square_annex.specs.Printed.{line_of, lines_of}

-- One entry more, which is entry m, is one line more.
pub one_line_more : (k n m : ℕ) → k + n ≡ m → lines_of (entries_from k (suc n)) ≡ lines_of (entries_from k n) ++ line_of (square_sum m)
unfolding lines_of entries_from
one_line_more k zero m e = append-nil (line_of (square_sum k)) ∙ ap (λ j. line_of (square_sum j)) (omega arith)
one_line_more k (suc n) m e = ap (λ text. line_of (square_sum k) ++ text) (one_line_more (suc k) n m (omega arith)) ∙ sym (append_assoc (line_of (square_sum k)) (lines_of (entries_from (suc k) n)) (line_of (square_sum m)))

-- Ten digits at most, and a newline.
line_length_lem : (k : ℕ) → k ≤ 1024 → length (line_of (square_sum k)) ≤ 11
unfolding signed
line_length_lem k h = simp length-append (omega (arith, natural_length 9 (square_sum k) (omega (arith, square-sized k h refl))))

pub lines-length : (k n : ℕ) → k + n ≤ 1025 → length (lines_of (entries_from k n)) ≤ 11 * n
unfolding lines_of entries_from
lines-length k zero h = omega arith
lines-length k (suc n) h = omega (arith, length-append (line_of (square_sum k)) (lines_of (entries_from (suc k) n)), line_length_lem k (omega arith), lines-length (suc k) n (omega arith))
