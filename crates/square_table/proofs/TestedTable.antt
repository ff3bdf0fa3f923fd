-- Document 02, CR 6: a table that passes the test of the rule is the annex, and so has its entries.
use mathlib.Core.Path.{◌≡◌, refl, sym, ◌∙◌, ap}
use mathlib.Core.Bool.{true}
use mathlib.Core.List.{List, [], ◌∷◌}
use Prim.Native.Nat.{ℕ, suc, ◌+◌, ◌*◌, ◌<◌}
use native.Mathlib.Omega.{arith}
use lib.Dec.{eqb}
use lib.ListN.{length, get_or}
use borrow.Author.Tests.{eqb-true}
use Rattle.integers.proofs.Flags.{and_left, and_right}
use Rattle.column_sums.specs.SumsBelow.{square_sum}
use Rattle.column_sums.specs.Annex.{entries_from, square_sums}
use Rattle.column_sums.proofs.Entries.{entry_is}
use Rattle.square_table.specs.TableTest.{adds_squares, EntriesByTest}

passed : (k : ℕ) (xs : List ℕ) → adds_squares k (square_sum k) xs ≡ true → xs ≡ entries_from k (length xs)
unfolding square_sum entries_from
passed k [] t = refl
passed k (x ∷ xs) t =
    let first = eqb-true x (square_sum k) (and_left (eqb x (square_sum k)) _ t) in
    let others = passed (suc k) xs (and_right (eqb x (square_sum k)) _ t) in
    λ i. first i ∷ others i

-- A table of 1,025 numbers that passes the test is the annex.
pub is_annex : (table : List ℕ) → length table ≡ 1025 → adds_squares 0 0 table ≡ true → table ≡ square_sums
unfolding square_sum square_sums
is_annex table n t = passed 0 table t ∙ ap (entries_from 0) n

pub entries_by_test : EntriesByTest
entries_by_test table n t k h = entry_is k (is_annex table n t) h

-- ---- use: each entry but the first is the one before it and a square more

one-square-more : (table : List ℕ) → length table ≡ 1025 → adds_squares 0 0 table ≡ true → (k : ℕ) → k < 1024 → get_or table (suc k) 0 ≡ get_or table k 0 + k * k
unfolding square_sum
one-square-more table n t k h = entries_by_test table n t (suc k) (omega arith) ∙ ap (λ s. s + k * k) (sym (entries_by_test table n t k (omega arith)))
