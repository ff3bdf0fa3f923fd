-- What stands at each place of the annex.
use mathlib.Core.Path.{◌≡◌, refl, ◌∙◌, ap}
use mathlib.Core.List.{List}
use Prim.Native.Nat.{ℕ, zero, suc, ◌+◌, ◌<◌, ◌≤◌}
use native.Mathlib.Omega.{arith}
use lib.IntN.{pos, ◌-ℤ◌}
use lib.ListN.{length, get_or, get_or-eq_default}
use Rattle.column_sums.specs.SumsBelow.{square_sum}
use Rattle.column_sums.specs.Annex.{entries_from, square_sums}
use Rattle.column_sums.specs.AnnexLaws.{EveryEntry, PastTheEnd}

at_place : (k n i : ℕ) → i < n → get_or (entries_from k n) i 0 ≡ square_sum (k + i)
unfolding entries_from
at_place k zero i h = elim h [ ]
at_place k (suc n) zero h = ap square_sum (omega arith)
at_place k (suc n) (suc i) h = at_place (suc k) n i (omega arith) ∙ ap square_sum (omega arith)

as_many : (k n : ℕ) → length (entries_from k n) ≡ n
unfolding entries_from
as_many k zero = refl
as_many k (suc n) = ap suc (as_many (suc k) n)

pub every_entry : EveryEntry
unfolding square_sums
every_entry k h = at_place 0 1025 k (omega arith) ∙ ap square_sum (omega arith)

pub past_the_end : PastTheEnd
unfolding square_sums
past_the_end k h = get_or-eq_default square_sums 0 (omega (arith, as_many 0 1025))

-- ---- what is read from a table that is the annex

pub entry_is : {table : List ℕ} (k : ℕ) → table ≡ square_sums → k ≤ 1024 → get_or table k 0 ≡ square_sum k
entry_is k annex h = ap (λ entries. get_or entries k 0) annex ∙ every_entry k h

pub difference_is : {table : List ℕ} (first end : ℕ) → table ≡ square_sums → first ≤ 1024 → end ≤ 1024 → pos (get_or table end 0) -ℤ pos (get_or table first 0) ≡ pos (square_sum end) -ℤ pos (square_sum first)
difference_is first end annex f e = λ i. pos (entry_is end annex e i) -ℤ pos (entry_is first annex f i)
