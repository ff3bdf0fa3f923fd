-- The next run from a position on, as the code finds it: how far a mask is scanned, where the run lies, and which run it is.
use mathlib.Core.Path.{◌≡◌, ap, ◌∙◌, subst}
use mathlib.Core.Bool.{false}
use mathlib.Core.List.{List}
use Prim.Native.Nat.{ℕ, ◌+◌, ◌-◌, ◌*◌, ◌/◌, ◌%◌, ◌≤◌, ◌<◌}
use native.Mathlib.Omega.{arith}
use lib.Dec.{eqb}
use lib.ListN.{length, take, length-take}
use Rattle.std.proofs.lemmas.List.{get_or-take}
use borrow.Author.Tests.{lt-ltb, le-ltb}
use Rattle.std.specs.Prelude.{None, Some}
use Rattle.integers.proofs.Searches.{found_bounds, same_search}
use Rattle.word_runs.specs.Bits.{bit}
use Rattle.word_runs.specs.private.WordList.{bit_at, first_bit}
use Rattle.mask_cells.specs.MaskCalls.{wrong_length}
use Rattle.mask_cells.proofs.Lengths.{whole-rows, rows_in_grid}
use Rattle.mask_cells.specs.private.Positions.{row_end}
use Rattle.masks.specs.private.Scan.{scanned, found_at, next_run}

-- ---- how far a mask is scanned

-- The positions of a mask of whole rows, 1,024 rows at most: all of its words.
pub record Positions (n : ℕ) : Type 0 where
  pub all : scanned n ≡ 64 * n
  pub rows : n % 16 ≡ 0
  pub most : n ≤ 16384

pub positions_of : (n : ℕ) → wrong_length n ≡ false → Positions n
unfolding scanned
positions_of n h =
    let rows = whole-rows n h in
    let few = rows_in_grid n h in
    record { all = omega arith; rows = rows; most = omega arith }

pub row_of_positions : (n : ℕ) → scanned n % 1024 ≡ 0
unfolding scanned
row_of_positions n = omega arith

-- ---- the run that is found

abbrev pub start_from : List ℕ → ℕ → ℕ
start_from ws at = first_bit 1 ws (scanned (length ws) - at) at

abbrev pub end_from : List ℕ → ℕ → ℕ
end_from ws s = first_bit 0 ws (row_end s - s) s

pub none_found : (ws : List ℕ) (at s : ℕ) → s ≡ start_from ws at → scanned (length ws) ≤ s → None ≡ next_run ws at
unfolding next_run
none_found ws at s e h = rw (le-ltb (start_from ws at) (scanned (length ws)) (subst (λ k. scanned (length ws) ≤ k) e h))

pub run_found : (ws : List ℕ) (at s e : ℕ) → s ≡ start_from ws at → s < scanned (length ws) → e ≡ end_from ws s → Some (found_at s e) ≡ next_run ws at
unfolding next_run
run_found ws at s e is h ends =
    let test = lt-ltb (start_from ws at) (scanned (length ws)) (subst (λ k. k < scanned (length ws)) is h) in
    rw test (ap (λ k. Some (found_at s k)) ends ∙ ap (λ k. Some (found_at k (end_from ws k))) is)

-- ---- in the words of the rows up to the one of the start

-- A search that ends within the first n words does not see the others.
cut : (ws : List ℕ) (n v m i : ℕ) → i + m ≤ 64 * n → first_bit v (take n ws) m i ≡ first_bit v ws m i
cut ws n v m i h =
    same_search (λ (k : ℕ). eqb (bit_at (take n ws) k) v) (λ (k : ℕ). eqb (bit_at ws k) v) m i
    (λ k l b. ap (λ (w : ℕ). eqb (bit w (k % 64)) v) (get_or-take n ws (k / 64) 0 (omega arith)))

-- The end that is found in the rows up to that of the start.
pub ends : (ws : List ℕ) (s e : ℕ) → length ws % 16 ≡ 0 → s < 64 * length ws → e ≡ first_bit 0 (take (s / 1024 * 16 + 16) ws) (64 * length (take (s / 1024 * 16 + 16) ws) - s) s → e ≡ end_from ws s
ends ws s e rows below is =
    let long : length (take (s / 1024 * 16 + 16) ws) ≡ s / 1024 * 16 + 16 = omega (arith, length-take {A = ℕ}) in
    let same : 64 * length (take (s / 1024 * 16 + 16) ws) - s ≡ row_end s - s = omega arith in
    is ∙ ap (λ (m : ℕ). first_bit 0 (take (s / 1024 * 16 + 16) ws) m s) same ∙ cut ws (s / 1024 * 16 + 16) 0 (row_end s - s) s (omega arith)

-- It lies at most a row behind the start.
pub ends_near : (ws : List ℕ) (s : ℕ) → (s ≤ end_from ws s) × (end_from ws s ≤ s + 1024)
ends_near ws s =
    let (low, high) = found_bounds (λ (k : ℕ). eqb (bit_at ws k) 0) (row_end s - s) s in
    (low, omega (arith, high))
