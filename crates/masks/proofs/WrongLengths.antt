-- A number of words that 31 refuses, by the two tests of the code.
use mathlib.Core.Path.{◌≡◌}
use mathlib.Core.Bool.{true, false}
use Prim.Native.Nat.{ℕ, ◌/◌, ◌%◌, ◌≤◌, ◌<◌}
use borrow.Author.Tests.{eq-eqb, ne_eqb, lt-ltb, le-ltb}
use Rattle.mask_cells.specs.MaskCalls.{wrong_length}

pub not_whole : (n : ℕ) → (n % 16 ≡ 0 → ⊥) → true ≡ wrong_length n
unfolding wrong_length
not_whole n h = rw (ne_eqb (n % 16) 0 h)

pub too_many_rows : (n : ℕ) → n % 16 ≡ 0 → 1024 < n / 16 → true ≡ wrong_length n
unfolding wrong_length
too_many_rows n e h = rw (eq-eqb (n % 16) 0 e, lt-ltb 1024 (n / 16) h)

pub right : (n : ℕ) → n % 16 ≡ 0 → n / 16 ≤ 1024 → false ≡ wrong_length n
unfolding wrong_length
right n e h = rw (eq-eqb (n % 16) 0 e, le-ltb 1024 (n / 16) h)
