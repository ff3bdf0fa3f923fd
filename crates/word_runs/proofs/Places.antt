-- A place that a search through a word hands out, told from the place where the search has ended.
use mathlib.Core.Path.{◌≡◌, refl}
use mathlib.Core.Bool.{Bool, true, false}
use Prim.Native.Nat.{ℕ, ◌≤◌, ◌<◌}
use native.Mathlib.Omega.{arith}
use borrow.Author.Tests.{lt-ltb, le-ltb, ltb-true, ltb-false}
use lib.Dec.{ltb}
use Rattle.std.specs.Prelude.{None, Some, unwrap_or}
use Rattle.word_runs.specs.Bits.{place}

pub some_place : (k i : ℕ) → k ≡ i → i < 64 → Some k ≡ place i
some_place k i e h = rw (e, lt-ltb i 64 h)

pub no_place : (i : ℕ) → 64 ≤ i → None ≡ place i
no_place i h = rw (le-ltb i 64 h)

-- And back.
pub place_of : (k i : ℕ) → Some k ≡ place i → (k ≡ i) × (k < 64)
place_of k i e = go (ltb i 64) refl
  where
    go : (b : Bool) → ltb i 64 ≡ b → (k ≡ i) × (k < 64)
    go true h =
        let found = rw h at e in
        let same : k ≡ i = cc in
        (same, omega (arith, ltb-true i 64 h))
    go false h = let none = rw h at e in cc

pub past_places : (i : ℕ) → None ≡ place i → 64 ≤ i
past_places i e = go (ltb i 64) refl
  where
    go : (b : Bool) → ltb i 64 ≡ b → 64 ≤ i
    go true h = let found = rw h at e in cc
    go false h = ltb-false i 64 h

-- A place, or 64 for nothing, is where the search has ended.
pub place_or_64 : (i : ℕ) → i ≤ 64 → unwrap_or (place i) 64 ≡ i
place_or_64 i h = go (ltb i 64) refl
  where
    go : (b : Bool) → ltb i 64 ≡ b → unwrap_or (place i) 64 ≡ i
    go true e = rw e
    go false e = let last = ltb-false i 64 e in rw e (omega arith)
