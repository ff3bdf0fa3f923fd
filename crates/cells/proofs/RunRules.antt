-- The rules 6 and 7 of a run in numbers, both ways: what a run keeps to, and what is enough to keep to it.
use mathlib.Core.Path.{◌≡◌, refl}
use mathlib.Core.Bool.{Bool, true, false, ◌&&◌, ◌||◌, false≢true}
use mathlib.Core.Logic.{◌⊎◌, inl, inr}
use Prim.Native.Nat.{◌+◌, ◌<◌, ◌≤◌}
use native.Mathlib.Omega.{arith}
use lib.Dec.{leb, ltb, eqb}
use borrow.Author.Tests.{lt-ltb, le-ltb, ltb-true, ltb-false, le-leb, leb-true, eq-eqb, ne_eqb, eqb-true, eqb-false}
use Rattle.integers.proofs.Flags.{both_failed, neither}
use Rattle.cells.specs.declared.Run.{Run}
use Rattle.cells.specs.RegionCall.{bad_run, lies_after}

-- ---- 6

-- The run's row is in the grid, it has a cell, and its last cell is in the grid.
pub record Good (r : Run) : Type 0 where
  pub row : r.row ≤ 1023
  pub cells : 1 ≤ r.length
  pub end : r.first + r.length ≤ 1024

pub keeps_six : (r : Run) → bad_run r ≡ false → Good r
unfolding bad_run
keeps_six r e =
    let (f, end) = both_failed (ltb 1023 r.row || eqb r.length 0) (ltb 1024 (r.first + r.length)) e in
    let (row, filled) = both_failed (ltb 1023 r.row) (eqb r.length 0) f in
    let some : r.length ≡ 0 → ⊥ = eqb-false r.length 0 filled in
    record { row = ltb-false 1023 r.row row; cells = omega (arith, some); end = ltb-false 1024 (r.first + r.length) end }

pub six-kept : (r : Run) → Good r → bad_run r ≡ false
unfolding bad_run
six-kept r g = neither (neither (le-ltb 1023 r.row g.row) (ne_eqb r.length 0 (λ e. omega (arith, g.cells)))) (le-ltb 1024 (r.first + r.length) g.end)

-- ---- 7

-- Further up, or in the same row where the earlier run has ended.
abbrev pub After : Run → Run → Type 0
After p r = (p.row < r.row) ⊎ ((p.row ≡ r.row) × (p.first + p.length ≤ r.first))

pub keeps_seven : (p r : Run) → lies_after p r ≡ true → After p r
unfolding lies_after
keeps_seven p r e =
    go (ltb p.row r.row) (eqb p.row r.row) (leb (p.first + p.length) r.first) (ltb-true p.row r.row) (eqb-true p.row r.row) (leb-true (p.first + p.length) r.first) e
  where
    go : (a b c : Bool) → (a ≡ true → p.row < r.row) → (b ≡ true → p.row ≡ r.row) → (c ≡ true → p.first + p.length ≤ r.first) → (a || b && c) ≡ true → After p r
    go true b c f g h e = inl (f refl)
    go false true true f g h e = inr (g refl, h refl)
    go false true false f g h e = absurd (false≢true e)
    go false false c f g h e = absurd (false≢true e)

pub seven-kept : (p r : Run) → After p r → lies_after p r ≡ true
unfolding lies_after
seven-kept p r (inl above) = rw (lt-ltb p.row r.row above)
seven-kept p r (inr (row, east)) = rw (le-ltb p.row r.row (omega arith), eq-eqb p.row r.row row, le-leb (p.first + p.length) r.first east)
