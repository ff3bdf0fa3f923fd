-- Accepted runs list no cell twice: their cells ascend by row and, in a row, by column.
use mathlib.Core.Path.{◌≡◌, refl, sym, subst}
use mathlib.Core.Bool.{false, not}
use mathlib.Core.List.{List, [], ◌∷◌, ◌++◌}
use mathlib.Core.Logic.{◌⊎◌, inl, inr}
use Prim.Native.Nat.{ℕ, zero, suc, ◌+◌, ◌<◌, ◌≤◌}
use native.Mathlib.Nat.{add-zero}
use native.Mathlib.Omega.{arith}
use lib.ListN.{length, get_or}
use borrow.Author.Tests.{not-false}
use Rattle.cell_ground.specs.CellSums.{Cell, origin}
use Rattle.cells.specs.declared.Run.{Run}
use Rattle.cells.specs.RunCells.{cells_from, cells_of, all_cells, EachOnce}
use Rattle.cells.specs.RegionCall.{lies_after, disordered, region_call}
use Rattle.cells.proofs.RegionGround.{accepted-runs}
use Rattle.cells.proofs.RunRules.{keeps_seven}
use Rattle.integers.proofs.Flags.{both_failed}

-- Column v of row u is not before column x of row y.
abbrev NotBefore : (y x u v : ℕ) → Type 0
NotBefore y x u v = (y < u) ⊎ ((y ≡ u) × (x ≤ v))

-- The cells ascend, from column x of row y on.
abbrev Ascend : (y x : ℕ) → List Cell → Type 0
Ascend y x [] = Unit {0}
Ascend y x (c ∷ cs) = NotBefore y x c.y c.x × Ascend c.y (suc c.x) cs

chain : {y x u v s t : ℕ} → NotBefore y x u v → NotBefore u v s t → NotBefore y x s t
chain (inl h) (inl k) = inl (omega arith)
chain (inl h) (inr k) = inl (omega arith)
chain (inr h) (inl k) = inl (omega arith)
chain (inr h) (inr k) = inr (omega arith)

sooner : {y x u v : ℕ} (cs : List Cell) → NotBefore y x u v → Ascend u v cs → Ascend y x cs
sooner [] h a = tt
sooner (c ∷ cs) h (k, a) = (chain h k, a)

all_after : {y x : ℕ} (cs : List Cell) → Ascend y x cs → (j : ℕ) → j < length cs → NotBefore y x (get_or cs j origin).y (get_or cs j origin).x
all_after [] a j l = absurd (omega arith)
all_after (c ∷ cs) (h, a) zero l = h
all_after (c ∷ cs) (h, a) (suc j) l = chain h (chain (inr (refl, omega arith)) (all_after cs a j (omega arith)))

-- No cell comes after itself.
irreflexive : (y x : ℕ) → NotBefore y (suc x) y x → ⊥
irreflexive y x (inl h) = omega arith
irreflexive y x (inr h) = omega arith

once : (y x : ℕ) (cs : List Cell) → Ascend y x cs → EachOnce cs
once y x [] a i j h l e = omega arith
once y x (c ∷ cs) (h, a) i zero k l e = omega arith
once y x (c ∷ cs) (h, a) zero (suc j) k l e = irreflexive c.y c.x (subst (λ (d : Cell). NotBefore c.y (suc c.x) d.y d.x) (sym e) (all_after cs a j (omega arith)))
once y x (c ∷ cs) (h, a) (suc i) (suc j) k l e = once c.y (suc c.x) cs a i j (omega arith) (omega arith) e

-- A row's cells, and then others that ascend from where they end.
run_ascends : (y x n : ℕ) (cs : List Cell) → Ascend y (x + n) cs → Ascend y x (cells_from y x n ++ cs)
unfolding cells_from
run_ascends y x zero cs a = rw add-zero at a
run_ascends y x (suc n) cs a = (inr (refl, omega arith), run_ascends y (suc x) n cs (let e : suc x + n ≡ x + suc n = omega arith in rw e a))

-- The cells of runs each of which lies after the one before.
ascending : (r : Run) (rs : List Run) → disordered (r ∷ rs) ≡ false → Ascend r.row r.first (all_cells (r ∷ rs))
unfolding disordered all_cells cells_of
ascending r [] e = run_ascends r.row r.first r.length [] tt
ascending r (q ∷ qs) e =
    let (f, g) = both_failed (not (lies_after r q)) (disordered (q ∷ qs)) e in
    run_ascends r.row r.first r.length (all_cells (q ∷ qs)) (sooner (all_cells (q ∷ qs)) (keeps_seven r q (not-false (lies_after r q) f)) (ascending q qs g))

pub each_cell_once : (rs : List Run) → (region_call rs).number ≡ 0 → EachOnce (all_cells rs)
unfolding all_cells
each_cell_once [] e = once 0 0 [] tt
each_cell_once (r ∷ rs) e = once r.row r.first (all_cells (r ∷ rs)) (ascending r rs (accepted-runs (r ∷ rs) e).ordered)

-- The claim fails for a list in which a cell comes again, though not at once.
cell_again : EachOnce (origin ∷ record { x = 1; y = 0 } ∷ origin ∷ []) → ⊥
cell_again each = each 0 2 (omega arith) (omega arith) refl
