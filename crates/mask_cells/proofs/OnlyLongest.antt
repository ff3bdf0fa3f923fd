-- The longest runs are the only list of runs, none empty and no two touching, whose cells are a mask's marked cells: such a list is determined by its cells.
use mathlib.Core.Path.{◌≡◌, refl, sym, ap, ap₂, ◌∙◌, subst}
use mathlib.Core.List.{List, [], ◌∷◌, ◌++◌}
use mathlib.Core.Logic.{◌⊎◌, inl, inr}
use Prim.Native.Nat.{ℕ, zero, suc, ◌+◌, ◌<◌}
use native.Mathlib.Nat.{add-zero}
use native.Mathlib.Omega.{arith}
use lib.ListN.{length, get_or}
use Rattle.cell_ground.specs.CellSums.{Cell, origin}
use Rattle.cells.specs.declared.Run.{Run}
use Rattle.cells.specs.RunCells.{cells_from, cells_of, all_cells}
use Rattle.mask_cells.specs.MaskCells.{cell_at, longest_runs}
use Rattle.mask_cells.specs.MaskLaws.{NoneEmpty, OnlyLongest}
use Rattle.mask_cells.proofs.NoneTouch.{NextApart, ApartInTurn, apart_in_turn, longest_in_turn}
use Rattle.mask_cells.proofs.EachLongest.{each_longest}
use Rattle.mask_cells.proofs.RunsCells.{runs_cells}

-- ---- the first cell

-- The cells without the first.
abbrev others : List Cell → List Cell
others [] = []
others (c ∷ cs) = cs

begins_with : (r : Run) (rs : List Run) → 0 < r.length → all_cells (r ∷ rs) ≡ cell_at r.row r.first ∷ others (all_cells (r ∷ rs))
unfolding all_cells cells_of cells_from
begins_with r rs h = go r.length h
  where
    go : (n : ℕ) → 0 < n → cells_from r.row r.first n ++ all_cells rs ≡ cell_at r.row r.first ∷ others (cells_from r.row r.first n ++ all_cells rs)
    go zero l = absurd (omega arith)
    go (suc n) l = refl

same_first : {c d : Cell} {cs ds : List Cell} → c ∷ cs ≡ d ∷ ds → c ≡ d
same_first e = ap (λ l. get_or l 0 origin) e

none_and_some : {c : Cell} {cs : List Cell} → [] ≡ c ∷ cs → ⊥
none_and_some e = let longer = ap length e in omega arith

-- ---- the first run

-- The first run of a list, if it has one, is not empty and does not begin at column e of row y or before.
abbrev Behind : (y e : ℕ) → List Run → Type 0
Behind y e [] = Unit {0}
Behind y e (r ∷ rs) = (0 < r.length) × ((y < r.row) ⊎ ((y ≡ r.row) × (e < r.first)))

behind_run : (r : Run) (rs : List Run) → NoneEmpty rs → NextApart r rs → Behind r.row (r.first + r.length) rs
behind_run r [] nonempty apart = tt
behind_run r (q ∷ qs) nonempty apart = (nonempty 0 (omega arith), apart)

elsewhere : (y x : ℕ) (rs : List Run) (cs : List Cell) → Behind y x rs → all_cells rs ≡ cell_at y x ∷ cs → ⊥
unfolding all_cells
elsewhere y x [] cs b e = none_and_some e
elsewhere y x (r ∷ rs) cs (h, apart) e = go apart
  where
    same : cell_at r.row r.first ≡ cell_at y x
    same = same_first (sym (begins_with r rs h) ∙ e)

    go : (y < r.row) ⊎ ((y ≡ r.row) × (x < r.first)) → ⊥
    go (inl above) = let row = ap (λ (c : Cell). c.y) same in omega arith
    go (inr (row, east)) = let column = ap (λ (c : Cell). c.x) same in omega arith

-- Cells of a row, and then those of runs that do not begin right behind them: how many stand in the row is determined.
determined : (y x m n : ℕ) (rs qs : List Run) → Behind y (x + m) rs → Behind y (x + n) qs → cells_from y x m ++ all_cells rs ≡ cells_from y x n ++ all_cells qs → (m ≡ n) × (all_cells rs ≡ all_cells qs)
unfolding cells_from
determined y x zero zero rs qs b c e = (refl, e)
determined y x zero (suc n) rs qs b c e = absurd (elsewhere y x rs (cells_from y (suc x) n ++ all_cells qs) (subst (λ k. Behind y k rs) (add-zero x) b) e)
determined y x (suc m) zero rs qs b c e = absurd (elsewhere y x qs (cells_from y (suc x) m ++ all_cells rs) (subst (λ k. Behind y k qs) (add-zero x) c) (sym e))
determined y x (suc m) (suc n) rs qs b c e =
    let east : (k : ℕ) → x + suc k ≡ suc x + k = λ k. omega arith in
    let (same, rest) = determined y (suc x) m n rs qs (subst (λ k. Behind y k rs) (east m) b) (subst (λ k. Behind y k qs) (east n) c) (ap others e) in
    (ap suc same, rest)

-- ---- lists of runs

same_runs : (rs qs : List Run) → NoneEmpty rs → NoneEmpty qs → ApartInTurn rs → ApartInTurn qs → all_cells rs ≡ all_cells qs → rs ≡ qs
unfolding all_cells cells_of
same_runs [] [] f g a b e = refl
same_runs [] (q ∷ qs) f g a b e = absurd (none_and_some (e ∙ begins_with q qs (g 0 (omega arith))))
same_runs (r ∷ rs) [] f g a b e = absurd (none_and_some (sym e ∙ begins_with r rs (f 0 (omega arith))))
same_runs (r ∷ rs) (q ∷ qs) f g (next, a) (next', b) e =
    let later_f : NoneEmpty rs = λ i h. f (suc i) (omega arith) in
    let later_g : NoneEmpty qs = λ i h. g (suc i) (omega arith) in
    let same = same_first (sym (begins_with r rs (f 0 (omega arith))) ∙ e ∙ begins_with q qs (g 0 (omega arith))) in
    let row : q.row ≡ r.row = sym (ap (λ (c : Cell). c.y) same) in
    let first : q.first ≡ r.first = sym (ap (λ (c : Cell). c.x) same) in
    let (as_long, rest) =
    determined r.row r.first r.length q.length rs qs (behind_run r rs later_f next)
    (subst (λ y. Behind y (r.first + q.length) qs) row (subst (λ x. Behind q.row (x + q.length) qs) first (behind_run q qs later_g next')))
    (e ∙ ap₂ (λ y x. cells_from y x q.length ++ all_cells qs) row first) in
    ap₂ ◌∷◌ (λ i. record { row = sym row i; first = sym first i; length = as_long i }) (same_runs rs qs later_f later_g a b rest)

pub only_longest : OnlyLongest
only_longest ws rs nonempty apart e =
    same_runs rs (longest_runs ws) nonempty (λ i h. (each_longest ws i h).nonempty) (apart_in_turn rs apart) (longest_in_turn ws) (e ∙ sym (runs_cells ws))
