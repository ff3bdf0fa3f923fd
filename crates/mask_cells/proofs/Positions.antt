-- The cells of a mask, in order, are the cells at its positions, in order.
use mathlib.Core.Path.{◌≡◌, refl, sym, ap, ap₂, ◌∙◌}
use mathlib.Core.List.{List, ◌∷◌, ◌++◌}
use Prim.Native.Nat.{ℕ, zero, suc, ◌+◌, ◌*◌, ◌/◌, ◌%◌, ◌≤◌, ◌<◌}
use native.Mathlib.Nat.{zero-add, add-zero, suc-add}
use native.Mathlib.Omega.{arith}
use lib.Dec.{eqb}
use lib.ListN.{length, get_or}
use Rattle.word_runs.specs.Bits.{bit}
use Rattle.word_runs.specs.private.WordList.{bit_at}
use Rattle.cells.specs.RunCells.{cells_from}
use Rattle.mask_cells.specs.MaskCells.{cell_at, is_marked, rows_from, mask_grid}
use Rattle.mask_cells.specs.private.Positions.{cell_of, cells_on}

-- ---- lists of positions

pub cells_append : (g m n : ℕ) → cells_on g (m + n) ≡ cells_on g m ++ cells_on (g + m) n
unfolding cells_on
cells_append g zero n = ap₂ cells_on (sym (add-zero g)) (zero-add n)
cells_append g (suc m) n =
    let same : suc g + m ≡ g + suc m = omega arith in
    ap (cells_on g) (suc-add m n) ∙ ap (λ cs. cell_of g ∷ cs) (cells_append (suc g) m n ∙ ap (λ h. cells_on (suc g) m ++ cells_on h n) same)

-- The cell at a position of a row.
pub cell_of_row : (y x : ℕ) → x < 1024 → cell_of (1024 * y + x) ≡ cell_at y x
cell_of_row y x h =
    let row : (1024 * y + x) / 1024 ≡ y = omega arith in
    let column : (1024 * y + x) % 1024 ≡ x = omega arith in
    ap₂ cell_at row column

-- Cells of a row.
pub row_cells_lem : (y x n : ℕ) → x + n ≤ 1024 → cells_from y x n ≡ cells_on (1024 * y + x) n
unfolding cells_from cells_on
row_cells_lem y x zero h = refl
row_cells_lem y x (suc n) h =
    let next : 1024 * y + suc x ≡ suc (1024 * y + x) = omega arith in
    ap₂ ◌∷◌ (sym (cell_of_row y x (omega arith))) (row_cells_lem y (suc x) n (omega arith) ∙ ap (λ g. cells_on g n) next)

-- Rows.
rows_cells : (y n : ℕ) → rows_from y n ≡ cells_on (1024 * y) (1024 * n)
unfolding rows_from cells_on
rows_cells y zero = refl
rows_cells y (suc n) =
    let start : 1024 * y + 0 ≡ 1024 * y = omega arith in
    let next : 1024 * suc y ≡ 1024 * y + 1024 = omega arith in
    let all : 1024 + 1024 * n ≡ 1024 * suc n = omega arith in
    ap₂ ◌++◌ (row_cells_lem y 0 1024 (omega arith) ∙ ap (λ g. cells_on g 1024) start) (rows_cells (suc y) n ∙ ap (λ g. cells_on g (1024 * n)) next)
    ∙ sym (cells_append (1024 * y) 1024 (1024 * n))
    ∙ ap (cells_on (1024 * y)) all

-- The number of positions that the rows of a mask have.
abbrev pub positions : List ℕ → ℕ
positions ws = 1024 * (length ws / 16)

pub grid_cells : (ws : List ℕ) → mask_grid ws ≡ cells_on 0 (positions ws)
grid_cells ws = rows_cells 0 (length ws / 16)

-- ---- which positions are marked

pub marked-at : (ws : List ℕ) (g : ℕ) → is_marked ws (cell_of g) ≡ eqb (bit_at ws g) 1
unfolding is_marked
marked-at ws g =
    let word : 16 * (g / 1024) + g % 1024 / 64 ≡ g / 64 = omega arith in
    let place : g % 1024 % 64 ≡ g % 64 = omega arith in
    ap₂ (λ k i. eqb (bit (get_or ws k 0) i) 1) word place
