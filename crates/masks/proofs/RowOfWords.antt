-- The ground under the marked cells of a row, from the row's 16 words alone: the columns in which they stand are the same in every row.
use mathlib.Core.Path.{◌≡◌, refl, sym, ap, ap₂, ◌∙◌}
use mathlib.Core.Bool.{Bool, true, false, cond}
use mathlib.Core.List.{List, ◌∷◌}
use Prim.Native.Nat.{ℕ, zero, suc, ◌+◌, ◌-◌, ◌*◌, ◌/◌, ◌%◌, ◌≤◌, ◌<◌}
use native.Mathlib.Omega.{arith}
use lib.Dec.{eqb}
use lib.IntN.{pos, ◌+ℤ◌}
use lib.ListN.{get_or, take, drop}
use Rattle.std.proofs.lemmas.List.{get_or-take, get_or-drop}
use Rattle.word_runs.specs.Bits.{bit}
use Rattle.outline.specs.declared.Totals.{Totals}
use Rattle.cell_ground.specs.CellSums.{Cell, sums_over}
use Rattle.cell_ground.specs.Ground.{ground_totals, ground_of, row_sums}
use Rattle.mask_cells.specs.MaskCells.{is_marked, those}
use Rattle.mask_cells.specs.private.Positions.{cell_of, cells_on}
use Rattle.mask_cells.specs.private.WordCells.{marked_between, row_cells}
use Rattle.mask_cells.proofs.Positions.{marked-at}
use Rattle.mask_cells.proofs.WordGround.{row_of}
use Rattle.masks.specs.private.Rows.{three_of, row_ground}

-- The words of row y.
abbrev words_of : List ℕ → ℕ → List ℕ
words_of ws y = take 16 (drop (16 * y) ws)

-- ---- the sums of x and of x² go by the columns alone

one_cell : (b : Bool) (c d : Cell) (cs ds : List Cell) → c.x ≡ d.x → three_of (sums_over cs) ≡ three_of (sums_over ds)
    → three_of (sums_over (cond b (c ∷ cs) cs)) ≡ three_of (sums_over (cond b (d ∷ ds) ds))
unfolding sums_over
one_cell true c d cs ds h e = λ i. record { count = pos 1 +ℤ (e i).count; x = pos (h i) +ℤ (e i).x; xx = pos (h i * h i) +ℤ (e i).xx }
one_cell false c d cs ds h e = e

same_columns : (p q : Cell → Bool) (y x n : ℕ) → ((i : ℕ) → i < 1024 → p (cell_of (1024 * y + i)) ≡ q (cell_of i)) → x + n ≤ 1024
    → three_of (sums_over (those p (cells_on (1024 * y + x) n))) ≡ three_of (sums_over (those q (cells_on x n)))
unfolding those cells_on
same_columns p q y x zero h l = refl
same_columns p q y x (suc n) h l =
    let column : (1024 * y + x) % 1024 ≡ x % 1024 = omega arith in
    let next : suc (1024 * y + x) ≡ 1024 * y + suc x = omega arith in
    let rest = ap (λ g. three_of (sums_over (those p (cells_on g n)))) next ∙ same_columns p q y (suc x) n h (omega arith) in
    ap (λ (b : Bool). three_of (sums_over (cond b (cell_of (1024 * y + x) ∷ those p (cells_on (suc (1024 * y + x)) n)) (those p (cells_on (suc (1024 * y + x)) n))))) (h x (omega arith))
    ∙ one_cell (q (cell_of x)) (cell_of (1024 * y + x)) (cell_of x) (those p (cells_on (suc (1024 * y + x)) n)) (those q (cells_on (suc x) n)) column rest

-- ---- a row's words mark the same columns

same_marks : (ws : List ℕ) (y i : ℕ) → i < 1024 → is_marked ws (cell_of (1024 * y + i)) ≡ is_marked (words_of ws y) (cell_of i)
same_marks ws y i h =
    let word : (1024 * y + i) / 64 ≡ 16 * y + i / 64 = omega arith in
    let place : (1024 * y + i) % 64 ≡ i % 64 = omega arith in
    let read : get_or (words_of ws y) (i / 64) 0 ≡ get_or ws (16 * y + i / 64) 0 = get_or-take 16 (drop (16 * y) ws) (i / 64) 0 (omega arith) ∙ get_or-drop (16 * y) ws (i / 64) 0 in
    marked-at ws (1024 * y + i)
    ∙ ap₂ (λ (w j : ℕ). eqb (bit w j) 1) (ap (λ k. get_or ws k 0) word ∙ sym read) place
    ∙ sym (marked-at (words_of ws y) i)

row_columns : (ws : List ℕ) (y : ℕ) → three_of (sums_over (row_cells ws y)) ≡ three_of (sums_over (row_cells (words_of ws y) 0))
unfolding marked_between
row_columns ws y =
    let cells : 1024 * (y + 1) - 1024 * y ≡ 1024 = omega arith in
    let start : 1024 * y ≡ 1024 * y + 0 = omega arith in
    ap₂ (λ (g n : ℕ). three_of (sums_over (those (is_marked ws) (cells_on g n)))) start cells
    ∙ same_columns (is_marked ws) (is_marked (words_of ws y)) y 0 1024 (same_marks ws y) (omega arith)

row_is : (ws : List ℕ) (y : ℕ) → row_ground y (row_cells (words_of ws y) 0) ≡ ground_of (row_cells ws y)
unfolding ground_of
row_is ws y =
    let same = row_columns ws y in
    sym (ap ground_totals (row_of ws y) ∙ (λ i. ground_totals (row_sums (pos y) (same i).count (same i).x (same i).xx)))

-- As the code lends them.
pub row_read : (ws : List ℕ) (y : ℕ) (t : Totals) → t ≡ row_ground y (row_cells (take (y * 16 + 16 - y * 16) (drop (y * 16) ws)) 0) → t ≡ ground_of (row_cells ws y)
row_read ws y t is =
    let many : y * 16 + 16 - y * 16 ≡ 16 = omega arith in
    let first : y * 16 ≡ 16 * y = omega arith in
    is ∙ ap₂ (λ (n m : ℕ). row_ground y (row_cells (take n (drop m ws)) 0)) many first ∙ row_is ws y
