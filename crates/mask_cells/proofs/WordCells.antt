-- The marked cells of a mask, word by word: each word's, run by run, and how many they are; and from one position up to another.
use mathlib.Core.Path.{◌≡◌, refl, sym, ap, ap₂, ◌∙◌}
use mathlib.Core.Bool.{true, false, cond}
use mathlib.Core.List.{List, [], ◌∷◌, ◌++◌}
use Prim.Native.Nat.{ℕ, zero, suc, ◌+◌, ◌-◌, ◌*◌, ◌/◌, ◌%◌, ◌≤◌, ◌<◌}
use native.Mathlib.Numerals.{add-one}
use native.Mathlib.Omega.{arith}
use lib.Dec.{eqb}
use lib.ListN.{length, get_or, length-append}
use Rattle.word_runs.specs.Bits.{bit, ones_below}
use Rattle.word_runs.proofs.Ones.{bit_below}
use Rattle.cell_ground.specs.CellSums.{Cell}
use Rattle.cells.specs.RunCells.{cells_from}
use Rattle.mask_cells.specs.MaskCells.{is_marked, those, marked_cells}
use Rattle.mask_cells.specs.private.Positions.{cell_of, cells_on}
use Rattle.mask_cells.specs.private.WordCells.{marked_in, word_cells, marked_between}
use Rattle.mask_cells.proofs.Positions.{grid_cells, marked-at, row_cells_lem}
use Rattle.mask_cells.proofs.Those.{Throughout, in_parts, those-none, those_all, same_those}

-- The column of bit i of word k.
abbrev pub column : ℕ → ℕ → ℕ
column k i = 64 * (k % 16) + i

-- The bit of the word at its i-th position.
pub marked-place : (w k i : ℕ) → i < 64 → marked_in w (cell_of (64 * k + i)) ≡ eqb (bit w i) 1
unfolding marked_in
marked-place w k i h =
    let place : (64 * k + i) % 1024 % 64 ≡ i = omega arith in
    ap (λ j. eqb (bit w j) 1) place

-- ---- one run more of a word

-- Among the bits from `at` up to e, those from s on are set and those below it are clear.
pub span : (w k at s e : ℕ) → at ≤ s → s ≤ e → e ≤ 64 → ((i : ℕ) → at ≤ i → i < s → eqb (bit w i) 1 ≡ false) → ((i : ℕ) → s ≤ i → i < e → eqb (bit w i) 1 ≡ true)
    → word_cells w k e ≡ word_cells w k at ++ cells_from (k / 16) (column k s) (e - s)
unfolding word_cells
span w k at s e h₁ h₂ h₃ none all =
    let parts : e ≡ at + (e - at) = omega arith in
    let rest : e - at ≡ (s - at) + (e - s) = omega arith in
    let start : 1024 * (k / 16) + column k s ≡ 64 * k + s = omega arith in
    ap (λ n. those (marked_in w) (cells_on (64 * k) n)) parts
    ∙ in_parts (marked_in w) (64 * k) at (e - at) (64 * k + at) refl
    ∙ ap (λ cs. those (marked_in w) (cells_on (64 * k) at) ++ cs)
    (ap (λ n. those (marked_in w) (cells_on (64 * k + at) n)) rest
    ∙ in_parts (marked_in w) (64 * k + at) (s - at) (e - s) (64 * k + s) (omega arith)
    ∙ ap₂ ◌++◌ (those-none (marked_in w) (64 * k + at) (s - at) clear) (those_all (marked_in w) (64 * k + s) (e - s) set)
    ∙ ap (λ g. cells_on g (e - s)) (sym start)
    ∙ sym (row_cells_lem (k / 16) (column k s) (e - s) (omega arith)))
  where
    place : (p : ℕ) → 64 * k ≤ p → p < 64 * k + 64 → marked_in w (cell_of p) ≡ eqb (bit w (p - 64 * k)) 1
    place p l m =
        let same : 64 * k + (p - 64 * k) ≡ p = omega arith in
        ap (λ g. marked_in w (cell_of g)) (sym same) ∙ marked-place w k (p - 64 * k) (omega arith)

    clear : Throughout (marked_in w) false (64 * k + at) (s - at)
    clear p l m = place p (omega arith) (omega arith) ∙ none (p - 64 * k) (omega arith) (omega arith)

    set : Throughout (marked_in w) true (64 * k + s) (e - s)
    set p l m = place p (omega arith) (omega arith) ∙ all (p - 64 * k) (omega arith) (omega arith)

-- ---- how many

-- One bit more.
one_more : (w k n : ℕ) → n < 64 → word_cells w k (suc n) ≡ word_cells w k n ++ cond (eqb (bit w n) 1) (cell_of (64 * k + n) ∷ []) []
unfolding word_cells those cells_on
one_more w k n h =
    ap (λ m. those (marked_in w) (cells_on (64 * k) m)) (sym (add-one n))
    ∙ in_parts (marked_in w) (64 * k) n 1 (64 * k + n) refl
    ∙ ap (λ b. those (marked_in w) (cells_on (64 * k) n) ++ cond b (cell_of (64 * k + n) ∷ []) []) (marked-place w k n h)

-- A cell or none, by a bit.
length_of_bit : (b : ℕ) → b < 2 → (c : Cell) → length (cond (eqb b 1) (c ∷ []) []) ≡ b
length_of_bit zero h c = refl
length_of_bit (suc zero) h c = refl
length_of_bit (suc (suc b)) h c = absurd (omega arith)

no_bits : (w k : ℕ) → length (word_cells w k 0) ≡ 0
unfolding word_cells those cells_on
no_bits w k = refl

-- As many as the ones among the n lowest bits.
pub counted : (w k n : ℕ) → n ≤ 64 → length (word_cells w k n) ≡ ones_below n w
unfolding ones_below
counted w k zero h = no_bits w k
counted w k (suc n) h =
    let last = cond (eqb (bit w n) 1) (cell_of (64 * k + n) ∷ []) [] in
    ap length (one_more w k n (omega arith))
    ∙ length-append (word_cells w k n) last
    ∙ ap₂ ◌+◌ (counted w k n (omega arith)) (length_of_bit (bit w n) (bit_below w n) (cell_of (64 * k + n)))

-- ---- the words of a mask

-- The cells of a word of the mask are marked where its bits are set.
pub word_cells_lem : (ws : List ℕ) (k : ℕ) → those (is_marked ws) (cells_on (64 * k) 64) ≡ word_cells (get_or ws k 0) k 64
unfolding word_cells
word_cells_lem ws k = same_those (is_marked ws) (marked_in (get_or ws k 0)) (64 * k) 64 agree
  where
    agree : (p : ℕ) → 64 * k ≤ p → p < 64 * k + 64 → is_marked ws (cell_of p) ≡ marked_in (get_or ws k 0) (cell_of p)
    agree p l h =
        let word : p / 64 ≡ k = omega arith in
        let place : p % 64 ≡ p - 64 * k = omega arith in
        let same : 64 * k + (p - 64 * k) ≡ p = omega arith in
        marked-at ws p
        ∙ ap₂ (λ j i. eqb (bit (get_or ws j 0) i) 1) word place
        ∙ sym (marked-place (get_or ws k 0) k (p - 64 * k) (omega arith))
        ∙ ap (λ g. marked_in (get_or ws k 0) (cell_of g)) same

-- From one position up to another, in two parts.
pub in_two : (ws : List ℕ) (g s e : ℕ) → g ≤ s → s ≤ e → marked_between ws g e ≡ marked_between ws g s ++ marked_between ws s e
unfolding marked_between
in_two ws g s e h l =
    let parts : e - g ≡ (s - g) + (e - s) = omega arith in
    ap (λ n. those (is_marked ws) (cells_on g n)) parts ∙ in_parts (is_marked ws) g (s - g) (e - s) s (omega arith)

-- One word more.
pub word_more : (ws : List ℕ) (g k : ℕ) → g ≤ 64 * k → marked_between ws g (64 * (k + 1)) ≡ marked_between ws g (64 * k) ++ word_cells (get_or ws k 0) k 64
unfolding marked_between
word_more ws g k h =
    let bits : 64 * (k + 1) - 64 * k ≡ 64 = omega arith in
    in_two ws g (64 * k) (64 * (k + 1)) h (omega arith)
    ∙ ap (λ cs. marked_between ws g (64 * k) ++ cs) (ap (λ n. those (is_marked ws) (cells_on (64 * k) n)) bits ∙ word_cells_lem ws k)

-- All rows.
pub all_rows : (ws : List ℕ) → marked_cells ws ≡ marked_between ws 0 (1024 * (length ws / 16))
unfolding marked_cells marked_between
all_rows ws =
    let all : 1024 * (length ws / 16) ≡ 1024 * (length ws / 16) - 0 = omega arith in
    ap (those (is_marked ws)) (grid_cells ws) ∙ ap (λ n. those (is_marked ws) (cells_on 0 n)) all
