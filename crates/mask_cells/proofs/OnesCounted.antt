-- The marked cells of a word are as many as its ones, and those of a mask of whole rows as many as the ones of all its words.
use mathlib.Core.Path.{◌≡◌, refl, sym, ap, ap₂, ◌∙◌}
use mathlib.Core.Bool.{Bool, true, false, cond}
use mathlib.Core.List.{List, [], ◌∷◌}
use Prim.Native.Nat.{ℕ, suc, ◌+◌, ◌*◌, ◌/◌, ◌%◌}
use native.Mathlib.Nat.{add-zero}
use native.Mathlib.Omega.{arith}
use lib.IntN.{pos}
use lib.ListN.{length, get_or, length-append}
use Rattle.word_runs.specs.Bits.{ones_below}
use Rattle.outline.specs.ListCall.{Outcome, accepted, refused}
use Rattle.cell_ground.specs.Ground.{ground_of}
use Rattle.cell_ground.proofs.GroundBounds.{twice_count}
use Rattle.mask_cells.specs.MaskCells.{is_marked, those, marked_cells}
use Rattle.mask_cells.specs.MaskCalls.{wrong_length, mask_totals_call}
use Rattle.mask_cells.specs.MaskLaws.{OnesInWord, ones_in, OnesCounted}
use Rattle.mask_cells.specs.private.Positions.{cells_on}
use Rattle.mask_cells.proofs.Lengths.{whole-rows}
use Rattle.mask_cells.proofs.Positions.{positions, grid_cells, row_cells_lem}
use Rattle.mask_cells.proofs.Those.{in_parts}
use Rattle.mask_cells.proofs.WordCells.{word_cells_lem, counted}

module _ (ws : List ℕ) where
  -- How many of n positions from g on are marked.
  abbrev marked_on : ℕ → ℕ → ℕ
  marked_on g n = length (those (is_marked ws) (cells_on g n))

  marked_parts : (g m n : ℕ) → marked_on g (m + n) ≡ marked_on g m + marked_on (g + m) n
  marked_parts g m n = ap length (in_parts (is_marked ws) g m n (g + m) refl) ∙ length-append (those (is_marked ws) (cells_on g m)) (those (is_marked ws) (cells_on (g + m) n))

  -- The 64 bits of word k.
  marked_word : (k : ℕ) → marked_on (64 * k) 64 ≡ ones_below 64 (get_or ws k 0)
  marked_word k = ap length (word_cells_lem ws k) ∙ counted (get_or ws k 0) k 64 (omega arith)

  -- The words us, which stand in the mask from word k on.
  ones_of : (k : ℕ) (us : List ℕ) → ((j : ℕ) → get_or ws (k + j) 0 ≡ get_or us j 0) → marked_on (64 * k) (64 * length us) ≡ ones_in us
  unfolding ones_in those cells_on
  ones_of k [] there = refl
  ones_of k (u ∷ us) there =
      let more : 64 * suc (length us) ≡ 64 + 64 * length us = omega arith in
      let next : 64 * k + 64 ≡ 64 * suc k = omega arith in
      let first : get_or ws k 0 ≡ u = ap (λ j. get_or ws j 0) (sym (add-zero k)) ∙ there 0 in
      let behind : (j : ℕ) → get_or ws (suc k + j) 0 ≡ get_or us j 0 = λ j. let same : suc k + j ≡ k + suc j = omega arith in ap (λ i. get_or ws i 0) same ∙ there (suc j) in
      ap (marked_on (64 * k)) more
      ∙ marked_parts (64 * k) 64 (64 * length us)
      ∙ ap₂ ◌+◌ (marked_word k ∙ ap (ones_below 64) first) (ap (λ g. marked_on g (64 * length us)) next ∙ ones_of (suc k) us behind)

pub ones_in_word : OnesInWord
ones_in_word ws k =
    let start : 1024 * (k / 16) + 64 * (k % 16) ≡ 64 * k = omega arith in
    ap (λ cs. length (those (is_marked ws) cs)) (row_cells_lem (k / 16) (64 * (k % 16)) 64 (omega arith) ∙ ap (λ g. cells_on g 64) start)
    ∙ marked_word ws k

-- Of a mask of whole rows.
whole_mask : (ws : List ℕ) → length ws % 16 ≡ 0 → length (marked_cells ws) ≡ ones_in ws
unfolding marked_cells
whole_mask ws whole =
    let all : positions ws ≡ 64 * length ws = omega arith in
    let same : (j : ℕ) → get_or ws (0 + j) 0 ≡ get_or ws j 0 = λ j. let plain : 0 + j ≡ j = omega arith in ap (λ i. get_or ws i 0) plain in
    ap (λ cs. length (those (is_marked ws) cs)) (grid_cells ws ∙ ap (cells_on 0) all) ∙ ones_of ws 0 ws same

pub ones_counted : OnesCounted
unfolding mask_totals_call
ones_counted ws = go (wrong_length (length ws)) refl
  where
    given : Bool → Outcome
    given b = cond b (refused 31) (accepted (ground_of (marked_cells ws)))

    go : (b : Bool) → wrong_length (length ws) ≡ b → (given b).number ≡ 0 → (given b).totals.a2 ≡ pos (2 * ones_in ws)
    go true wrong h = absurd (omega arith)
    go false right h = twice_count (marked_cells ws) ∙ ap (λ n. pos (2 * n)) (whole_mask ws (whole-rows (length ws) right))
