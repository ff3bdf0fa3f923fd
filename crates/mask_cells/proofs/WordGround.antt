-- The marked cells of a mask lie in the grid, so their sums and totals are bounded; those of one row have one y, so three of their sums give the other three.
use mathlib.Core.Path.{◌≡◌}
use mathlib.Core.Bool.{Bool, false}
use mathlib.Core.List.{List}
use Prim.Native.Nat.{ℕ, ◌+◌, ◌-◌, ◌*◌, ◌≤◌, ◌<◌}
use native.Mathlib.Nat.{mod-lt}
use native.Mathlib.Omega.{arith}
use Rattle.outline.specs.EdgeSums.{exceed, outline_bounds}
use Rattle.outline.proofs.Every.{All, all_at}
use Rattle.cell_ground.specs.CellSums.{Cell, origin, sums_over}
use Rattle.cell_ground.specs.Ground.{ground_of}
use Rattle.cell_ground.specs.GroundLaws.{InGrid, TotalsOfGround}
use Rattle.cell_ground.specs.private.SumBounds.{SumsWithin}
use Rattle.cell_ground.proofs.SumLaws.{widen, sums_within}
use Rattle.cell_ground.proofs.RowSums.{InRow, of_row, one-row}
use Rattle.cell_ground.proofs.GroundBounds.{every_ground}
use Rattle.mask_cells.specs.MaskCells.{is_marked, those}
use Rattle.mask_cells.specs.private.Positions.{cells_on}
use Rattle.mask_cells.specs.private.WordCells.{marked_in, word_cells, marked_between, row_cells}
use Rattle.mask_cells.proofs.Those.{few_those, those_have}

-- ---- cells at positions of the grid

module _ (p : Cell → Bool) (g n : ℕ) (h : g + n ≤ 1024 * 1024) where
  in_grid : All InGrid (those p (cells_on g n))
  in_grid = those_have p InGrid g n (λ k l m. record { column = mod-lt k (omega arith); row = omega arith })

  pub those_ground : TotalsOfGround (those p (cells_on g n)) (ground_of (those p (cells_on g n)))
  those_ground = every_ground (those p (cells_on g n)) (λ i. all_at InGrid (those p (cells_on g n)) i origin in_grid) (omega (arith, few_those p g n))

  those_within : SumsWithin n (sums_over (those p (cells_on g n)))
  those_within = widen (few_those p g n) (sums_within (those p (cells_on g n)) (λ i. all_at InGrid (those p (cells_on g n)) i origin in_grid))

-- ---- of a word

pub word_within : (w k n : ℕ) → k < 16384 → n ≤ 64 → SumsWithin 64 (sums_over (word_cells w k n))
unfolding word_cells
word_within w k n h l = widen l (those_within (marked_in w) (64 * k) n (omega arith))

-- ---- from one position of a mask up to another

module _ (ws : List ℕ) (g e : ℕ) (l : g ≤ e) (h : e ≤ 1024 * 1024) where
  pub between_within : SumsWithin (e - g) (sums_over (marked_between ws g e))
  unfolding marked_between
  between_within = those_within (is_marked ws) g (e - g) (omega arith)

  pub between_bounded : exceed outline_bounds (ground_of (marked_between ws g e)) ≡ false
  unfolding marked_between
  between_bounded = (those_ground (is_marked ws) g (e - g) (omega arith)).in_bounds

-- ---- of a row

pub row_within : (ws : List ℕ) (y : ℕ) → y < 1024 → SumsWithin 1024 (sums_over (row_cells ws y))
row_within ws y h = widen (omega arith) (between_within ws (1024 * y) (1024 * (y + 1)) (omega arith) (omega arith))

pub row_of : (ws : List ℕ) (y : ℕ) → sums_over (row_cells ws y) ≡ of_row y (sums_over (row_cells ws y))
unfolding marked_between
row_of ws y =
    let n = 1024 * (y + 1) - 1024 * y in
    one-row y (those (is_marked ws) (cells_on (1024 * y) n)) (those_have (is_marked ws) (InRow y) (1024 * y) n (λ k l m. omega arith))
