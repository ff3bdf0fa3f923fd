-- The totals that are answered for a mask are those of the ground under its marked cells, cell by cell.
use mathlib.Core.Path.{◌≡◌, refl, sym, subst}
use mathlib.Core.Bool.{Bool, true, false, cond}
use mathlib.Core.List.{List}
use Prim.Native.Nat.{ℕ}
use native.Mathlib.Omega.{arith}
use lib.ListN.{length}
use Rattle.outline.specs.ListCall.{Outcome, accepted, refused}
use Rattle.cell_ground.specs.CellSums.{Cell}
use Rattle.cell_ground.specs.Ground.{ground_of}
use Rattle.cell_ground.specs.GroundLaws.{TotalsOfGround}
use Rattle.mask_cells.specs.MaskCells.{is_marked, those, marked_cells}
use Rattle.mask_cells.specs.MaskCalls.{wrong_length, mask_totals_call}
use Rattle.mask_cells.specs.MaskLaws.{MaskGround}
use Rattle.mask_cells.proofs.Lengths.{rows_in_grid}
use Rattle.mask_cells.proofs.Positions.{positions, grid_cells}
use Rattle.mask_cells.proofs.WordGround.{those_ground}

marked_ground : (ws : List ℕ) → wrong_length (length ws) ≡ false → TotalsOfGround (marked_cells ws) (ground_of (marked_cells ws))
unfolding marked_cells
marked_ground ws right =
    subst (λ (cs : List Cell). TotalsOfGround (those (is_marked ws) cs) (ground_of (those (is_marked ws) cs))) (sym (grid_cells ws))
    (those_ground (is_marked ws) 0 (positions ws) (omega (arith, rows_in_grid (length ws) right)))

pub mask_ground : MaskGround
unfolding mask_totals_call
mask_ground ws = go (wrong_length (length ws)) refl
  where
    given : Bool → Outcome
    given b = cond b (refused 31) (accepted (ground_of (marked_cells ws)))

    go : (b : Bool) → wrong_length (length ws) ≡ b → (given b).number ≡ 0 → TotalsOfGround (marked_cells ws) (given b).totals
    go true wrong h = absurd (omega arith)
    go false right h = marked_ground ws right
