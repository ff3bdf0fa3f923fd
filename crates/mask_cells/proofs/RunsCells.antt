-- The cells of a mask's longest runs are its marked cells, in order.
use mathlib.Core.Path.{◌≡◌, sym, ap, ap₂, ◌∙◌}
use mathlib.Core.List.{List, [], ◌∷◌, ◌++◌}
use Prim.Native.Nat.{ℕ, ◌-◌}
use native.Mathlib.Omega.{arith}
use Rattle.cells.specs.declared.Run.{Run}
use Rattle.cells.specs.RunCells.{cells_of, all_cells}
use Rattle.mask_cells.specs.MaskCells.{is_marked, those, marked_cells, longest_runs}
use Rattle.mask_cells.specs.MaskLaws.{RunsCells}
use Rattle.mask_cells.specs.private.Positions.{cells_on}
use Rattle.mask_cells.proofs.Positions.{positions, grid_cells, row_cells_lem}
use Rattle.mask_cells.proofs.Those.{those-none, skipped, taken}
use Rattle.mask_cells.proofs.RunsFrom.{start_of, end_of, RunsFrom, longest_first}

cells_from_lem : (ws : List ℕ) (end g : ℕ) (rs : List Run) → RunsFrom ws end g rs → all_cells rs ≡ those (is_marked ws) (cells_on g (end - g))
unfolding all_cells cells_of
cells_from_lem ws end g [] none = sym (those-none (is_marked ws) g (end - g) none)
cells_from_lem ws end g (r ∷ rs) (row, next, rest) =
    let s = start_of r in
    let e = end_of r in
    let as_many : r.length ≡ e - s = omega arith in
    ap₂ ◌++◌ (row_cells_lem r.row r.first r.length row ∙ ap (cells_on s) as_many) (cells_from_lem ws end e rs rest)
    ∙ sym (taken (is_marked ws) s e end (omega arith) next.within next.marked)
    ∙ sym (skipped (is_marked ws) g s end next.from (omega (arith, next.within)) next.unmarked)

pub runs_cells : RunsCells
unfolding marked_cells
runs_cells ws =
    let all : positions ws - 0 ≡ positions ws = omega arith in
    cells_from_lem ws (positions ws) 0 (longest_runs ws) (longest_first ws)
    ∙ ap (λ n. those (is_marked ws) (cells_on 0 n)) all
    ∙ ap (those (is_marked ws)) (sym (grid_cells ws))
