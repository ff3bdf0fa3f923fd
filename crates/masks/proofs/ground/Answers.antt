-- `masks::ground` meets its contract: the totals of one row more are added, and at the end those of all rows are there.
use mathlib.Core.Path.{◌≡◌, refl, sym, ap, ◌∙◌, subst}
use mathlib.Core.Bool.{false}
use mathlib.Core.List.{List}
use Prim.Native.Nat.{ℕ, ◌+◌, ◌*◌, ◌/◌}
use native.Mathlib.Omega.{arith}
use lib.ListN.{length}
use Rattle.outline.specs.declared.Totals.{Totals}
use Rattle.outline.specs.EdgeSums.{zeros, plus, exceed, outline_bounds}
use Rattle.cell_ground.specs.CellSums.{sums_over}
use Rattle.cell_ground.specs.Ground.{ground_of}
use Rattle.cell_ground.proofs.GroundSums.{ground_append}
use Rattle.mask_cells.specs.MaskCells.{those}
use Rattle.mask_cells.specs.private.Positions.{cells_on}
use Rattle.mask_cells.specs.private.WordCells.{marked_between, row_cells}
use Rattle.mask_cells.proofs.WordCells.{in_two, all_rows}
use Rattle.mask_cells.proofs.WordGround.{between_bounded}
use Rattle.mask_cells.proofs.Lengths.{rows_in_grid}
use Rattle.masks.proofs.RowOfWords.{row_read}
use Rattle.masks.proofs.ground.Invariants.{first_rows}
use Rattle.masks.proofs.ground.Goals as goal

no_rows : (ws : List ℕ) → zeros ≡ ground_of (first_rows ws 0)
unfolding marked_between those cells_on sums_over ground_of
no_rows ws = refl

row_added : (ws : List ℕ) (totals : Totals) (n : ℕ) → totals ≡ ground_of (first_rows ws n) → plus totals (ground_of (row_cells ws n)) ≡ ground_of (first_rows ws (n + 1))
row_added ws totals n e =
    ap (λ t. plus t (ground_of (row_cells ws n))) e
    ∙ sym (ap ground_of (in_two ws 0 (1024 * n) (1024 * (n + 1)) (omega arith) (omega arith)) ∙ ground_append (first_rows ws n) (row_cells ws n))

-- ---- the answers

pub loop-y-init : goal.loop-y-init
loop-y-init c = no_rows c.args.mask.words.now

pub totals_of_row-requires-clause-y_bound : goal.totals_of_row-requires-clause-y_bound
totals_of_row-requires-clause-y_bound c = omega (arith, c.loop-y-test.true, rows_in_grid _ c.args.mask.whole_rows)

pub add_totals-totals-requires-clause-s_value : goal.add_totals-totals-requires-clause-s_value
add_totals-totals-requires-clause-s_value c =
    let few = rows_in_grid _ c.args.mask.whole_rows in
    subst (λ t. exceed outline_bounds t ≡ false) (sym c.loop-y.invariant) (between_bounded c.args.mask.words.now 0 (1024 * c.loop-y.y) (omega arith) (omega (arith, few, c.loop-y-test.true)))

pub add_totals-totals-requires-clause-t_value : goal.add_totals-totals-requires-clause-t_value
add_totals-totals-requires-clause-t_value c =
    let ws = c.args.mask.words.now in
    let y = c.loop-y.y in
    let few = rows_in_grid _ c.args.mask.whole_rows in
    subst (λ t. exceed outline_bounds t ≡ false) (sym (row_read ws y c.totals_of_row.result c.totals_of_row.ensures)) (between_bounded ws (1024 * y) (1024 * (y + 1)) (omega arith) (omega (arith, few, c.loop-y-test.true)))

pub loop-y-preserved : goal.loop-y-preserved
loop-y-preserved c =
    let ws = c.args.mask.words.now in
    c.add_totals-totals.ensures ∙ ap (plus c.loop-y.totals) (row_read ws c.loop-y.y c.totals_of_row.result c.totals_of_row.ensures) ∙ row_added ws c.loop-y.totals c.loop-y.y c.loop-y.invariant

pub returns : goal.returns
returns c =
    let ws = c.args.mask.words.now in
    let all : c.loop-y.y ≡ length ws / 16 = omega (arith, c.loop-y-test.false, c.loop-y.auto.y-end) in
    c.loop-y.invariant ∙ ap (λ n. ground_of (first_rows ws n)) all ∙ ap ground_of (sym (all_rows ws))
