-- `masks::rows::RowSums::of_row` meets its contract: at each turn the sums over one word more are added.
use mathlib.Core.Path.{◌≡◌, refl, sym, ap, ◌∙◌, subst}
use mathlib.Core.List.{List}
use Prim.Native.Nat.{ℕ, ◌+◌, ◌*◌}
use native.Mathlib.Omega.{arith}
use lib.IntN.{pos}
use lib.ListN.{get_or}
use Rattle.cell_ground.specs.CellSums.{sums_over}
use Rattle.cell_ground.proofs.SumLaws.{sums-append}
use Rattle.mask_cells.specs.MaskCells.{those}
use Rattle.mask_cells.specs.private.Positions.{cells_on}
use Rattle.mask_cells.specs.private.WordCells.{word_cells, marked_between}
use Rattle.mask_cells.proofs.WordCells.{word_more}
use Rattle.mask_cells.proofs.WordGround.{between_within}
use Rattle.masks.specs.private.Rows.{three_of, with_cells, RowWithin}
use Rattle.masks.proofs.rows.RowSums.of_row.Goals as goal

-- ---- steps

none_yet : (ws : List ℕ) → record { count = pos 0; x = pos 0; xx = pos 0 } ≡ three_of (sums_over (marked_between ws 0 0))
unfolding marked_between those cells_on sums_over
none_yet ws = refl

word_added : (ws : List ℕ) (k : ℕ) → with_cells (three_of (sums_over (marked_between ws 0 (64 * k)))) (sums_over (word_cells (get_or ws k 0) k 64)) ≡ three_of (sums_over (marked_between ws 0 (64 * (k + 1))))
word_added ws k =
    sym (ap (λ cs. three_of (sums_over cs)) (word_more ws 0 k (omega arith)) ∙ ap three_of (sums-append (marked_between ws 0 (64 * k)) (word_cells (get_or ws k 0) k 64)))

-- ---- the answers

pub loop-k-init : goal.loop-k-init
loop-k-init c = none_yet c.args.words.now

pub with_word-sums-requires : goal.with_word-sums-requires
with_word-sums-requires c =
    let ws = c.args.words.now in
    let k = c.loop-k.k in
    let below = c.loop-k-test.true in
    let small = between_within ws 0 (64 * k) (omega arith) (omega (arith, below, c.requires)) in
    let within : RowWithin 1024 (three_of (sums_over (marked_between ws 0 (64 * k)))) =
    record { count = omega (arith, below, c.requires, small.count); x = omega (arith, below, c.requires, small.x); xx = omega (arith, below, c.requires, small.xx) }
    in record { sums = subst (RowWithin 1024) (sym c.loop-k.invariant) within; k_bound = omega (arith, below, c.requires) }

pub loop-k-preserved : goal.loop-k-preserved
loop-k-preserved c =
    let ws = c.args.words.now in
    let k = c.loop-k.k in
    c.with_word-sums.ensures ∙ ap (λ s. with_cells s (sums_over (word_cells (get_or ws k 0) k 64))) c.loop-k.invariant ∙ word_added ws k

pub returns : goal.returns
returns c =
    let all : 64 * c.loop-k.k ≡ 1024 = omega (arith, c.loop-k-test.false, c.loop-k.auto.k-end, c.requires) in
    c.loop-k.invariant ∙ ap (λ e. three_of (sums_over (marked_between c.args.words.now 0 e))) all
