-- `cells::CellSums::ground` meets its contract: the sums that are long fit too, and what it computes is the formulas as they are written.
use mathlib.Core.List.{List, [], ◌∷◌}
use Prim.Native.Nat.{◌^◌}
use Rattle.integers.proofs.SignedCode.{code}
use Rattle.integers.proofs.SizedNumbers.{Sized, sized, fits, is_plain}
use Rattle.outline.proofs.TotalsLaws.{totals_equal}
use Rattle.cell_ground.specs.CellSums.{CellSums}
use Rattle.cell_ground.specs.private.SumBounds.{SumsWithin}
use Rattle.cells.proofs.CellSums.ground.Goals as goal

-- The six sums, each with its bound.
abbrev operands : {s : CellSums} → SumsWithin (2 ^ 22) s → List Sized
operands {s} w = sized s.count w.count ∷ sized s.x w.x ∷ sized s.y w.y ∷ sized s.xx w.xx ∷ sized s.xy w.xy ∷ sized s.yy w.yy ∷ []

pub returns : goal.returns
returns c =
    let sums = operands c.requires in
    totals_equal
    (is_plain sums (search code depth 40) tt)
    (is_plain sums (search code depth 40) tt)
    (is_plain sums (search code depth 40) tt)
    (is_plain sums (search code depth 40) tt)
    (is_plain sums (search code depth 40) tt)
    (is_plain sums (search code depth 40) tt)

pub overflow_add-result-4 : goal.overflow_add-result-4
overflow_add-result-4 c = fits (operands c.requires) (search code depth 40) tt

pub overflow_add-result-6 : goal.overflow_add-result-6
overflow_add-result-6 c = fits (operands c.requires) (search code depth 40) tt

pub overflow_add-result-7 : goal.overflow_add-result-7
overflow_add-result-7 c = fits (operands c.requires) (search code depth 40) tt

pub overflow_add-result-9 : goal.overflow_add-result-9
overflow_add-result-9 c = fits (operands c.requires) (search code depth 40) tt
