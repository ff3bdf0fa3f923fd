-- `cells::Run::sums` meets its contract: every step fits, whatever the table has, and what it computes are the sums by those below the run's ends.
use mathlib.Core.Path.{◌≡◌, ap, ◌∙◌}
use mathlib.Core.List.{List, [], ◌∷◌}
use Prim.Native.Nat.{ℕ, ◌≤◌, ◌^◌}
use native.Mathlib.Omega.{arith}
use lib.IntN.{ℤ, pos, nat_abs, ◌-ℤ◌}
use lib.ListN.{get_or}
use Rattle.integers.proofs.SignedCode.{code}
use Rattle.integers.proofs.SizedNumbers.{Sized, sized, fits, is_plain}
use Rattle.cell_ground.specs.Ground.{row_sums}
use Rattle.cells.specs.declared.CellSums as Code
use Rattle.cells.specs.private.Scan.{held, sums_by}
use Rattle.column_sums.proofs.SumBounds.{index-sized, entry-sized}
use Rattle.cells.proofs.Run.sums.Goals.{After-entry_at-2}
use Rattle.cells.proofs.Run.sums.Goals as goal

-- ---- what the code computes, of a run's length and row and the sums below its ends: a and e of indices, s and f of squares

-- A natural number, small as it is.
small : {z : ℤ} {k b : ℕ} → z ≡ pos k → k ≤ b → nat_abs z ≤ b
small e h = omega (arith, ap nat_abs e)

module _ (c : After-entry_at-2) where
  abbrev operands : List Sized
  operands =
      sized c.from-n.result {n = 2 ^ 10} (small c.from-n.ensures (omega (arith, c.requires.end)))
      ∷ sized c.from-y.result {n = 2 ^ 10} (small c.from-y.ensures (omega (arith, c.requires.row)))
      ∷ sized c.index_sum.result {n = 2 ^ 20} (index-sized c.end-end.result (omega (arith, c.requires.end, c.end-end.ensures)) c.index_sum.ensures)
      ∷ sized c.index_sum-2.result {n = 2 ^ 20} (index-sized c.args.self.first (omega (arith, c.requires.end)) c.index_sum-2.ensures)
      ∷ sized c.entry_at.result {n = 2 ^ 32} (entry-sized c.entry_at.ensures (c.type_inv.squares _).fits)
      ∷ sized c.entry_at-2.result {n = 2 ^ 32} (entry-sized c.entry_at-2.ensures (c.type_inv.squares _).fits)
      ∷ []

pub overflow_mul-result-2 : goal.overflow_mul-result-2
overflow_mul-result-2 c = fits (operands c) (search code depth 40) tt

sums_equal : {s t : Code.CellSums} → s.count ≡ t.count → s.x ≡ t.x → s.y ≡ t.y → s.xx ≡ t.xx → s.xy ≡ t.xy → s.yy ≡ t.yy → s ≡ t
sums_equal n x y xx xy yy = λ i. record { count = n i; x = x i; y = y i; xx = xx i; xy = xy i; yy = yy i }

pub returns : goal.returns
returns c =
    let x = c.index_sum.result -ℤ c.index_sum-2.result in
    let xx = c.entry_at.result -ℤ c.entry_at-2.result in
    let promised : held (row_sums c.from-y.result c.from-n.result x xx) ≡ held (sums_by (λ k. get_or c.args.squares.now k 0) c.args.self) =
    rw (c.from-n.ensures, c.from-y.ensures, c.index_sum.ensures, c.index_sum-2.ensures, c.entry_at.ensures, c.entry_at-2.ensures, c.from.ensures, c.from-2.ensures, c.end-end.ensures) in
    sums_equal {t = held (row_sums c.from-y.result c.from-n.result x xx)}
    (is_plain (operands c) (search code depth 40) tt)
    (is_plain (operands c) (search code depth 40) tt)
    (is_plain (operands c) (search code depth 40) tt)
    (is_plain (operands c) (search code depth 40) tt)
    (is_plain (operands c) (search code depth 40) tt)
    (is_plain (operands c) (search code depth 40) tt)
    ∙ promised
