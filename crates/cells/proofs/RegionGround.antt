-- The call accepts no other runs than those that break none of 6, 7 and 8; and its totals are those of the ground under their cells, cell by cell.
use mathlib.Core.Path.{◌≡◌, refl, sym, subst}
use mathlib.Core.Bool.{false}
use mathlib.Core.List.{List}
use native.Mathlib.Omega.{arith}
use Rattle.cell_ground.specs.Ground.{ground_of}
use Rattle.cell_ground.specs.GroundLaws.{TotalsOfGround}
use Rattle.cells.specs.declared.Run.{Run}
use Rattle.cells.specs.RunCells.{all_cells}
use Rattle.cells.specs.RegionCall.{RegionOutcome, any_bad, disordered, too_many, region_call}
use Rattle.cells.specs.RegionLaws.{RegionGround}
use Rattle.cells.proofs.GridLaws.{runs_ground}
use Rattle.cells.proofs.RulePlaces.{not_many}
use Rattle.cells.proofs.RegionCases.{RegionCase, eight, six, seven, taken, region_case}

pub record AcceptedRuns (rs : List Run) : Type 0 where
  pub few : too_many rs ≡ false
  pub good : any_bad rs ≡ false
  pub ordered : disordered rs ≡ false
  pub totals : (region_call rs).totals ≡ ground_of (all_cells rs)

pub accepted-runs : (rs : List Run) → (region_call rs).number ≡ 0 → AcceptedRuns rs
accepted-runs rs e =
    let (few, good, ordered, totals) = go (region_case rs) e in
    record { few = few; good = good; ordered = ordered; totals = totals }
  where
    go : {o : RegionOutcome} → RegionCase rs o → o.number ≡ 0 → (too_many rs ≡ false) × (any_bad rs ≡ false) × (disordered rs ≡ false) × (o.totals ≡ ground_of (all_cells rs))
    go (eight many) e = absurd (omega arith)
    go (six few bad) e = absurd (omega arith)
    go (seven few good wrong) e = absurd (omega arith)
    go (taken few good ordered) e = (few, good, ordered, refl)

pub region_ground : RegionGround
region_ground rs e =
    let a = accepted-runs rs e in
    subst (TotalsOfGround (all_cells rs)) (sym a.totals) (runs_ground rs a.good (not_many rs a.few))
