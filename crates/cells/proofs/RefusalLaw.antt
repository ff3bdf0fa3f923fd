-- Every refusal of the call on runs comes with six zeros.
use mathlib.Core.Path.{◌≡◌, refl}
use mathlib.Core.List.{List}
use mathlib.Core.Logic.{◌≢◌}
use Rattle.outline.specs.EdgeSums.{zeros}
use Rattle.cells.specs.declared.Run.{Run}
use Rattle.cells.specs.RegionCall.{RegionOutcome, region_call}
use Rattle.cells.proofs.RegionCases.{RegionCase, eight, six, seven, taken, region_case}

pub region-zeros : (rs : List Run) → (region_call rs).number ≢ 0 → (region_call rs).totals ≡ zeros
region-zeros rs = go (region_case rs)
  where
    go : {o : RegionOutcome} → RegionCase rs o → o.number ≢ 0 → o.totals ≡ zeros
    go (eight many) f = refl
    go (six few bad) f = refl
    go (seven few good wrong) f = refl
    go (taken few good ordered) f = absurd (f refl)
