-- The four outcomes of the call on runs, each with the tests that lead to it. The laws of the call go through them.
use mathlib.Core.Path.{◌≡◌}
use mathlib.Core.Bool.{true, false}
use mathlib.Core.List.{List}
use Rattle.integers.proofs.Cases.{by_cond}
use Rattle.cell_ground.specs.Ground.{ground_of}
use Rattle.cells.specs.declared.Run.{Run}
use Rattle.cells.specs.RunCells.{all_cells}
use Rattle.cells.specs.RegionCall.{RegionOutcome, refused, any_bad, disordered, too_many, breaks_six, breaks_seven, lowest_index, region_call}

pub data RegionCase (rs : List Run) : RegionOutcome → Type 0 where
  eight : too_many rs ≡ true → RegionCase rs (refused 8 0)
  six : too_many rs ≡ false → any_bad rs ≡ true → RegionCase rs (refused 6 (lowest_index breaks_six rs))
  seven : too_many rs ≡ false → any_bad rs ≡ false → disordered rs ≡ true → RegionCase rs (refused 7 (lowest_index breaks_seven rs))
  taken : too_many rs ≡ false → any_bad rs ≡ false → disordered rs ≡ false → RegionCase rs (record { number = 0; index = 0; totals = ground_of (all_cells rs) })

pub region_case : (rs : List Run) → RegionCase rs (region_call rs)
unfolding region_call
region_case rs =
    by_cond (RegionCase rs) (too_many rs) eight (λ few.
    by_cond (RegionCase rs) (any_bad rs) (six few) (λ good.
    by_cond (RegionCase rs) (disordered rs) (seven few good) (taken few good)))
