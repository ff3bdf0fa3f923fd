-- With 6 and 7 the index is that of a run, and a list so refused has no more than 4,096 of them; else it is 0.
use Prim.Native.Nat.{ℕ, ◌≤◌}
use mathlib.Core.Path.{◌≡◌, ap}
use mathlib.Core.Bool.{Bool, false}
use mathlib.Core.List.{List}
use native.Mathlib.Omega.{arith}
use lib.ListN.{length}
use Rattle.integers.proofs.Searches.{found_bounds}
use Rattle.cells.specs.declared.Run.{Run}
use Rattle.cells.specs.RegionCall.{RegionOutcome, too_many, breaks_six, breaks_seven, lowest_index, region_call}
use Rattle.cells.proofs.RegionCases.{RegionCase, eight, six, seven, taken, region_case}
use Rattle.cells.proofs.RulePlaces.{not_many}
use Rattle.region_replies.specs.RegionReply.{index_capped}

lowest_within : (breaks : List Run → ℕ → Bool) (rs : List Run) → too_many rs ≡ false → lowest_index breaks rs ≤ 4096
lowest_within breaks rs few = omega (arith, not_many rs few, (found_bounds (breaks rs) (length rs) 0).1)

index_within : (rs : List Run) → (region_call rs).index ≤ 4096
index_within rs = go (region_case rs)
  where
    go : {o : RegionOutcome} → RegionCase rs o → o.index ≤ 4096
    go (eight many) = omega arith
    go (six few bad) = lowest_within breaks_six rs few
    go (seven few good wrong) = lowest_within breaks_seven rs few
    go (taken few good ordered) = omega arith

-- So the index is told as it is.
pub index-told : (rs : List Run) → index_capped (region_call rs) ≡ region_call rs
index-told rs = let l = index_within rs in ap (λ i. record { number = (region_call rs).number; index = i; totals = (region_call rs).totals }) (omega (arith, l))
