-- The index that the call on runs gives: with 6 and 7 the lowest of the runs that break that rule.
use mathlib.Core.Path.{◌≡◌, refl, sym, ◌∙◌}
use mathlib.Core.Bool.{Bool, true, false, false≢true}
use mathlib.Core.List.{List}
use mathlib.Core.Logic.{inr, ◌≢◌}
use Prim.Native.Nat.{ℕ, ◌<◌}
use native.Mathlib.Omega.{arith}
use lib.Dec.{ltb}
use lib.ListN.{length}
use borrow.Author.Tests.{ltb-true, ltb-false}
use Rattle.integers.proofs.Searches.{found_holds, none_before, found_at}
use Rattle.cells.specs.declared.Run.{Run}
use Rattle.cells.specs.RegionCall.{RegionOutcome, breaks_six, breaks_seven, lowest_index}
use Rattle.cells.specs.RegionLaws.{AllKeep, LowestToBreak, IndexIsLowest}
use Rattle.cells.proofs.RulePlaces.{none_bad, none-disordered}
use Rattle.cells.proofs.RegionCases.{RegionCase, eight, six, seven, taken, region_case}

module _ (breaks : List Run → ℕ → Bool) (rs : List Run) where
  -- No other index is the lowest.
  pub lowest_is : {i : ℕ} → LowestToBreak breaks rs i → lowest_index breaks rs ≡ i
  lowest_is {i} h = found_at (breaks rs) (length rs) 0 i (omega arith) (omega (arith, h.present)) (λ j _ l. h.none-lower j l) (inr h.broken)

  -- Where it is not so that every run keeps to the rule, one is the lowest that breaks it.
  lowest_breaks : (AllKeep breaks rs → ⊥) → LowestToBreak breaks rs (lowest_index breaks rs)
  lowest_breaks some = go (ltb (lowest_index breaks rs) (length rs)) refl
    where
      none_below : (j : ℕ) → j < lowest_index breaks rs → breaks rs j ≡ false
      none_below j l = none_before (breaks rs) (length rs) 0 j (omega arith) l

      go : (found : Bool) → ltb (lowest_index breaks rs) (length rs) ≡ found → LowestToBreak breaks rs (lowest_index breaks rs)
      go true e =
          let l = ltb-true (lowest_index breaks rs) (length rs) e in
          record { present = l; broken = found_holds (breaks rs) (length rs) 0 (omega (arith, l)); none-lower = none_below }
      go false e = let l = ltb-false (lowest_index breaks rs) (length rs) e in absurd (some (λ i h. none_below i (omega (arith, l, h))))

pub index_is_lowest : IndexIsLowest
index_is_lowest rs = record { with_six = for_six (region_case rs); with_seven = for_seven (region_case rs); otherwise = for_others (region_case rs) }
  where
    for_six : {o : RegionOutcome} → RegionCase rs o → o.number ≡ 6 → LowestToBreak breaks_six rs o.index
    for_six (eight many) e = absurd (omega arith)
    for_six (six few bad) e = lowest_breaks breaks_six rs (λ good. false≢true (sym (none_bad rs good) ∙ bad))
    for_six (seven few good wrong) e = absurd (omega arith)
    for_six (taken few good ordered) e = absurd (omega arith)

    for_seven : {o : RegionOutcome} → RegionCase rs o → o.number ≡ 7 → LowestToBreak breaks_seven rs o.index
    for_seven (eight many) e = absurd (omega arith)
    for_seven (six few bad) e = absurd (omega arith)
    for_seven (seven few good wrong) e = lowest_breaks breaks_seven rs (λ ordered. false≢true (sym (none-disordered rs ordered) ∙ wrong))
    for_seven (taken few good ordered) e = absurd (omega arith)

    for_others : {o : RegionOutcome} → RegionCase rs o → o.number ≢ 6 → o.number ≢ 7 → o.index ≡ 0
    for_others (eight many) f g = refl
    for_others (six few bad) f g = absurd (f refl)
    for_others (seven few good wrong) f g = absurd (g refl)
    for_others (taken few good ordered) f g = refl
