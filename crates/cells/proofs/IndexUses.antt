-- The statements on the number and the index used, with every quantifier free and the rules written out, and at the runs of WorkedIndices, so that a weaker statement is refused here. RunRules has the rules of a run in numbers.
use mathlib.Core.Path.{◌≡◌, refl, sym, ◌∙◌, ap}
use mathlib.Core.Bool.{true, false, not, false≢true}
use mathlib.Core.List.{List}
use Prim.Native.Nat.{ℕ, zero, suc, ◌-◌, ◌<◌, ◌≤◌}
use native.Mathlib.Omega.{arith}
use lib.ListN.{length, get_or}
use borrow.Author.Tests.{not-true, not-false}
use Rattle.cells.specs.declared.Run.{Run}
use Rattle.cells.specs.RegionCall.{empty_run, bad_run, lies_after, breaks_six, breaks_seven, region_call}
use Rattle.cells.specs.RegionLaws.{NumberChosen, LowestToBreak, IndexIsLowest}
use Rattle.cells.proofs.LowestIndex.{lowest_is, index_is_lowest}
use Rattle.cells.proofs.NumberChosen.{number_chosen}
use Rattle.cells.proofs.WorkedIndices.{two_disordered, then_two_bad, lowest}

-- Each theorem has the type that is stated.
chosen : NumberChosen
chosen = number_chosen

given : IndexIsLowest
given = index_is_lowest

-- ---- the number

module _ (rs : List Run) where
  more-runs : 4096 < length rs → (region_call rs).number ≡ 8
  more-runs = (chosen rs).eight

  six_wherever : length rs ≤ 4096 → (i : ℕ) → i < length rs → bad_run (get_or rs i empty_run) ≡ true → (region_call rs).number ≡ 6
  six_wherever = (chosen rs).six

  module _ (allowed : length rs ≤ 4096) (good : (i : ℕ) → i < length rs → bad_run (get_or rs i empty_run) ≡ false) where
    seven_wherever : (i : ℕ) → suc i < length rs → lies_after (get_or rs i empty_run) (get_or rs (suc i) empty_run) ≡ false → (region_call rs).number ≡ 7
    seven_wherever i h e = (chosen rs).seven allowed good (suc i) h (ap not e)

    none_wrong : ((i : ℕ) → suc i < length rs → lies_after (get_or rs i empty_run) (get_or rs (suc i) empty_run) ≡ true) → (region_call rs).number ≡ 0
    none_wrong ordered = (chosen rs).accepted allowed good keep
      where
        keep : (i : ℕ) → i < length rs → breaks_seven rs i ≡ false
        keep zero h = refl
        keep (suc i) h = ap not (ordered i h)

-- ---- 6

module _ (rs : List Run) (refused : (region_call rs).number ≡ 6) where
  abbrev six : ℕ
  six = (region_call rs).index

  six_there : six < length rs
  six_there = ((given rs).with_six refused).present

  six_breaks : bad_run (get_or rs six empty_run) ≡ true
  six_breaks = ((given rs).with_six refused).broken

  six-none-lower : (j : ℕ) → j < six → bad_run (get_or rs j empty_run) ≡ false
  six-none-lower j l = ((given rs).with_six refused).none-lower j l

-- ---- 7: of a run and the one before it

-- One less than the index after i is i.
previous : (i : ℕ) → suc i - 1 ≡ i
previous i = omega arith

-- A run that breaks 7 is not the first, and does not lie after the one before it.
not_after : (rs : List Run) (i : ℕ) → breaks_seven rs i ≡ true → (1 ≤ i) × (lies_after (get_or rs (i - 1) empty_run) (get_or rs i empty_run) ≡ false)
not_after rs zero e = absurd (false≢true e)
not_after rs (suc i) e = (omega arith, rw (previous i) (not-true _ e))

after : (rs : List Run) (i : ℕ) → 1 ≤ i → breaks_seven rs i ≡ false → lies_after (get_or rs (i - 1) empty_run) (get_or rs i empty_run) ≡ true
after rs zero h e = absurd (omega arith)
after rs (suc i) h e = rw (previous i) (not-false _ e)

module _ (rs : List Run) (refused : (region_call rs).number ≡ 7) where
  abbrev seven : ℕ
  seven = (region_call rs).index

  seven_there : (1 ≤ seven) × (seven < length rs)
  seven_there = ((not_after rs seven ((given rs).with_seven refused).broken).0, ((given rs).with_seven refused).present)

  seven_breaks : lies_after (get_or rs (seven - 1) empty_run) (get_or rs seven empty_run) ≡ false
  seven_breaks = (not_after rs seven ((given rs).with_seven refused).broken).1

  seven-none-lower : (j : ℕ) → 1 ≤ j → j < seven → lies_after (get_or rs (j - 1) empty_run) (get_or rs j empty_run) ≡ true
  seven-none-lower j h l = after rs j h (((given rs).with_seven refused).none-lower j l)

-- ---- no other index

with_eight : (rs : List Run) → (region_call rs).number ≡ 8 → (region_call rs).index ≡ 0
with_eight rs e = (given rs).otherwise (λ six. absurd (omega arith)) (λ seven. absurd (omega arith))

where_accepted : (rs : List Run) → (region_call rs).number ≡ 0 → (region_call rs).index ≡ 0
where_accepted rs e = (given rs).otherwise (λ six. absurd (omega arith)) (λ seven. absurd (omega arith))

-- What is claimed settles the index: whatever is the lowest is the one that is given.
no_other_six : (rs : List Run) (i : ℕ) → (region_call rs).number ≡ 6 → LowestToBreak breaks_six rs i → (region_call rs).index ≡ i
no_other_six rs i e h = sym (lowest_is breaks_six rs ((given rs).with_six e)) ∙ lowest_is breaks_six rs h

no_other_seven : (rs : List Run) (i : ℕ) → (region_call rs).number ≡ 7 → LowestToBreak breaks_seven rs i → (region_call rs).index ≡ i
no_other_seven rs i e h = sym (lowest_is breaks_seven rs ((given rs).with_seven e)) ∙ lowest_is breaks_seven rs h

-- ---- at the runs of WorkedIndices

six_of_five : (region_call then_two_bad).number ≡ 6
six_of_five = ap (λ o. o.number) lowest.six

index_of_five : (region_call then_two_bad).index ≡ 3
index_of_five = ap (λ o. o.index) lowest.six

-- Run 2, before the index, keeps to 6.
run_2_keeps : bad_run (get_or then_two_bad 2 empty_run) ≡ false
run_2_keeps = six-none-lower then_two_bad six_of_five 2 (rw index_of_five (omega arith))

-- Run 1 of three does not lie after run 0.
run_1_disordered : lies_after (get_or two_disordered 0 empty_run) (get_or two_disordered 1 empty_run) ≡ false
run_1_disordered =
    let at-index = seven_breaks two_disordered (ap (λ o. o.number) lowest.seven) in
    sym (ap (λ i. lies_after (get_or two_disordered (i - 1) empty_run) (get_or two_disordered i empty_run)) (ap (λ o. o.index) lowest.seven)) ∙ at-index
