-- The number that the call on runs gives: the first of 8, 6 and 7 that applies, each rule told run by run.
use mathlib.Core.Path.{◌≡◌, refl, sym, ◌∙◌}
use mathlib.Core.Bool.{Bool, true, false, false≢true}
use mathlib.Core.List.{List}
use Prim.Native.Nat.{ℕ, ◌<◌}
use lib.ListN.{length}
use Rattle.cells.specs.declared.Run.{Run}
use Rattle.cells.specs.RegionCall.{any_bad, disordered, breaks_six, breaks_seven, region_call}
use Rattle.cells.specs.RegionLaws.{AllKeep, NumberChosen}
use Rattle.cells.proofs.RulePlaces.{none_bad, good_at, none-disordered, ordered_at, few, many}

-- A list in which one run breaks a rule breaks it.
broken : (breaks : List Run → ℕ → Bool) (rs : List Run) (whole : Bool) → (whole ≡ false → AllKeep breaks rs) → (i : ℕ) → i < length rs → breaks rs i ≡ true → whole ≡ true
broken breaks rs true keep i h e = refl
broken breaks rs false keep i h e = absurd (false≢true (sym (keep refl i h) ∙ e))

pub number_chosen : NumberChosen
unfolding region_call
number_chosen rs =
    record {
      eight = λ l. rw (many rs l);
      six = λ l i h e. rw (few rs l, broken breaks_six rs (any_bad rs) (good_at rs) i h e);
      seven = λ l good i h e. rw (few rs l, none_bad rs good, broken breaks_seven rs (disordered rs) (ordered_at rs) i h e);
      accepted = λ l good ordered. rw (few rs l, none_bad rs good, none-disordered rs ordered);
    }
