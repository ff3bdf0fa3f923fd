-- `mask_array::mask_runs_of` meets its contract: what is returned says the list that `mask_runs` leaves, and the other records behind it.
use mathlib.Core.Path.{◌≡◌, refl, ap, ◌∙◌}
use mathlib.Core.Bool.{Bool, true, false}
use mathlib.Core.List.{List, ◌++◌}
use Prim.Native.Nat.{ℕ, ◌<◌, ◌≤◌, min}
use native.Mathlib.Omega.{arith}
use borrow.Author.Tests.{leb-true, leb-false}
use lib.Dec.{leb}
use lib.ListN.{length, take, drop}
use Rattle.std.proofs.lemmas.List.{take_all, drop_all}
use Rattle.cells.specs.declared.Run.{Run}
use Rattle.mask_cells.specs.MaskCalls.{mask_runs_call}
use Rattle.std.specs.Prelude.{Result, Ok, Err}
use Rattle.masks.specs.declared.MaskRunsRefusal.{MaskRunsRefusal}
use Rattle.masks.specs.MaskAnswers.{runs_reading}
use Rattle.mask_array.specs.ArrayCall.{followed_by, array_call}
use Rattle.mask_array.proofs.mask_runs_of.Goals as goal

followed : (r : Result ℕ MaskRunsRefusal) (l others : List Run) → runs_reading r (l ++ others) ≡ followed_by (runs_reading r l) others
followed (Ok n) l others = refl
followed (Err r) l others = refl

-- Past the end of the array nothing more is lent.
same_parts : (xs : List Run) (k n : ℕ) → length xs ≡ 4097 → n ≡ min k 4097 → (take n xs ≡ take k xs) × (drop n xs ≡ drop k xs)
same_parts xs k n len e = go (leb 4097 k) (leb-true 4097 k) (leb-false 4097 k)
  where
    go : (b : Bool) → (b ≡ true → 4097 ≤ k) → (b ≡ false → k < 4097) → (take n xs ≡ take k xs) × (drop n xs ≡ drop k xs)
    go true f g =
        let past = f refl in
        (rw (take_all n xs (omega arith), take_all k xs (omega arith)), rw (drop_all n xs (omega arith), drop_all k xs (omega arith)))
    go false f g =
        let within = g refl in
        let same : n ≡ k = omega arith in
        (rw same, rw same)

whole_array : (ws : List ℕ) (xs : List Run) (k n : ℕ) (r : Result ℕ MaskRunsRefusal) (zs : List Run) → length xs ≡ 4097 → n ≡ min k 4097 → runs_reading r zs ≡ mask_runs_call ws (take n xs) → runs_reading r (zs ++ drop n xs) ≡ array_call ws xs k
unfolding array_call
whole_array ws xs k n r zs len is e =
    let (lent, others) = same_parts xs k n len is in
    followed r zs (drop n xs) ∙ ap (λ o. followed_by o (drop n xs)) e ∙ (λ i. followed_by (mask_runs_call ws (lent i)) (others i))

pub returns : goal.returns
returns c = whole_array c.args.words.now c.args.runs c.args.held c.min-held.result c.mask_runs-answer.result c.mask_runs-answer.new.runs (omega arith) c.min-held.ensures c.mask_runs-answer.ensures
