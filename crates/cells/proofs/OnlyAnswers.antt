-- What the promise of the call on runs leaves open: nothing. Each list of runs has one answer, which its number, index and totals settle.
use Prim.Native.Nat.{ℕ}
use mathlib.Core.Path.{◌≡◌, sym, ◌∙◌}
use mathlib.Core.List.{List}
use Rattle.std.specs.Prelude.{Result, Ok, Err}
use Rattle.outline.specs.declared.Totals.{Totals}
use Rattle.cells.specs.declared.Run.{Run}
use Rattle.cells.specs.declared.RegionRefusal.{RegionRefusal}
use Rattle.cells.specs.declared.RegionRefusal.TheVariants.{BadRun, OutOfOrder, TooManyRuns}
use Rattle.cells.specs.RegionCall.{refused, region_call, reading}
use Rattle.cells.proofs.AnswerReading.{reading_one_to_one}
use Rattle.cells.proofs.WorkedIndices.{then_two_bad, lowest}

module _ (rs : List Run) where
  pub one_answer : (a b : Result Totals RegionRefusal) → reading a ≡ region_call rs → reading b ≡ region_call rs → a ≡ b
  one_answer a b e f = reading_one_to_one a b (e ∙ sym f)

  -- a is the answer that keeps the promise for these runs
  abbrev Only : Result Totals RegionRefusal → Type 0
  Only a = (b : Result Totals RegionRefusal) → reading b ≡ region_call rs → b ≡ a

  only-accepted : (t : Totals) → region_call rs ≡ record { number = 0; index = 0; totals = t } → Only (Ok t)
  only-accepted t h b e = reading_one_to_one b (Ok t) (e ∙ h)

  only-six : (i : ℕ) → region_call rs ≡ refused 6 i → Only (Err (BadRun i))
  only-six i h b e = reading_one_to_one b (Err (BadRun i)) (e ∙ h)

  only-seven : (i : ℕ) → region_call rs ≡ refused 7 i → Only (Err (OutOfOrder i))
  only-seven i h b e = reading_one_to_one b (Err (OutOfOrder i)) (e ∙ h)

  only-eight : region_call rs ≡ refused 8 0 → Only (Err TooManyRuns)
  only-eight h b e = reading_one_to_one b (Err TooManyRuns) (e ∙ h)

-- Of five runs, run 3 is the first that breaks 6.
five_runs : Only then_two_bad (Err (BadRun 3))
five_runs = only-six then_two_bad 3 lowest.six
