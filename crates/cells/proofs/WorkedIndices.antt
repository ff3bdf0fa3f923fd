-- Document 02, CR 8, by computation: which run the index is of, where several break a rule, and in each order of 6 and 7.
use Prim.Native.Nat.{ℕ}
use mathlib.Core.Path.{◌≡◌, refl}
use mathlib.Core.List.{List, [], ◌∷◌, ◌++◌, map}
use lib.ListN.{replicate}
use Rattle.integers.specs.Search.{first_where}
use Rattle.cells.specs.declared.Run.{Run}
use Rattle.cells.specs.RegionCall.{refused, bad_run, any_bad, lies_after, disordered, too_many, region_call}
use Rattle.cells.proofs.RunLimits.{run}

-- Run 1 begins before run 0 ends, and run 2 has a lower row: both break 7.
abbrev pub two_disordered : List Run
two_disordered = run 5 0 3 ∷ run 5 2 1 ∷ run 4 0 1 ∷ []

-- And behind them run 3 has a row over 1,023, and run 4 has no cell: both break 6.
abbrev pub then_two_bad : List Run
then_two_bad = two_disordered ++ run 1024 0 1 ∷ run 6 0 0 ∷ []

pub record Lowest : Type 0 where
  pub six : region_call then_two_bad ≡ refused 6 3
  pub seven : region_call two_disordered ≡ refused 7 1

pub lowest : Lowest
unfolding first_where bad_run any_bad lies_after disordered too_many region_call
lowest = record { six = refl; seven = refl }

-- ---- the number and the index of lists of runs

abbrev answered : List (List Run) → List (ℕ × ℕ)
answered ls = map (λ rs. ((region_call rs).number, (region_call rs).index)) ls

-- a run of this row that breaks no rule alone, and one that breaks 6
abbrev good : ℕ → Run
good y = run y 0 1

abbrev bad : ℕ → Run
bad y = run y 0 0

record Places : Type 0 where
  -- 6 by each run of three in turn, and by all of them
  six : answered ((bad 1 ∷ good 2 ∷ good 3 ∷ []) ∷ (good 1 ∷ bad 2 ∷ good 3 ∷ []) ∷ (good 1 ∷ good 2 ∷ bad 3 ∷ []) ∷ (bad 1 ∷ bad 2 ∷ bad 3 ∷ []) ∷ []) ≡ (6, 0) ∷ (6, 1) ∷ (6, 2) ∷ (6, 0) ∷ []
  -- 7 by the later run of each pair of three in turn, and of both: never by the first run
  seven : answered ((good 2 ∷ good 1 ∷ good 3 ∷ []) ∷ (good 1 ∷ good 3 ∷ good 2 ∷ []) ∷ (good 3 ∷ good 2 ∷ good 1 ∷ []) ∷ []) ≡ (7, 1) ∷ (7, 2) ∷ (7, 1) ∷ []
  -- a run that breaks both rules, behind one that breaks 7 alone and before others
  both : answered ((good 5 ∷ good 4 ∷ bad 3 ∷ good 2 ∷ bad 1 ∷ []) ∷ []) ≡ (6, 2) ∷ []
  -- 8, whatever the runs break; and no refusal
  none : answered (replicate 4097 (bad 1) ∷ (good 1 ∷ good 2 ∷ []) ∷ [] ∷ []) ≡ (8, 0) ∷ (0, 0) ∷ (0, 0) ∷ []

places : Places
unfolding first_where bad_run any_bad lies_after disordered too_many region_call
places = record { six = refl; seven = refl; both = refl; none = refl }
