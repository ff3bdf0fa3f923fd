-- The call for the runs of a mask, on an array whose first records it may write.
use Rattle.std.specs.Prelude.{ℕ, List, ◌++◌, take, drop}
use Rattle.cells.specs.declared.Run.{Run}
use Rattle.mask_cells.specs.MaskCalls.{MaskRunsOutcome, mask_runs_call}

-- The outcome with the records that stand behind its list.
abbrev pub followed_by : MaskRunsOutcome → List Run → MaskRunsOutcome
followed_by o others = record { number = o.number; index = o.index; count = o.count; list = o.list ++ others }

-- The call on the first `held` records of an array, or on all of them if `held` is larger. Its list is the whole array afterwards: the other records stay.
unfoldable pub array_call : List ℕ → List Run → ℕ → MaskRunsOutcome
array_call words runs held = followed_by (mask_runs_call words (take held runs)) (drop held runs)
