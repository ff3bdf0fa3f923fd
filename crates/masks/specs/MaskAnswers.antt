-- The answers of the calls on a mask in document 02's terms: 31 and 8, with zeros for the totals and with no run counted.
use Rattle.std.specs.Prelude.{ℕ, List, Result, Ok, Err}
use Rattle.outline.specs.declared.Totals.{Totals}
use Rattle.outline.specs.ListCall.{Outcome, accepted, refused}
use Rattle.cells.specs.declared.Run.{Run}
use Rattle.mask_cells.specs.MaskCalls.{MaskRunsOutcome, nothing_written}
use Rattle.masks.specs.declared.WrongLength.{WrongLength}
use Rattle.masks.specs.declared.MaskRunsRefusal.{MaskRunsRefusal}
use Rattle.masks.specs.declared.MaskRunsRefusal.TheVariants as Runs

abbrev pub length_number : WrongLength → ℕ
length_number r = 31

abbrev pub totals_reading : Result Totals WrongLength → Outcome
totals_reading (Ok t) = accepted t
totals_reading (Err r) = refused (length_number r)

abbrev pub runs_number : MaskRunsRefusal → ℕ
runs_number Runs.WrongLength = 31
runs_number Runs.TooManyRuns = 8

-- The writer's answer, and the caller's list afterwards.
abbrev pub runs_reading : Result ℕ MaskRunsRefusal → List Run → MaskRunsOutcome
runs_reading (Ok n) after = record { number = 0; index = 0; count = n; list = after }
runs_reading (Err r) after = nothing_written (runs_number r) after
