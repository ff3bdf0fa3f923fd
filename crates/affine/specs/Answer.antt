-- Document 01, "Turned back because of the input": what each answer of the map call says, by its number and its totals.
use Rattle.std.specs.Prelude.{ℕ, Result, Ok, Err}
use Rattle.outline.specs.declared.Totals.{Totals}
use Rattle.outline.specs.ListCall.{Outcome, accepted, refused}
use Rattle.affine.specs.declared.MapRefusal.{MapRefusal}
use Rattle.affine.specs.declared.MapRefusal.TheVariants.{MapOutsideLimits, TotalsOutsideBounds, ResultOutsideLimits}

abbrev pub map_number : MapRefusal → ℕ
map_number MapOutsideLimits = 3
map_number TotalsOutsideBounds = 4
map_number ResultOutsideLimits = 5

abbrev pub reading : Result Totals MapRefusal → Outcome
reading (Ok t) = accepted t
reading (Err r) = refused (map_number r)
