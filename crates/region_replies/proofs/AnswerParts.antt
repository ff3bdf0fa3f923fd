-- The number and the totals that an answer tells by itself are those of its reading.
use Rattle.std.proofs.Common.{◌≡◌, refl}
use Rattle.std.specs.Prelude.{Result, Ok, Err}
use Rattle.refusals.specs.Numbers.{number_of}
use Rattle.outline.specs.declared.Totals.{Totals}
use Rattle.outline_answers.specs.ListAnswer.{totals_of}
use Rattle.cells.specs.declared.RegionRefusal.{RegionRefusal}
use Rattle.cells.specs.RegionCall.{region_number, reading}

pub number_told : (a : Result Totals RegionRefusal) → number_of region_number a ≡ (reading a).number
number_told (Ok t) = refl
number_told (Err r) = refl

pub totals_told : (a : Result Totals RegionRefusal) → totals_of a ≡ (reading a).totals
totals_told (Ok t) = refl
totals_told (Err r) = refl
