-- Document 02, CR 9: the definitions give the figures of every row of entries, by computation.
use mathlib.Core.Path.{refl}
use lib.Count.{count_trailing_zeros}
use lib.Ieee.{lt, odd, of_fields, of_bits}
use Rattle.integers.specs.Rounding.{rounds_to, first_rounded, round_half_up}
use Rattle.receiver.specs.Floats.{not_finite, rounded, below_zero}
use Rattle.outline.specs.EdgeSums.{over, exceed}
use Rattle.outline.specs.ListCall.{beyond}
use Rattle.outline.specs.FixCall.{fix_not_finite}
use Rattle.outline.specs.WalkCalls.{extended, has_sign, turned, zero_area, impossible_walk, impossible_sheet, begin_call, point_call, end_call}
use Rattle.outline.specs.EntryCalls.{longer, fix_call, outage_call, entry_call}
use Rattle.outline.specs.CallLists.{number_of, walk_after, ring_with, next, after}
use Rattle.outline.proofs.Every.{All}
use Rattle.worked_rows.specs.EntryRows.{Holds, entry_rows}

pub entry-rows : All Holds entry_rows
unfolding count_trailing_zeros odd of_fields of_bits lt rounds_to first_rounded round_half_up not_finite rounded below_zero over exceed beyond fix_not_finite extended has_sign turned zero_area impossible_walk impossible_sheet begin_call point_call end_call longer fix_call outage_call entry_call number_of walk_after ring_with next after
entry-rows = (record { numbers = refl; ended = refl; totals = refl; outage = refl }, (record { numbers = refl; ended = refl; totals = refl; outage = refl }, (record { numbers = refl; ended = refl; totals = refl; outage = refl }, (record { numbers = refl; ended = refl; totals = refl; outage = refl }, tt))))
