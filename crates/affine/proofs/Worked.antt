-- Document 01's worked map, by computation: the unit square under u = x + y + 1, v = y.
use mathlib.Core.Path.{◌≡◌, refl}
use lib.IntN.{pos}
use Rattle.outline.specs.EdgeSums.{over, exceed}
use Rattle.outline.specs.ListCall.{accepted}
use Rattle.outline.specs.MapCall.{disallowed, map_call}

unit_square_mapped : map_call (record { a = pos 1; b = pos 1; g = pos 0; h = pos 1; e = pos 1; f = pos 0 }) (record { a2 = pos 2; x6 = pos 3; y6 = pos 3; xx12 = pos 4; xy24 = pos 6; yy12 = pos 4 })
    ≡ accepted (record { a2 = pos 2; x6 = pos 12; y6 = pos 3; xx12 = pos 50; xy24 = pos 26; yy12 = pos 4 })
unfolding map_call disallowed exceed over
unit_square_mapped = refl
