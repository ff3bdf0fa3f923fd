-- Lines of the output worked by computation. A tab is 9, a newline 10, a minus 45, a digit d 48 + d; the letters O, R and S are 79, 82 and 83.
use mathlib.Core.Path.{◌≡◌, refl}
use mathlib.Core.List.{[], ◌∷◌}
use lib.IntN.{pos, negsuc}
use Rattle.outline.specs.EdgeSums.{over, exceed}
use Rattle.outline.specs.WalkCalls.{new_sheet}
use Rattle.integers.specs.Rounding.{rounds_to, first_rounded, round_half_up}
use Rattle.centroid.specs.Centroid.{signed_by, outline_centroid_call}
use Rattle.decimals.specs.Decimal.{digits, decimal, signed}
use Rattle.printing.specs.Output.{totals_text, centre_text, outline_line, refusal_line, sheet_line}

-- R 1 9.
refusal : refusal_line 1 9 ≡ 82 ∷ 9 ∷ 49 ∷ 9 ∷ 57 ∷ 10 ∷ []
unfolding refusal_line signed decimal digits
refusal = refl

-- S 0 0 0 0 0 0 0 - -, of a new sheet, which has no centre.
new_sheet_lem : sheet_line new_sheet ≡ 83 ∷ 9 ∷ 48 ∷ 9 ∷ 48 ∷ 9 ∷ 48 ∷ 9 ∷ 48 ∷ 9 ∷ 48 ∷ 9 ∷ 48 ∷ 9 ∷ 48 ∷ 9 ∷ 45 ∷ 9 ∷ 45 ∷ 10 ∷ []
unfolding sheet_line totals_text centre_text outline_centroid_call exceed over signed decimal digits
new_sheet_lem = refl

-- O 2 3 1 3 -6 4 5 6 1 -2: six totals that differ, and a centre whose x and y differ.
outline : outline_line 2 3 (record { a2 = pos 1; x6 = pos 3; y6 = negsuc 5; xx12 = pos 4; xy24 = pos 5; yy12 = pos 6 })
    ≡ 79 ∷ 9 ∷ 50 ∷ 9 ∷ 51 ∷ 9 ∷ 49 ∷ 9 ∷ 51 ∷ 9 ∷ 45 ∷ 54 ∷ 9 ∷ 52 ∷ 9 ∷ 53 ∷ 9 ∷ 54 ∷ 9 ∷ 49 ∷ 9 ∷ 45 ∷ 50 ∷ 10 ∷ []
unfolding outline_line totals_text centre_text outline_centroid_call exceed over rounds_to first_rounded round_half_up signed_by signed decimal digits
outline = refl
