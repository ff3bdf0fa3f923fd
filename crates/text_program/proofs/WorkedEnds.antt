-- Document 01, "The text program": corner cases of lines and of 10, by computation.
use lib.Ieee.{lt}
use Rattle.receiver.specs.Floats.{not_finite, below_zero}
use mathlib.Core.Path.{◌≡◌, refl}
use mathlib.Core.List.{[], ◌∷◌, ◌++◌}
use Rattle.outline.specs.EdgeSums.{over, exceed}
use Rattle.outline.specs.WalkCalls.{closed, new_sheet, impossible_walk, begin_call, abandon_call}
use Rattle.centroid.specs.Centroid.{outline_centroid_call}
use Rattle.parsing.specs.Grammar.{with_first, fields, is_byte, letter_of, form_of_fields, form_of}
use Rattle.decimals.specs.Decimal.{digits, decimal, signed}
use Rattle.printing.specs.Output.{totals_text, centre_text, refusal_line, sheet_line}
use Rattle.text_program.specs.Program.{lines_from, too_far, carried_walk, carry_out, output_of, program}
use Rattle.text_program.proofs.Worked.{text}

-- A last line without a newline counts, and a walk that was not ended adds nothing.
pub unended : program (66 ∷ 10 ∷ 66 ∷ []) ≡ text ("R 2 22" ∷ "S 0 0 0 0 0 0 0 - -" ∷ [])
unfolding over exceed not_finite below_zero lt impossible_walk begin_call outline_centroid_call with_first fields is_byte letter_of form_of_fields form_of digits decimal signed totals_text centre_text refusal_line sheet_line lines_from too_far carried_walk carry_out output_of program
unended = refl

-- An empty line is 9; a walk that is not open cannot be abandoned.
pub empty_line : program (10 ∷ 65 ∷ []) ≡ text ("R 1 9" ∷ "R 2 21" ∷ "S 0 0 0 0 0 0 0 - -" ∷ [])
unfolding over exceed not_finite below_zero lt impossible_walk abandon_call outline_centroid_call with_first fields is_byte letter_of form_of_fields form_of digits decimal signed totals_text centre_text refusal_line sheet_line lines_from too_far carried_walk carry_out output_of program
empty_line = refl

-- Line 1,000,000 is carried out, line 1,000,001 is 10 though it has no form.
pub at_line : output_of closed new_sheet (record { number = 1_000_000; last = 2_000_000; bytes = 66 ∷ [] } ∷ record { number = 1_000_001; last = 2_000_001; bytes = [] } ∷ []) ≡ refusal_line 1_000_001 10 ++ sheet_line new_sheet
unfolding exceed over not_finite below_zero lt impossible_walk begin_call with_first fields is_byte letter_of form_of_fields form_of too_far carried_walk carry_out output_of
at_line = refl

-- A line whose last byte is 33,000,000 is carried out; one that holds byte 33,000,001 is 10, and nothing but S follows.
pub at_byte : output_of closed new_sheet (record { number = 1; last = 33_000_000; bytes = 65 ∷ [] } ∷ record { number = 2; last = 33_000_001; bytes = 65 ∷ [] } ∷ record { number = 3; last = 33_000_003; bytes = 65 ∷ [] } ∷ []) ≡ text ("R 1 21" ∷ "R 2 10" ∷ "S 0 0 0 0 0 0 0 - -" ∷ [])
unfolding over exceed not_finite below_zero lt impossible_walk abandon_call outline_centroid_call with_first fields is_byte letter_of form_of_fields form_of digits decimal signed totals_text centre_text refusal_line sheet_line too_far carried_walk carry_out output_of
at_byte = refl

-- A newline is a byte of the line that it ends and comes before the next: of two lines A the second is carried out where its newline is byte 33,000,000, and is 10 where
-- that is byte 33,000,001.
pub newline_counted : (output_of closed new_sheet (lines_from 0 32_999_996 [] (65 ∷ 10 ∷ 65 ∷ 10 ∷ [])) ≡ text ("R 1 21" ∷ "R 2 21" ∷ "S 0 0 0 0 0 0 0 - -" ∷ [])) × (output_of closed new_sheet (lines_from 0 32_999_997 [] (65 ∷ 10 ∷ 65 ∷ 10 ∷ [])) ≡ text ("R 1 21" ∷ "R 2 10" ∷ "S 0 0 0 0 0 0 0 - -" ∷ []))
unfolding over exceed not_finite below_zero lt impossible_walk abandon_call outline_centroid_call with_first fields is_byte letter_of form_of_fields form_of digits decimal signed totals_text centre_text refusal_line sheet_line lines_from too_far carried_walk carry_out output_of
newline_counted = (refl, refl)

-- A last line without a newline ends with its last byte: A is carried out where it is byte 33,000,000, and is 10 where it is byte 33,000,001.
pub unended_counted : (output_of closed new_sheet (lines_from 0 32_999_999 [] (65 ∷ [])) ≡ text ("R 1 21" ∷ "S 0 0 0 0 0 0 0 - -" ∷ [])) × (output_of closed new_sheet (lines_from 0 33_000_000 [] (65 ∷ [])) ≡ text ("R 1 10" ∷ "S 0 0 0 0 0 0 0 - -" ∷ []))
unfolding over exceed not_finite below_zero lt impossible_walk abandon_call outline_centroid_call with_first fields is_byte letter_of form_of_fields form_of digits decimal signed totals_text centre_text refusal_line sheet_line lines_from too_far carried_walk carry_out output_of
unended_counted = (refl, refl)
