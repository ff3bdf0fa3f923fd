-- Document 02, CR 3: islands and holes, by computation.
use Prim.Native.String.{String}
use mathlib.Core.Path.{◌≡◌, refl}
use mathlib.Core.List.{List, [], ◌∷◌, ◌++◌}
use lib.IntN.{pos, negsuc}
use lib.Ieee.{lt}
use Rattle.receiver.specs.Floats.{not_finite, below_zero}
use Rattle.outline.specs.declared.Totals.{Totals}
use Rattle.outline.specs.EdgeSums.{negated, over, exceed}
use Rattle.outline.specs.ListCall.{beyond}
use Rattle.outline.specs.WalkCalls.{sheet_of, extended, has_sign, turned, zero_area, impossible_walk, impossible_sheet, begin_call, point_call, end_call}
use Rattle.integers.specs.Rounding.{rounds_to}
use Rattle.centroid.specs.Centroid.{signed_by, outline_centroid_call}
use Rattle.centroid.proofs.WorkedCentres.{totals}
use Rattle.text_numbers.specs.Numbers.{all_digits, value_from, leading_zero, is_natural, natural_of, number_of}
use Rattle.parsing.specs.Grammar.{with_first, fields, is_byte, letter_of, point_of, form_of_fields, form_of}
use Rattle.decimals.specs.Decimal.{digits, decimal, signed}
use Rattle.printing.specs.Output.{totals_text, centre_text, outline_line, refusal_line, sheet_line}
use Rattle.text_program.specs.Program.{lines_from, too_far, carried_walk, carried_end, carry_out, output_of, program}
use Rattle.text_program.proofs.Worked.{bytes, text, figures, rectangle}

-- ---- the pond of the request, in the rectangle

-- The totals of the pond as a hole, and of both.
abbrev pond : Totals
pond = totals (negsuc 4) (negsuc 74) (negsuc 49) (negsuc 754) (negsuc 1004) (negsuc 344)

abbrev with_pond : Totals
with_pond = totals (pos 75) (pos 1125) (pos 910) (pos 13965) (pos 20115) (pos 8615)

abbrev printed : List String
printed = "O 1 4 80 1200 960 14720 21120 8960 5 4" ∷ "O 2 3 -5 -75 -50 -755 -1005 -345 5 3" ∷ "S 2 75 1125 910 13965 20115 8615 5 4" ∷ []

their_text : outline_line 1 4 rectangle ++ (outline_line 2 3 pond ++ sheet_line (sheet_of 2 with_pond)) ≡ text printed
unfolding over exceed rounds_to signed_by outline_centroid_call digits decimal signed totals_text outline_line sheet_line
their_text =
    let first = figures rectangle (pos 5) (pos 4) refl refl refl in
    let second = figures pond (pos 5) (pos 3) refl refl refl in
    let both = figures with_pond (pos 5) (pos 4) refl refl refl in
    λ i. bytes "O 1 4" ++ (first i ++ (bytes "O 2 3" ++ (second i ++ (bytes "S 2" ++ both i))))

-- They print the same whichever way they are walked.
abbrev anticlockwise : List String
anticlockwise = "B" ∷ "P 2 0" ∷ "P 10 4" ∷ "P 8 8" ∷ "P 0 4" ∷ "E" ∷ "B H" ∷ "P 4 2" ∷ "P 6 3" ∷ "P 5 5" ∷ "E" ∷ []

abbrev clockwise : List String
clockwise = "B" ∷ "P 0 4" ∷ "P 8 8" ∷ "P 10 4" ∷ "P 2 0" ∷ "E" ∷ "B H" ∷ "P 5 5" ∷ "P 6 3" ∷ "P 4 2" ∷ "E" ∷ []

pub either_way : (program (text anticlockwise) ≡ text printed) × (program (text clockwise) ≡ text printed)
unfolding over exceed beyond extended has_sign turned zero_area not_finite below_zero lt impossible_walk impossible_sheet begin_call point_call end_call all_digits value_from leading_zero is_natural natural_of number_of with_first fields is_byte letter_of point_of form_of_fields form_of lines_from too_far carried_walk carried_end carry_out output_of program
either_way = (their_text, their_text)

-- ---- the rectangle, and the same as a hole

-- The sheet has two outlines and no area. Each walk keeps its kind where 22 refuses a begin of the other.
abbrev twice : List String
twice = "B" ∷ "B H" ∷ "P 2 0" ∷ "P 10 4" ∷ "P 8 8" ∷ "P 0 4" ∷ "E" ∷ "B H" ∷ "B" ∷ "P 2 0" ∷ "P 10 4" ∷ "P 8 8" ∷ "P 0 4" ∷ "E" ∷ []

pub no_area_left : program (text twice) ≡ text ("R 2 22" ∷ "O 1 4 80 1200 960 14720 21120 8960 5 4" ∷ "R 9 22" ∷ "O 2 4 -80 -1200 -960 -14720 -21120 -8960 5 4" ∷ "S 2 0 0 0 0 0 0 - -" ∷ [])
unfolding over exceed beyond extended has_sign turned zero_area not_finite below_zero lt impossible_walk impossible_sheet begin_call point_call end_call rounds_to signed_by outline_centroid_call all_digits value_from leading_zero is_natural natural_of number_of with_first fields is_byte letter_of point_of form_of_fields form_of digits decimal signed totals_text centre_text outline_line refusal_line sheet_line lines_from too_far carried_walk carried_end carry_out output_of program
no_area_left =
    let first = figures rectangle (pos 5) (pos 4) refl refl refl in
    let second = figures (negated rectangle) (pos 5) (pos 4) refl refl refl in
    λ i. text ("R 2 22" ∷ []) ++ (bytes "O 1 4" ++ (first i ++ (text ("R 9 22" ∷ []) ++ (bytes "O 2 4" ++ (second i ++ text ("S 2 0 0 0 0 0 0 - -" ∷ []))))))
