-- The cases of a line at values, each once or more: an accepted begin of a hole, accepted points, an accepted end that turns the signs, a refused end, a line of none of
-- the forms; then S. Then every input.
use Prim.Native.Nat.{ℕ}
use mathlib.Core.Path.{◌≡◌, refl, sym, ap, ◌∙◌}
use mathlib.Core.List.{List, [], ◌∷◌, ◌++◌, append_assoc}
use lib.IntN.{pos}
use lib.Ieee.{lt}
use Rattle.receiver.specs.Floats.{not_finite, below_zero}
use borrow.Author.Tests.{eqb-false}
use Rattle.outline.specs.declared.Totals.{Totals}
use Rattle.outline.specs.declared.Kind.TheVariants.{Hole}
use Rattle.outline.specs.declared.Sheet.{Sheet}
use Rattle.outline.specs.EdgeSums.{negated, open_edges, edges, sum_over, over, exceed}
use Rattle.outline.specs.ListCall.{points, numbers, beyond, any_beyond, wrong_length, list_call}
use Rattle.outline.specs.WalkCalls.{closed, new_sheet, extended, has_sign, turned, zero_area, impossible_walk, impossible_sheet, begin_call, point_call, end_call}
use Rattle.outline.specs.CallLists as Calls
use Rattle.outline.specs.CallLists.{Trace, from, number_of, walk_after, ring_with, next}
use Rattle.integers.specs.Rounding.{rounds_to, first_rounded, round_half_up}
use Rattle.centroid.specs.Centroid.{signed_by, outline_centroid_call}
use Rattle.text_numbers.specs.Numbers as Numbers
use Rattle.text_numbers.specs.Numbers.{all_digits, value_from, leading_zero, is_natural, natural_of}
use Rattle.parsing.specs.Grammar.{begin, point, with_first, fields, is_byte, letter_of, point_of, form_of_fields, form_of}
use Rattle.decimals.specs.Decimal.{digits, decimal, signed}
use Rattle.printing.specs.Output.{totals_text, centre_text, outline_line, refusal_line, sheet_line}
use Rattle.text_program.specs.Program.{Line, lines_from, too_far, program}
use Rattle.text_program.specs.LineByLine.{call_of, formless, silent, outline, refused, Output, ends, far, near}
use Rattle.text_program.proofs.Worked.{text}
use Rattle.text_program.proofs.LineByLine.{is_end, not_end, line_by_line, line_by_line_only}

abbrev input : List ℕ
input = text ("B H" ∷ "P 0 0" ∷ "P 1 0" ∷ "P 0 1" ∷ "E" ∷ "E" ∷ "X" ∷ [])

abbrev output : List ℕ
output = text ("O 1 3 -1 -1 -1 -1 -1 -1 0 0" ∷ "R 6 21" ∷ "R 7 9" ∷ "S 1 -1 -1 -1 -1 -1 -1 0 0" ∷ [])

abbrev ones : Totals
ones = record { a2 = pos 1; x6 = pos 1; y6 = pos 1; xx12 = pos 1; xy24 = pos 1; yy12 = pos 1 }

by_cases : Output (from closed) new_sheet (lines_from 0 0 [] input) output
unfolding open_edges edges sum_over over exceed points numbers beyond any_beyond wrong_length list_call extended has_sign turned zero_area not_finite below_zero lt impossible_walk impossible_sheet begin_call point_call end_call number_of walk_after ring_with next rounds_to first_rounded round_half_up signed_by outline_centroid_call all_digits value_from leading_zero is_natural natural_of Numbers.number_of with_first fields is_byte letter_of point_of form_of_fields form_of digits decimal signed totals_text centre_text outline_line refusal_line sheet_line lines_from too_far call_of is_end
by_cases =
    near _ _ refl (silent (Calls.begin Hole) refl (not_end (begin Hole) refl) refl)
    (near _ _ refl (silent (Calls.point (record { x = pos 0; y = pos 0 })) refl (not_end (point (pos 0) (pos 0)) refl) refl)
    (near _ _ refl (silent (Calls.point (record { x = pos 1; y = pos 0 })) refl (not_end (point (pos 1) (pos 0)) refl) refl)
    (near _ _ refl (silent (Calls.point (record { x = pos 0; y = pos 1 })) refl (not_end (point (pos 0) (pos 1)) refl) refl)
    (near _ _ refl (outline ones refl refl refl)
    (near _ _ refl (refused (Calls.end (record { count = 1; totals = negated ones })) refl (eqb-false 21 0 refl))
    (near _ _ refl (formless refl)
    ends))))))

pub cases_output : output ≡ program input
cases_output = line_by_line_only input output by_cases

-- Of every input: the output ends with an S line.
sheet-last : {r : Trace} {s : Sheet} {ls : List Line} {out : List ℕ} → Output r s ls out → (front : List ℕ) × (last : Sheet) × (out ≡ front ++ sheet_line last)
sheet-last {s = s} ends = ([], s, refl)
sheet-last {s = s} (far l ls e) = (refusal_line l.number 10, s, refl)
sheet-last (near {out = out} l ls e p q) = let (front, last, same) = sheet-last q in (out ++ front, last, ap (λ o. out ++ o) same ∙ sym (append_assoc out front (sheet_line last)))

pub ends_with_sheet : (all : List ℕ) → (front : List ℕ) × (last : Sheet) × (program all ≡ front ++ sheet_line last)
ends_with_sheet all = sheet-last (line_by_line all)

-- Of every input: the cases give an output,
pub some_output : (all : List ℕ) → (out : List ℕ) × Output (from closed) new_sheet (lines_from 0 0 [] all) out
some_output all = (program all, line_by_line all)

-- and two that they give are the same.
pub one-output : (all a b : List ℕ) → Output (from closed) new_sheet (lines_from 0 0 [] all) a → Output (from closed) new_sheet (lines_from 0 0 [] all) b → a ≡ b
one-output all a b p q = line_by_line_only all a p ∙ sym (line_by_line_only all b q)
