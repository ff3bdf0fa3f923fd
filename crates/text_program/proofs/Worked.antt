-- Document 01, "The text program": its listing, as document 02's CR 3 has it answered, and the empty input, worked by computation.
use Prim.Native.Nat.{ℕ}
use Prim.Native.Char.{Char, code}
use Prim.Native.String as Text
use Prim.Native.String.{String}
use mathlib.Core.Bool.{true, cond}
use mathlib.Core.Path.{◌≡◌, refl}
use mathlib.Core.List.{List, [], ◌∷◌, ◌++◌}
use lib.Dec.{eqb}
use lib.IntN.{ℤ, pos, ◌*ℤ◌}
use lib.Ieee.{lt}
use Rattle.receiver.specs.Floats.{not_finite, below_zero}
use Rattle.outline.specs.declared.Totals.{Totals}
use Rattle.outline.specs.EdgeSums.{over, exceed}
use Rattle.outline.specs.ListCall.{beyond}
use Rattle.outline.specs.WalkCalls.{extended, has_sign, turned, zero_area, impossible_walk, impossible_sheet, begin_call, point_call, end_call}
use Rattle.integers.specs.Rounding.{rounds_to}
use Rattle.centroid.specs.Centroid.{signed_by, outline_centroid_call}
use Rattle.centroid.proofs.CallLaws.{outline-centre}
use Rattle.centroid.proofs.WorkedCentres.{totals}
use Rattle.text_numbers.specs.Numbers.{all_digits, value_from, leading_zero, is_natural, natural_of, number_of}
use Rattle.parsing.specs.Grammar.{with_first, fields, is_byte, letter_of, point_of, form_of_fields, form_of}
use Rattle.decimals.specs.Decimal.{digits, decimal, signed, field}
use Rattle.printing.specs.Output.{totals_text, centre_text, figures_text, outline_line, refusal_line, sheet_line}
use Rattle.text_program.specs.Program.{lines_from, too_far, carried_walk, carried_end, carry_out, output_of, program}

-- The bytes of lines of ASCII characters, each with its newline. A space stands for a tab, as in the document's listing.
abbrev byte : Char → ℕ
byte c = cond (eqb (code c) 32) 9 (code c)

abbrev pub bytes : String → List ℕ
bytes Text.[] = []
bytes (Text.◌∷◌ c s) = byte c ∷ bytes s

abbrev pub text : List String → List ℕ
text [] = []
text (l ∷ ls) = bytes l ++ 10 ∷ text ls

-- No input at all.
pub empty_input : program [] ≡ text ("S 0 0 0 0 0 0 0 - -" ∷ [])
unfolding digits decimal signed totals_text centre_text outline_centroid_call exceed over sheet_line lines_from output_of program
empty_input = refl

-- ---- the listing

-- What an O or an S line ends with, by two numbers that pass the tests of the centre: to search for it would take long.
pub figures : (t : Totals) (x y : ℤ) → (outline_centroid_call t).number ≡ 0 → (let d = signed_by t.a2 (pos 3 *ℤ t.a2) in rounds_to (signed_by t.a2 t.x6) d x ≡ true → rounds_to (signed_by t.a2 t.y6) d y ≡ true → figures_text t ≡ totals_text t ++ (field x ++ field y) ++ 10 ∷ [])
unfolding centre_text
figures t x y e f g =
    let c = outline-centre t in
    rw (e, ← (c.x e).only x f, ← (c.y e).only y g)

-- A rectangle; a figure eight, which has no area, so that its walk stays open; and a point more of that walk.
abbrev listing : List String
listing = "B" ∷ "P 2 0" ∷ "P 10 4" ∷ "P 8 8" ∷ "P 0 4" ∷ "E" ∷ "B" ∷ "P 0 0" ∷ "P 2 2" ∷ "P 2 0" ∷ "P 0 2" ∷ "E" ∷ "P 1 1" ∷ []

abbrev listed : List String
listed = "O 1 4 80 1200 960 14720 21120 8960 5 4" ∷ "R 12 32" ∷ "S 1 80 1200 960 14720 21120 8960 5 4" ∷ []

-- With one more E, that walk is an outline of five points.
abbrev ended : List String
ended = "O 1 4 80 1200 960 14720 21120 8960 5 4" ∷ "R 12 32" ∷ "O 2 5 2 10 6 34 40 14 2 1" ∷ "S 2 82 1210 966 14754 21160 8974 5 4" ∷ []

-- The totals of the rectangle, of the outline of five points, and of both.
abbrev pub rectangle : Totals
rectangle = totals (pos 80) (pos 1200) (pos 960) (pos 14720) (pos 21120) (pos 8960)

abbrev five_points : Totals
five_points = totals (pos 2) (pos 10) (pos 6) (pos 34) (pos 40) (pos 14)

abbrev with_five_points : Totals
with_five_points = totals (pos 82) (pos 1210) (pos 966) (pos 14754) (pos 21160) (pos 8974)

pub listing_output : (program (text listing) ≡ text listed) × (program (text (listing ++ "E" ∷ [])) ≡ text ended)
unfolding over exceed beyond extended has_sign turned zero_area not_finite below_zero lt impossible_walk impossible_sheet begin_call point_call end_call rounds_to signed_by outline_centroid_call all_digits value_from leading_zero is_natural natural_of number_of with_first fields is_byte letter_of point_of form_of_fields form_of digits decimal signed totals_text outline_line refusal_line sheet_line lines_from too_far carried_walk carried_end carry_out output_of program
listing_output =
    let first = figures rectangle (pos 5) (pos 4) refl refl refl in
    let second = figures five_points (pos 2) (pos 1) refl refl refl in
    let both = figures with_five_points (pos 5) (pos 4) refl refl refl in (
      λ i. bytes "O 1 4" ++ (first i ++ (text ("R 12 32" ∷ []) ++ (bytes "S 1" ++ first i))),
      λ i. bytes "O 1 4" ++ (first i ++ (text ("R 12 32" ∷ []) ++ (bytes "O 2 5" ++ (second i ++ (bytes "S 2" ++ both i))))),
    )
