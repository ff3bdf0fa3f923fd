-- The laws of shifted centres (document 02, CR 7) used, so that a weaker one is refused here: with every quantifier left free, and at the edge of what each covers.
use mathlib.Core.Path.{◌≡◌, refl, ◌∙◌, ap}
use mathlib.Core.Bool.{true}
use mathlib.Core.List.{List, [], ◌∷◌}
use Prim.Native.Nat.{◌^◌}
use lib.IntN.{ℤ, pos, ◌+ℤ◌, ◌*ℤ◌}
use Rattle.outline.specs.declared.Totals.{Totals}
use Rattle.outline.specs.EdgeSums.{open_edges, edges, sum_over, over, exceed}
use Rattle.outline.specs.ListCall.{accepted, points, numbers, beyond, any_beyond, wrong_length, list_call}
use Rattle.outline.specs.MapCall.{moved, disallowed, mapped, map_call}
use Rattle.centroid.specs.Centroid.{CentroidOutcome, refused as no_centre, outline_centroid_call}
use Rattle.centroid.proofs.WorkedCentres.{totals}
use Rattle.moves.specs.ShiftedCentre.{shift, units_per_decimetre, shifted_by, HasCentre, TotalsShifted, CallShifted, OutlineShifted}
use Rattle.moves.proofs.ShiftedCentre.{totals_shifted, call_shifted, outline_shifted}
use Rattle.moves.proofs.WorkedMoves.{minus, reversed_square, worked_shifts}

abbrev at : ℤ → ℤ → CentroidOutcome
at x y = record { number = 0; x = x; y = y }

-- ---- the theorems are of these statements

shifts_proved : TotalsShifted × CallShifted × OutlineShifted
shifts_proved = (totals_shifted, call_shifted, outline_shifted)

-- ---- any six totals

-- With the shift, the refusal and the moved centre written out.
any_totals : (t : Totals) (e f x y : ℤ) → outline_centroid_call t ≡ at x y → (outline_centroid_call (mapped (record { a = pos 1; b = pos 0; g = pos 0; h = pos 1; e = e; f = f }) t)).number ≡ 0 → outline_centroid_call (mapped (record { a = pos 1; b = pos 0; g = pos 0; h = pos 1; e = e; f = f }) t) ≡ at (x +ℤ units_per_decimetre *ℤ e) (y +ℤ units_per_decimetre *ℤ f)
any_totals t e f x y before after = totals_shifted t e f (ap (λ c. c.number) before) after ∙ ap (shifted_by e f) before

-- A2 below 0: the centre is at (1, 1), and one decimetre west at (0, 1).
backwards_shifted : outline_centroid_call (mapped (shift (minus 1) (pos 0)) reversed_square) ≡ at (pos 0) (pos 1)
backwards_shifted =
    let k = worked_shifts in
    totals_shifted reversed_square (minus 1) (pos 0) (ap (λ c. c.number) k.backwards_before) (ap (λ c. c.number) k.backwards_after) ∙ ap (shifted_by (minus 1) (pos 0)) k.backwards_before

-- Totals past the outline bounds, as a sheet may have, and a shift that 3 refuses: 5,000 west.
abbrev large_sheet : Totals
large_sheet = totals (pos 1_000_000_000) (pos (10 ^ 14)) (pos 0) (pos (10 ^ 18)) (pos 0) (pos 0)

large_before : HasCentre large_sheet
unfolding outline_centroid_call over exceed
large_before = refl

large_after : HasCentre (mapped (shift (minus 5000) (pos 0)) large_sheet)
unfolding outline_centroid_call over exceed
large_after = refl

large_shifted : outline_centroid_call (mapped (shift (minus 5000) (pos 0)) large_sheet) ≡ shifted_by (minus 5000) (pos 0) (outline_centroid_call large_sheet)
large_shifted = totals_shifted large_sheet (minus 5000) (pos 0) large_before large_after

-- ---- the map call

any_call : (t : Totals) (e f : ℤ) (after : Totals) → map_call (shift e f) t ≡ accepted after → outline_centroid_call after ≡ shifted_by e f (outline_centroid_call t)
any_call t e f after h = call_shifted t e f after h

-- The figure eight has no centre, wherever the call shifts it.
abbrev figure_eight : Totals
figure_eight = totals (pos 0) (minus 8) (pos 0) (minus 32) (minus 32) (pos 0)

eight-refused : outline_centroid_call figure_eight ≡ no_centre 27
unfolding outline_centroid_call over exceed
eight-refused = refl

eight_shifted : (e f : ℤ) (after : Totals) → map_call (shift e f) figure_eight ≡ accepted after → outline_centroid_call after ≡ no_centre 27
eight_shifted e f after h = call_shifted figure_eight e f after h ∙ ap (shifted_by e f) eight-refused

-- ---- outlines

any_outline : (zs : List ℤ) (t : Totals) → list_call zs ≡ accepted t → (e f : ℤ) (after : Totals) → list_call (numbers (moved (shift e f) (points zs))) ≡ accepted after → outline_centroid_call after ≡ shifted_by e f (outline_centroid_call t)
any_outline zs t taken e f after h = outline_shifted zs t taken e f after h

-- A square at the western limit, shifted to the eastern one by 3,999, which 3 refuses.
abbrev western : List ℤ
western = minus 2000 ∷ pos 0 ∷ minus 1999 ∷ pos 0 ∷ minus 1999 ∷ pos 1 ∷ minus 2000 ∷ pos 1 ∷ []

abbrev western_totals : Totals
western_totals = totals (pos 2) (minus 11_997) (pos 3) (pos 47_976_004) (minus 23_994) (pos 4)

abbrev eastern_totals : Totals
eastern_totals = totals (pos 2) (pos 11_997) (pos 3) (pos 47_976_004) (pos 23_994) (pos 4)

western_taken : list_call western ≡ accepted western_totals
unfolding open_edges edges sum_over over points beyond any_beyond wrong_length list_call
western_taken = refl

eastern_taken : list_call (numbers (moved (shift (pos 3999) (pos 0)) (points western))) ≡ accepted eastern_totals
unfolding open_edges edges sum_over over points numbers beyond any_beyond wrong_length list_call
eastern_taken = refl

too_large : disallowed (shift (pos 3999) (pos 0)) ≡ true
unfolding disallowed over
too_large = refl

eastern_centre : outline_centroid_call eastern_totals ≡ shifted_by (pos 3999) (pos 0) (outline_centroid_call western_totals)
eastern_centre = outline_shifted western western_totals western_taken (pos 3999) (pos 0) eastern_totals eastern_taken
