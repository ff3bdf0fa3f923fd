-- Document 02, CR 7: a shift moves a centre by exactly that shift. It leaves D and adds to N a multiple of D, so the rounded quotient moves by that multiple.
use mathlib.Core.Path.{◌≡◌, refl, sym, ◌∙◌, ap}
use mathlib.Core.Bool.{Bool, true, false, cond}
use mathlib.Core.List.{List, [], ◌∷◌}
use lib.Dec.{eqb}
use lib.IntN.{ℤ, pos, neg_ℤ, nat_abs, ◌+ℤ◌, ◌*ℤ◌}
use lib.Signed.{lt_z}
use Rattle.integers.proofs.Ring.{ring, quote}
use Rattle.outline.specs.declared.Totals.{Totals}
use Rattle.outline.specs.declared.AffineMap.{AffineMap}
use Rattle.outline.specs.EdgeSums.{outline_totals, exceed, outline_bounds}
use Rattle.outline.specs.ListCall.{accepted, points, numbers, list_call}
use Rattle.outline.specs.MapCall.{moved, mapped, total_limits}
use Rattle.outline.proofs.IndexLaws.{points-numbers}
use Rattle.outline.proofs.Limits.{accepts_only_outlines, accepted_within, exceed_fit, fit_exceed, limits_fit}
use Rattle.outline.proofs.MapLaw.{map_law}
use Rattle.centroid.specs.Centroid.{CentroidOutcome, refused, signed_by, outline_centroid_call}
use Rattle.integers.proofs.HalfUp.{half_up_moves}
use Rattle.centroid.proofs.CallLaws.{IsTheCentre, outline-centre}
use Rattle.moves.specs.ShiftedCentre.{shift, units_per_decimetre, shifted_by, HasCentre, TotalsShifted, CallShifted, OutlineShifted}
use Rattle.moves.proofs.MovedTwice.{map-accepted}

-- ---- one coordinate

-- N of a first moment m, after a shift by e: m has become m + 3×e×A2.
shifted_moment : (a2 m e : ℤ) → signed_by a2 (m +ℤ pos 3 *ℤ e *ℤ a2) ≡ signed_by a2 m +ℤ (units_per_decimetre *ℤ e) *ℤ signed_by a2 (pos 3 *ℤ a2)
unfolding signed_by
shifted_moment a2 m e = go (lt_z a2 (pos 0))
  where
    go : (b : Bool) → cond b (neg_ℤ (m +ℤ pos 3 *ℤ e *ℤ a2)) (m +ℤ pos 3 *ℤ e *ℤ a2) ≡ cond b (neg_ℤ m) m +ℤ (units_per_decimetre *ℤ e) *ℤ cond b (neg_ℤ (pos 3 *ℤ a2)) (pos 3 *ℤ a2)
    go true = ring (a2 ∷ m ∷ e ∷ []) (search quote depth 20) (search quote depth 20) tt
    go false = ring (a2 ∷ m ∷ e ∷ []) (search quote depth 20) (search quote depth 20) tt

-- The centre before and the one after, where the first moment and the area are what a shift by e leaves.
one_coordinate : (a2 m e a2' m' k k' : ℤ) → a2' ≡ a2 → m' ≡ m +ℤ pos 3 *ℤ e *ℤ a2 → IsTheCentre (signed_by a2 m) (signed_by a2 (pos 3 *ℤ a2)) k → IsTheCentre (signed_by a2' m') (signed_by a2' (pos 3 *ℤ a2')) k' → k' ≡ k +ℤ units_per_decimetre *ℤ e
one_coordinate a2 m e a2' m' k k' p q before after =
    sym (after.only (k +ℤ units_per_decimetre *ℤ e) (rw (p, q, shifted_moment a2 m e) (half_up_moves (signed_by a2 m) (signed_by a2 (pos 3 *ℤ a2)) k (units_per_decimetre *ℤ e) before.holds)))

-- ---- any six totals

module _ (t : Totals) (e f : ℤ) where
  abbrev ρ : List ℤ
  ρ = t.a2 ∷ t.x6 ∷ t.y6 ∷ e ∷ f ∷ []

  same_area : (mapped (shift e f) t).a2 ≡ t.a2
  same_area = ring ρ (search quote depth 20) (search quote depth 20) tt

  moved-east : (mapped (shift e f) t).x6 ≡ t.x6 +ℤ pos 3 *ℤ e *ℤ t.a2
  moved-east = ring ρ (search quote depth 20) (search quote depth 20) tt

  moved-north : (mapped (shift e f) t).y6 ≡ t.y6 +ℤ pos 3 *ℤ f *ℤ t.a2
  moved-north = ring ρ (search quote depth 20) (search quote depth 20) tt

  -- A centre that there is, shifted.
  at-centre : (c : CentroidOutcome) → c.number ≡ 0 → shifted_by e f c ≡ record { number = 0; x = c.x +ℤ units_per_decimetre *ℤ e; y = c.y +ℤ units_per_decimetre *ℤ f }
  at-centre c h = rw h

pub totals_shifted : TotalsShifted
totals_shifted t e f before after =
    let c = outline-centre t in
    let d = outline-centre (mapped (shift e f) t) in
    let x = one_coordinate t.a2 t.x6 e _ _ _ _ (same_area t e f) (moved-east t e f) (c.x before) (d.x after) in
    let y = one_coordinate t.a2 t.y6 f _ _ _ _ (same_area t e f) (moved-north t e f) (c.y before) (d.y after) in
    (λ i. record { number = after i; x = x i; y = y i }) ∙ sym (at-centre t e f (outline_centroid_call t) before)

-- ---- totals that 11 does not refuse, before and after: they have a centre, or 27 refuses both

no_area : (t : Totals) → exceed total_limits t ≡ false → eqb (nat_abs t.a2) 0 ≡ true → outline_centroid_call t ≡ refused 27
unfolding outline_centroid_call
no_area t h a = rw (h, a)

some_area : (t : Totals) → exceed total_limits t ≡ false → eqb (nat_abs t.a2) 0 ≡ false → HasCentre t
unfolding outline_centroid_call
some_area t h a = rw (h, a)

within_limits : (t : Totals) (e f : ℤ) → exceed total_limits t ≡ false → exceed total_limits (mapped (shift e f) t) ≡ false → outline_centroid_call (mapped (shift e f) t) ≡ shifted_by e f (outline_centroid_call t)
within_limits t e f before after = go (eqb (nat_abs t.a2) 0) refl
  where
    same : {b : Bool} → eqb (nat_abs t.a2) 0 ≡ b → eqb (nat_abs (mapped (shift e f) t).a2) 0 ≡ b
    same h = ap (λ a. eqb (nat_abs a) 0) (same_area t e f) ∙ h

    go : (b : Bool) → eqb (nat_abs t.a2) 0 ≡ b → outline_centroid_call (mapped (shift e f) t) ≡ shifted_by e f (outline_centroid_call t)
    go true h = no_area (mapped (shift e f) t) after (same h) ∙ ap (shifted_by e f) (sym (no_area t before h))
    go false h = totals_shifted t e f (some_area t before h) (some_area (mapped (shift e f) t) after (same h))

-- Totals within the outline bounds are within the limits of 11.
limits_of_11 : (t : Totals) → exceed outline_bounds t ≡ false → exceed total_limits t ≡ false
limits_of_11 t h = fit_exceed total_limits t (limits_fit t (exceed_fit outline_bounds t h))

-- ---- the map call and outlines

pub call_shifted : CallShifted
call_shifted t e f after h =
    let k = map-accepted (shift e f) t after h in
    ap outline_centroid_call k.is_mapped ∙ within_limits t e f (limits_of_11 t k.in_bounds) (ap (exceed total_limits) (sym k.is_mapped) ∙ k.in_limits)

-- What the list call answers for moved points are the map's formulas of what it answers for the points.
list-moved : (m : AffineMap) (zs : List ℤ) (t after : Totals) → list_call zs ≡ accepted t → list_call (numbers (moved m (points zs))) ≡ accepted after → after ≡ mapped m t
list-moved m zs t after taken h =
    (accepts_only_outlines (numbers (moved m (points zs))) after h).1
    ∙ ap outline_totals (points-numbers (moved m (points zs)))
    ∙ map_law m (points zs)
    ∙ ap (mapped m) (sym (accepts_only_outlines zs t taken).1)

pub outline_shifted : OutlineShifted
outline_shifted zs t taken e f after h =
    let same = list-moved (shift e f) zs t after taken h in
    ap outline_centroid_call same
    ∙ within_limits t e f (limits_of_11 t (accepted_within zs t taken)) (ap (exceed total_limits) (sym same) ∙ limits_of_11 after (accepted_within (numbers (moved (shift e f) (points zs))) after h))
