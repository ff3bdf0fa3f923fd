-- Document 02, CR 7: the map call and outlines, moved twice and moved once by the composition.
use mathlib.Core.Path.{◌≡◌, refl, sym, ◌∙◌, ap, subst}
use mathlib.Core.Bool.{Bool, true, false, cond}
use mathlib.Core.List.{List, map, map-map}
use native.Mathlib.Omega.{arith}
use Rattle.outline.specs.declared.Position.{Position}
use Rattle.outline.specs.declared.Totals.{Totals}
use Rattle.outline.specs.declared.AffineMap.{AffineMap}
use Rattle.outline.specs.EdgeSums.{exceed, outline_totals, outline_bounds}
use Rattle.outline.specs.ListCall.{accepted, refused, points, numbers, any_outside, list_call}
use Rattle.outline.specs.MapCall.{move_point, moved, disallowed, mapped, total_limits, map_call}
use Rattle.outline.proofs.Limits.{Outline, accepts_only_outlines, accepts-points}
use Rattle.outline.proofs.MapLaw.{map_law, all_stay, moved-outline}
use Rattle.outline.proofs.PiecesLaws.{moved-only}
use Rattle.moves.specs.Composition.{composed}
use Rattle.moves.specs.MovedTwice.{CallsTwice, CompositionCall, OutlineTwice, OutlineAtOnce, OutlineInTurn}
use Rattle.moves.proofs.Composition.{composition_means, formulas_twice}

-- ---- the map call

-- What is known where the map call is not refused.
pub record MapAccepted (m : AffineMap) (t answer : Totals) : Type 0 where
  pub in_bounds : exceed outline_bounds t ≡ false
  pub in_limits : exceed total_limits answer ≡ false
  pub is_mapped : answer ≡ mapped m t

pub map-accepted : (m : AffineMap) (t answer : Totals) → map_call m t ≡ accepted answer → MapAccepted m t answer
unfolding map_call
map-accepted m t answer e = go (disallowed m) (exceed outline_bounds t) (exceed total_limits (mapped m t)) refl refl e
  where
    go : (a b c : Bool) → exceed outline_bounds t ≡ b → exceed total_limits (mapped m t) ≡ c → cond a (refused 3) (cond b (refused 4) (cond c (refused 5) (accepted (mapped m t)))) ≡ accepted answer → MapAccepted m t answer
    go true b c q r e = absurd (omega (arith, ap (λ o. o.number) e))
    go false true c q r e = absurd (omega (arith, ap (λ o. o.number) e))
    go false false true q r e = absurd (omega (arith, ap (λ o. o.number) e))
    go false false false q r e =
        let same : mapped m t ≡ answer = ap (λ o. o.totals) e in
        record { in_bounds = q; in_limits = ap (exceed total_limits) (sym same) ∙ r; is_mapped = sym same }

-- Two calls that are not refused, one after the other, answer the formulas of the composition.
in_turn : {first second : AffineMap} {t once twice : Totals} → MapAccepted first t once → MapAccepted second once twice → twice ≡ mapped (composed first second) t
in_turn {first} {second} {t} one two = two.is_mapped ∙ ap (mapped second) one.is_mapped ∙ formulas_twice first second t

-- What 4 and 5 do not refuse, 3 alone may.
unless_3 : (m : AffineMap) (t answer : Totals) → exceed outline_bounds t ≡ false → answer ≡ mapped m t → exceed total_limits answer ≡ false → map_call m t ≡ cond (disallowed m) (refused 3) (accepted answer)
unfolding map_call
unless_3 m t answer b e l = rw (b, ← e, l)

pub composition_call : CompositionCall
composition_call first second t once one twice two =
    let k = map-accepted first t once one in
    let l = map-accepted second once twice two in
    unless_3 (composed first second) t twice k.in_bounds (in_turn k l) l.in_limits

pub calls_twice : CallsTwice
calls_twice first second t once one twice two direct three = in_turn (map-accepted first t once one) (map-accepted second once twice two) ∙ sym (map-accepted (composed first second) t direct three).is_mapped

-- ---- outlines

moved_twice : (first second : AffineMap) (ps : List Position) → moved second (moved first ps) ≡ moved (composed first second) ps
moved_twice first second ps = map-map (move_point second) (move_point first) ps ∙ (λ i. map (λ p. sym ((composition_means first second (composed first second)).0 refl p) i) ps)

pub outline_twice : OutlineTwice
outline_twice first second ps =
    let places = moved_twice first second ps in
    record { places = places; totals = ap outline_totals places ∙ map_law (composed first second) ps }

pub outline_at_once : OutlineAtOnce
outline_at_once zs t taken first second allowed bounds =
    let places = moved_twice first second (points zs) in
    sym (moved-only zs t taken (composed first second) allowed (ap any_outside (sym places) ∙ bounds)) ∙ ap (λ ps. list_call (numbers ps)) (sym places)

-- Points moved to where 1 refuses none are an outline again.
moved_outline_twice : (first second : AffineMap) (ps : List Position) → Outline ps → any_outside (moved second (moved first ps)) ≡ false → Outline (moved second (moved first ps))
moved_outline_twice first second ps o bounds =
    let places = moved_twice first second ps in
    subst Outline (sym places) (moved-outline (composed first second) ps (all_stay (composed first second) ps o (ap any_outside (sym places) ∙ bounds)))

pub outline_in_turn : OutlineInTurn
outline_in_turn zs t taken first second once one twice two bounds =
    let o = accepts_only_outlines zs t taken in
    accepts-points (moved second (moved first (points zs))) (moved_outline_twice first second (points zs) o.0.outline bounds)
    ∙ ap accepted ((outline_twice first second (points zs)).totals ∙ ap (mapped (composed first second)) (sym o.1) ∙ sym (in_turn (map-accepted first t once one) (map-accepted second once twice two)))
