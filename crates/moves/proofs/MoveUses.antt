-- The statements of document 02's CR 7 used, so that a weaker one is refused here: with every quantifier left free, and at the edge of what each covers.
use mathlib.Core.Path.{◌≡◌, refl, sym, ◌∙◌, ap}
use mathlib.Core.Bool.{true, false, cond}
use mathlib.Core.List.{List, [], ◌∷◌}
use Prim.Native.Nat.{◌^◌}
use lib.IntN.{ℤ, pos}
use Rattle.outline.specs.declared.Position.{Position}
use Rattle.outline.specs.declared.Totals.{Totals}
use Rattle.outline.specs.declared.AffineMap.{AffineMap}
use Rattle.outline.specs.EdgeSums.{open_edges, edges, sum_over, outline_totals, over, exceed, outline_bounds}
use Rattle.outline.specs.ListCall.{accepted, refused, points, numbers, beyond, any_beyond, any_outside, wrong_length, list_call}
use Rattle.outline.specs.MapCall.{move_point, moved, disallowed, mapped, map_call}
use Rattle.centroid.proofs.WorkedCentres.{totals}
use Rattle.moves.specs.Composition.{composed}
use Rattle.moves.specs.MovedTwice.{CompositionMeans, FormulasTwice, CallsTwice, CompositionCall, OutlineTwice, OutlineAtOnce, OutlineInTurn}
use Rattle.moves.specs.ShiftedCentre.{shift}
use Rattle.moves.proofs.Composition.{composition_means, formulas_twice}
use Rattle.moves.proofs.MovedTwice.{calls_twice, composition_call, outline_twice, outline_at_once, outline_in_turn}
use Rattle.moves.proofs.WorkedMoves.{minus, three_east, quarter_turn, rectangle, shifted, shifted_then_turned, rectangle-moved}

-- ---- the theorems are of these statements

moves_proved : CompositionMeans × FormulasTwice × CallsTwice × CompositionCall × OutlineTwice × OutlineAtOnce × OutlineInTurn
moves_proved = (composition_means, formulas_twice, calls_twice, composition_call, outline_twice, outline_at_once, outline_in_turn)

-- ---- points and formulas

-- Three maps, one after the other: how they are put together makes no difference.
three_maps : (one two three : AffineMap) → composed (composed one two) three ≡ composed one (composed two three)
three_maps one two three = (composition_means one (composed two three) (composed (composed one two) three)).1 (λ p. each (composed one two) three p ∙ ap (move_point three) (each one two p) ∙ sym (each two three (move_point one p)))
  where
    each : (first second : AffineMap) (p : Position) → move_point (composed first second) p ≡ move_point second (move_point first p)
    each first second p = (composition_means first second (composed first second)).0 refl p

three_times : (one two three : AffineMap) (t : Totals) → mapped three (mapped two (mapped one t)) ≡ mapped (composed one (composed two three)) t
three_times one two three t = formulas_twice two three (mapped one t) ∙ formulas_twice one (composed two three) t

-- Totals and a map past every limit; and a first map without area, u = x + 5, v = 2x − 5.
abbrev huge : Totals
huge = totals (pos (10 ^ 30)) (minus (10 ^ 31)) (pos (10 ^ 31)) (pos (10 ^ 32)) (pos (10 ^ 32)) (minus (10 ^ 32))

huge_exceeds : exceed outline_bounds huge ≡ true
unfolding exceed over
huge_exceeds = refl

abbrev huge_map : AffineMap
huge_map = record { a = pos 9; b = minus 100; g = pos 3; h = pos 1000; e = pos (10 ^ 9); f = minus (10 ^ 9) }

past_every_limit : mapped huge_map (mapped huge_map huge) ≡ mapped (composed huge_map huge_map) huge
past_every_limit = formulas_twice huge_map huge_map huge

abbrev flat : AffineMap
flat = record { a = pos 1; b = pos 0; g = pos 2; h = pos 0; e = pos 5; f = minus 5 }

flat_first : mapped quarter_turn (mapped flat huge) ≡ mapped (composed flat quarter_turn) huge
flat_first = formulas_twice flat quarter_turn huge

-- ---- the map call

any_calls : (first second : AffineMap) (t once twice direct : Totals) → map_call first t ≡ accepted once → map_call second once ≡ accepted twice → map_call (composed first second) t ≡ accepted direct → twice ≡ direct
any_calls first second t once twice direct one two three = calls_twice first second t once one twice two direct three

any_composition_call : (first second : AffineMap) (t once twice : Totals) → map_call first t ≡ accepted once → map_call second once ≡ accepted twice → map_call (composed first second) t ≡ cond (disallowed (composed first second)) (refused 3) (accepted twice)
any_composition_call first second t once twice one two = composition_call first second t once one twice two

-- The rectangle shifted, then turned: the third call has nothing else to answer.
turned-rectangle : (direct : Totals) → map_call (composed three_east quarter_turn) rectangle ≡ accepted direct → shifted_then_turned ≡ direct
turned-rectangle direct three = calls_twice three_east quarter_turn rectangle shifted rectangle-moved.shift-first shifted_then_turned rectangle-moved.then_turn direct three

-- ---- outlines

any_points : (first second : AffineMap) (ps : List Position) → (moved second (moved first ps) ≡ moved (composed first second) ps) × (outline_totals (moved second (moved first ps)) ≡ mapped (composed first second) (outline_totals ps))
any_points first second ps = let k = outline_twice first second ps in (k.places, k.totals)

any_outline : (zs : List ℤ) (t : Totals) → list_call zs ≡ accepted t → (first second : AffineMap) → disallowed (composed first second) ≡ false → any_outside (moved second (moved first (points zs))) ≡ false → map_call (composed first second) t ≡ list_call (numbers (moved second (moved first (points zs))))
any_outline zs t taken first second allowed bounds = outline_at_once zs t taken first second allowed bounds

any_outline_in_turn : (zs : List ℤ) (t : Totals) → list_call zs ≡ accepted t → (first second : AffineMap) (once twice : Totals) → map_call first t ≡ accepted once → map_call second once ≡ accepted twice → any_outside (moved second (moved first (points zs))) ≡ false → list_call (numbers (moved second (moved first (points zs)))) ≡ accepted twice
any_outline_in_turn zs t taken first second once twice one two bounds = outline_in_turn zs t taken first second once one twice two bounds

-- The way may lead through where 1 refuses: (2, 0) goes to (2,002, 0), and back.
abbrev rectangle_numbers : List ℤ
rectangle_numbers = pos 2 ∷ pos 0 ∷ pos 10 ∷ pos 4 ∷ pos 8 ∷ pos 8 ∷ pos 0 ∷ pos 4 ∷ []

abbrev far_east : AffineMap
far_east = shift (pos 2000) (pos 0)

abbrev far_west : AffineMap
far_west = shift (minus 2000) (pos 0)

rectangle-taken : list_call rectangle_numbers ≡ accepted rectangle
unfolding open_edges edges sum_over over points beyond any_beyond wrong_length list_call
rectangle-taken = refl

there_and_back : (any_outside (moved far_east (points rectangle_numbers)) ≡ true) × (any_outside (moved far_west (moved far_east (points rectangle_numbers))) ≡ false) × (disallowed (composed far_east far_west) ≡ false)
unfolding over points beyond any_beyond disallowed
there_and_back = (refl, refl, refl)

out_and_in : map_call (composed far_east far_west) rectangle ≡ list_call (numbers (moved far_west (moved far_east (points rectangle_numbers))))
out_and_in = outline_at_once rectangle_numbers rectangle rectangle-taken far_east far_west there_and_back.2 there_and_back.1

-- Nor need the composition be allowed: u = x + 2,000, v = 2y, and then u = x + 2y − 2,000, v = y make u = x + 4y.
abbrev triangle : List ℤ
triangle = pos 1 ∷ pos 0 ∷ pos 2 ∷ pos 0 ∷ pos 1 ∷ pos 1 ∷ []

abbrev triangle_totals : Totals
triangle_totals = totals (pos 1) (pos 4) (pos 1) (pos 11) (pos 5) (pos 1)

abbrev stretch : AffineMap
stretch = record { a = pos 1; b = pos 0; g = pos 0; h = pos 2; e = pos 2000; f = pos 0 }

abbrev shear : AffineMap
shear = record { a = pos 1; b = pos 2; g = pos 0; h = pos 1; e = minus 2000; f = pos 0 }

abbrev stretched : Totals
stretched = totals (pos 2) (pos 12_008) (pos 4) (pos 48_064_022) (pos 32_020) (pos 8)

abbrev sheared : Totals
sheared = totals (pos 2) (pos 16) (pos 4) (pos 94) (pos 52) (pos 8)

record Sheared : Type 0 where
  taken : list_call triangle ≡ accepted triangle_totals
  stretched_first : map_call stretch triangle_totals ≡ accepted stretched
  then_sheared : map_call shear stretched ≡ accepted sheared
  stays : any_outside (moved shear (moved stretch (points triangle))) ≡ false
  not_allowed : disallowed (composed stretch shear) ≡ true

triangle_sheared : Sheared
unfolding open_edges edges sum_over over exceed points beyond any_beyond wrong_length list_call disallowed map_call
triangle_sheared = record { taken = refl; stretched_first = refl; then_sheared = refl; stays = refl; not_allowed = refl }

sheared_in_turn : list_call (numbers (moved shear (moved stretch (points triangle)))) ≡ accepted sheared
sheared_in_turn =
    let k = triangle_sheared in
    outline_in_turn triangle triangle_totals k.taken stretch shear stretched k.stretched_first sheared k.then_sheared k.stays
