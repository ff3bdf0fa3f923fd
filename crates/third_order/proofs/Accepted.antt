-- Which lists the call accepts: outlines whose coordinates are from -500 to 500, and no others.
use mathlib.Core.Path.{◌≡◌, refl, sym, ◌∙◌, ap}
use mathlib.Core.Bool.{Bool, true, false, cond}
use mathlib.Core.List.{List}
use native.Mathlib.Omega.{arith}
use lib.IntN.{ℤ}
use Rattle.outline.specs.declared.Position.{Position}
use Rattle.outline.specs.EdgeSums.{outline_totals}
use Rattle.outline.specs.ListCall.{accepted, refused, points, numbers, any_beyond, any_outside, wrong_length, list_call}
use Rattle.outline.proofs.Every.{All, all_of, all_member}
use Rattle.outline.proofs.IndexLaws.{points-numbers}
use Rattle.outline.proofs.Limits.{Inside, InsideOf, OutlineIn, Outline, all_inside, none-beyond, accepts_only_outlines, accepts-points}
use Rattle.third_order.specs.declared.ThirdTotals.{ThirdTotals}
use Rattle.third_order.specs.ThirdTerms.{third_totals}
use Rattle.third_order.specs.ThirdCall.{ThirdOutcome, accepted_thirds, refused_thirds, third_limit, third_call}

-- 3 to 1,024 points, every coordinate from -500 to 500.
abbrev pub SmallOutline : List Position → Type 0
SmallOutline ps = OutlineIn (InsideOf third_limit) ps

-- Its points lie within the limits of 1,
all_wider : (ps : List Position) → All (InsideOf third_limit) ps → All Inside ps
all_wider ps h = all_of Inside ps (λ p m. wider p (all_member (InsideOf third_limit) ps h p m))
  where
    wider : (p : Position) → InsideOf third_limit p → Inside p
    wider p h = (omega (arith, h.0), omega (arith, h.1))

-- so the call on a whole list takes it.
is_outline : (ps : List Position) → SmallOutline ps → Outline ps
is_outline ps o = record { enough = o.enough; few = o.few; inside = all_wider ps o.inside }

-- Of a list that the call on a whole list takes, 35 alone is asked.
of_taken : (zs : List ℤ) → (list_call zs).number ≡ 0 → third_call zs ≡ cond (any_beyond third_limit (points zs)) (refused_thirds 35) (accepted_thirds (third_totals (points zs)))
unfolding list_call third_call
of_taken zs = go (wrong_length zs) (any_outside (points zs))
  where
    rest : ThirdOutcome
    rest = cond (any_beyond third_limit (points zs)) (refused_thirds 35) (accepted_thirds (third_totals (points zs)))

    go : (a b : Bool) → (cond a (refused 2) (cond b (refused 1) (accepted (outline_totals (points zs))))).number ≡ 0 → cond a (refused_thirds 2) (cond b (refused_thirds 1) rest) ≡ rest
    go true b e = absurd (omega (arith, e))
    go false true e = absurd (omega (arith, e))
    go false false e = refl

-- The call accepts every such outline,
pub accepts_small : (ps : List Position) → SmallOutline ps → third_call (numbers ps) ≡ accepted_thirds (third_totals ps)
accepts_small ps o = of_taken (numbers ps) (ap (λ r. r.number) (accepts-points ps (is_outline ps o))) ∙ rw (points-numbers ps, none-beyond third_limit ps o.inside)

-- and nothing else.
pub accepts_only_small : (zs : List ℤ) (t : ThirdTotals) → third_call zs ≡ accepted_thirds t → SmallOutline (points zs) × (t ≡ third_totals (points zs))
unfolding list_call third_call
accepts_only_small zs t = go (wrong_length zs) (any_outside (points zs)) (any_beyond third_limit (points zs)) refl refl refl
  where
    go : (a b c : Bool) → wrong_length zs ≡ a → any_outside (points zs) ≡ b → any_beyond third_limit (points zs) ≡ c
        → cond a (refused_thirds 2) (cond b (refused_thirds 1) (cond c (refused_thirds 35) (accepted_thirds (third_totals (points zs))))) ≡ accepted_thirds t → SmallOutline (points zs) × (t ≡ third_totals (points zs))
    go true b c f g h e = absurd (omega (arith, ap (λ (r : ThirdOutcome). r.number) e))
    go false true c f g h e = absurd (omega (arith, ap (λ (r : ThirdOutcome). r.number) e))
    go false false true f g h e = absurd (omega (arith, ap (λ (r : ThirdOutcome). r.number) e))
    go false false false f g h e =
        let o = (accepts_only_outlines zs (outline_totals (points zs)) (rw (f, g))).0.outline in
        (record { enough = o.enough; few = o.few; inside = all_inside third_limit (points zs) h }, sym (ap (λ (r : ThirdOutcome). r.totals) e))

-- A list that passes the tests of 2 and 35 passes that of 1.
pub small_list : (zs : List ℤ) → wrong_length zs ≡ false → any_beyond third_limit (points zs) ≡ false → SmallOutline (points zs)
unfolding third_call
small_list zs e f = (accepts_only_small zs (third_totals (points zs)) (rw (e, none-beyond 2000 (points zs) (all_wider (points zs) (all_inside third_limit (points zs) f)), f))).0
