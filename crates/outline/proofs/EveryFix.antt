-- Every point within the limits is the point of a fix, and every outline can be given by fixes.
use mathlib.Core.Path.{ap}
use mathlib.Core.Bool.{not}
use Rattle.integers.proofs.Flags.{neither}
use Rattle.receiver.proofs.EveryWhole.{every_whole}
use Rattle.outline.specs.declared.Position.{Position}
use Rattle.outline.specs.ListCall.{points}
use Rattle.outline.specs.FixCall.{fix_not_finite}
use Rattle.outline.specs.CallLists.{with_point, ring_with}
use Rattle.outline.specs.EveryOutline.{point_or_entry}
use Rattle.outline.specs.EveryFix.{fix_of, IsFixOf, EveryFix, as_fix, OutlineByFixes}
use Rattle.outline.proofs.Every.{all_of, all_member}
use Rattle.outline.proofs.Limits.{Inside, beyond_not, accepts_only_outlines}
use Rattle.outline.proofs.EveryOutline.{Gives, by_calls}

fix_of_lem : (p : Position) → Inside p → IsFixOf p (fix_of p)
unfolding fix_not_finite
fix_of_lem p h =
    let x = every_whole p.x h.0 in
    let y = every_whole p.y h.1 in
    record { east = x.held; north = y.held; finite = neither x.finite y.finite; point = λ i. record { x = x.rounds i; y = y.rounds i } }

pub every_fix : EveryFix
every_fix p h = fix_of_lem p (beyond_not p h)

gives : (p : Position) → Inside p → Gives as_fix p
unfolding point_or_entry ring_with
gives p h = let f = fix_of_lem p h in record { point_or_entry_lem = ap not f.finite; ring = λ g. ap (with_point g) f.point }

pub outline_by_fixes : OutlineByFixes
outline_by_fixes zs t e k w h =
    let inside = (accepts_only_outlines zs t e).0.outline.inside in
    by_calls as_fix zs t e (all_of (Gives as_fix) (points zs) (λ p m. gives p (all_member Inside (points zs) inside p m))) k w h
