-- `map_totals` answers as the map call: a refusal by the test that gave it, else the scaled brackets, which are the mapped totals.
use mathlib.Core.Path.{refl, sym, ◌∙◌, ap, subst}
use mathlib.Core.Bool.{cond}
use Rattle.std.specs.Prelude.{Some, None}
use Rattle.std.specs.Option.{ok_or}
use Rattle.integers.proofs.Flags.{tells}
use Rattle.integers.proofs.SizedNumbers.{called}
use Rattle.outline.specs.EdgeSums.{exceed, outline_bounds}
use Rattle.outline.specs.MapCall.{mapped, total_limits}
use Rattle.outline.proofs.Limits.{exceed_fit}
use Rattle.affine.specs.declared.MapRefusal.TheVariants.{ResultOutsideLimits}
use Rattle.affine.specs.Answer.{reading}
use Rattle.affine.specs.private.Limits.{AtMost}
use Rattle.affine.proofs.MappedTotals.{scaled-brackets, by_tests, told_or_refused}
use Rattle.affine.proofs.WithinLimits.{map_within, determinant_small}
use Rattle.affine.proofs.map_totals.Goals as goal

pub returns-then-map_outside_limits : goal.returns-then-map_outside_limits
returns-then-map_outside_limits c = sym (by_tests c.args.m c.args.t (tells c.map_outside_limits.ensures c.if-map_outside_limits.true) refl refl)

pub returns-then-outside_bounds : goal.returns-then-outside_bounds
returns-then-outside_bounds c =
    let allowed = tells c.map_outside_limits.ensures c.if-map_outside_limits.false in
    sym (by_tests c.args.m c.args.t allowed (tells c.outside_bounds.ensures c.if-outside_bounds.true) refl)

pub map_determinant-d-requires : goal.map_determinant-d-requires
map_determinant-d-requires c = map_within _ (tells c.map_outside_limits.ensures c.if-map_outside_limits.false)

pub bracket_totals-s-requires-clause-map_within : goal.bracket_totals-s-requires-clause-map_within
bracket_totals-s-requires-clause-map_within c = map_within _ (tells c.map_outside_limits.ensures c.if-map_outside_limits.false)

pub bracket_totals-s-requires-clause-fit : goal.bracket_totals-s-requires-clause-fit
bracket_totals-s-requires-clause-fit c = exceed_fit outline_bounds c.args.t (tells c.outside_bounds.ensures c.if-outside_bounds.false)

pub scaled_by-requires : goal.scaled_by-requires
scaled_by-requires c =
    let allowed = tells c.map_outside_limits.ensures c.if-map_outside_limits.false in
    subst (AtMost 8) (sym (called refl c.map_determinant-d.type_inv c.map_determinant-d.ensures)) (determinant_small (map_within c.args.m allowed))

pub returns : goal.returns
returns c =
    let m = c.args.m in
    let t = c.args.t in
    let allowed = tells c.map_outside_limits.ensures c.if-map_outside_limits.false in
    let inside = tells c.outside_bounds.ensures c.if-outside_bounds.false in
    let image = scaled-brackets m t (called refl c.map_determinant-d.type_inv c.map_determinant-d.ensures) c.bracket_totals-s.ensures in
    ap reading c.ok_or.ensures.value
    ∙ ap (λ o. reading (ok_or o ResultOutsideLimits)) (c.scaled_by.ensures ∙ (λ i. cond (exceed total_limits (image i)) None (Some (image i))))
    ∙ told_or_refused (exceed total_limits (mapped m t)) (mapped m t)
    ∙ sym (by_tests m t allowed inside refl)
