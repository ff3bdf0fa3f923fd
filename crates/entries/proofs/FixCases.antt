-- What the answer of the call on a fix says of the fix given to an open walk that 28 takes: one law for each answer.
use mathlib.Core.Path.{◌≡◌, refl, sym, ◌∙◌, ap}
use mathlib.Core.Bool.{Bool, true, false, cond}
use borrow.Author.Tests.{eqb-false}
use Rattle.std.specs.Prelude.{Ok, Err}
use Rattle.receiver.specs.declared.Fix.{Fix}
use Rattle.outline.specs.declared.Position.{Position}
use Rattle.outline.specs.declared.Walk.{Walk}
use Rattle.outline.specs.ListCall.{outside}
use Rattle.outline.specs.FixCall.{FixOutcome, fix_point, fix_not_finite, no_point, fix_point_call}
use Rattle.outline.specs.WalkCalls.{impossible_walk, refused_walk, point_call}
use Rattle.outline.specs.EntryCalls.{fix_call}
use Rattle.outline.proofs.EntryLaws.{finite-fix, infinite_fix}
use Rattle.fixes.specs.declared.FixRefusal.{FixRefusal}
use Rattle.fixes.specs.declared.FixRefusal.TheVariants.{NotFinite, OutsideLimits}
use Rattle.fixes.specs.FixAnswers.{fix_number, reading}

-- The tests of the call on a fix, by its answer.
data FixCase (f : Fix) : FixOutcome → Type 0 where
  not_finite_lem : fix_not_finite f ≡ true → FixCase f (no_point 33)
  too_far : fix_not_finite f ≡ false → outside (fix_point f) ≡ true → FixCase f (no_point 1)
  within : fix_not_finite f ≡ false → FixCase f (record { number = 0; point = fix_point f })

fix_case : (f : Fix) → FixCase f (fix_point_call f)
unfolding fix_point_call
fix_case f = go (fix_not_finite f) (outside (fix_point f)) refl refl
  where
    go : (a b : Bool) → fix_not_finite f ≡ a → outside (fix_point f) ≡ b → FixCase f (cond a (no_point 33) (cond b (no_point 1) (record { number = 0; point = fix_point f })))
    go true b ea eb = not_finite_lem ea
    go false true ea eb = too_far ea eb
    go false false ea eb = within ea

module _ (w : Walk) (f : Fix) (possible : impossible_walk w ≡ false) (is_open : w.is_open ≡ true) where
  far_point : (p : Position) → outside p ≡ true → point_call w p ≡ refused_walk 1 w
  unfolding point_call
  far_point p h = rw (possible, is_open, h) refl

  pub fix_refused : (r : FixRefusal) → reading (Err r) ≡ fix_point_call f → refused_walk (fix_number r) w ≡ fix_call w f
  fix_refused r e = go r (fix_point_call f) (fix_case f) (ap (λ o. o.number) (sym e))
    where
      go : (r : FixRefusal) (o : FixOutcome) → FixCase f o → o.number ≡ fix_number r → refused_walk (fix_number r) w ≡ fix_call w f
      go NotFinite o (not_finite_lem h) n = sym (infinite_fix w f possible is_open h)
      go NotFinite o (too_far h k) n = absurd (eqb-false 1 33 refl n)
      go NotFinite o (within h) n = absurd (eqb-false 0 33 refl n)
      go OutsideLimits o (not_finite_lem h) n = absurd (eqb-false 33 1 refl n)
      go OutsideLimits o (too_far h k) n = sym (finite-fix w f h ∙ far_point (fix_point f) k)
      go OutsideLimits o (within h) n = absurd (eqb-false 0 1 refl n)

  pub fix_accepted : (p : Position) → reading (Ok p) ≡ fix_point_call f → point_call w p ≡ fix_call w f
  fix_accepted p e = go (fix_point_call f) (fix_case f) (sym e)
    where
      go : (o : FixOutcome) → FixCase f o → o ≡ record { number = 0; point = p } → point_call w p ≡ fix_call w f
      go o (not_finite_lem h) n = absurd (eqb-false 33 0 refl (ap (λ o. o.number) n))
      go o (too_far h k) n = absurd (eqb-false 1 0 refl (ap (λ o. o.number) n))
      go o (within h) n = ap (λ o. point_call w o.point) (sym n) ∙ sym (finite-fix w f h)
