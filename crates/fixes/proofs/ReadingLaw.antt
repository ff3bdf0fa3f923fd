-- The reading of an answer is one to one, so the promise of this crate leaves one answer only: it follows from its number and its point.
use mathlib.Core.Path.{◌≡◌, refl, sym, ◌∙◌, ap}
use mathlib.Core.Bool.{cond}
use Prim.Native.Nat.{ℕ}
use lib.Dec.{eqb}
use Rattle.std.specs.Prelude.{Result, Ok, Err}
use Rattle.refusals.proofs.AnswerLaws.{answer_of}
use Rattle.outline.specs.declared.Position.{Position}
use Rattle.fixes.specs.declared.FixRefusal.{FixRefusal}
use Rattle.fixes.specs.declared.FixRefusal.TheVariants.{NotFinite, OutsideLimits}
use Rattle.fixes.specs.FixAnswers.{reading}

abbrev fix_of : ℕ → Position → Result Position FixRefusal
fix_of n p = answer_of (λ m. cond (eqb m 33) NotFinite OutsideLimits) n p

fix_back : (a : Result Position FixRefusal) → fix_of (reading a).number (reading a).point ≡ a
fix_back (Ok p) = refl
fix_back (Err NotFinite) = refl
fix_back (Err OutsideLimits) = refl

pub reading_one_to_one : (a b : Result Position FixRefusal) → reading a ≡ reading b → a ≡ b
reading_one_to_one a b e = sym (fix_back a) ∙ ap (λ o. fix_of o.number o.point) e ∙ fix_back b
