-- `bracket_totals` puts the six brackets together. The map's numbers are widened to i64, and keep their values and bounds.
use mathlib.Core.Path.{◌≡◌}
use lib.IntN.{ℤ}
use mir.Syntax.{w32, w64}
use mir.Val.{SFits, to_z, of_z}
use mir.Facts.{to_z-of_z}
use borrow.Author.Rules.{rules}
use Rattle.outline.specs.declared.Totals.{Totals}
use Rattle.outline.specs.declared.AffineMap.{AffineMap}
use Rattle.outline.specs.MapCall.{first_moment, second_moment, mixed_moment}
use Rattle.integers.proofs.SizedNumbers.{called}
use Rattle.integers.proofs.Widening.{widened}
use Rattle.limits.proofs.Fields.{TotalsFit}
use Rattle.affine.proofs.Fields.{MapFit}
use Rattle.affine.proofs.bracket_totals.Goals as goal

abbrev wide : ℤ → ℤ
wide z = to_z w64 (of_z w64 (to_z w32 (of_z w32 z)))

-- the formulas at the widened numbers
row_is : (f : ℤ → ℤ → ℤ → ℤ) {a b e : ℤ} → SFits w32 a → SFits w32 b → SFits w32 e → f (wide a) (wide b) (wide e) ≡ f a b e
row_is f p q r i = f (widened p i) (widened q i) (widened r i)

mixed_is : {m : AffineMap} (t : Totals) → MapFit m → mixed_moment (wide m.a) (wide m.b) (wide m.e) (wide m.g) (wide m.h) (wide m.f) t ≡ mixed_moment m.a m.b m.e m.g m.h m.f t
mixed_is t k i = mixed_moment (widened k.a i) (widened k.b i) (widened k.e i) (widened k.g i) (widened k.h i) (widened k.f i) t

pub returns : goal.returns
returns c =
    let t = c.args.t in
    let k : MapFit c.args.m = search rules in
    let read : TotalsFit t = search rules in
    λ i. record {
      a2 = to_z-of_z read.a2 i;
      x6 = called (row_is (λ a b e. first_moment a b e t) k.a k.b k.e) c.first_moment.type_inv c.first_moment.ensures i;
      y6 = called (row_is (λ a b e. first_moment a b e t) k.g k.h k.f) c.first_moment-2.type_inv c.first_moment-2.ensures i;
      xx12 = called (row_is (λ a b e. second_moment a b e t) k.a k.b k.e) c.second_moment.type_inv c.second_moment.ensures i;
      xy24 = called (mixed_is t k) c.mixed_moment.type_inv c.mixed_moment.ensures i;
      yy12 = called (row_is (λ a b e. second_moment a b e t) k.g k.h k.f) c.second_moment-2.type_inv c.second_moment-2.ensures i;
    }
