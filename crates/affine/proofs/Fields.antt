-- The six numbers of a map fit their type; and a product of two numbers as the code reads them.
use mathlib.Core.Path.{◌≡◌, ap₂}
use lib.IntN.{ℤ, ◌*ℤ◌}
use mir.Syntax.{w32, w64}
use mir.Val.{SFits, to_z, of_z}
use mir.Facts.{to_z-of_z}
use Rattle.outline.specs.declared.AffineMap.{AffineMap}

pub record MapFit (m : AffineMap) : Type 0 where
  pub a : SFits w32 m.a
  pub b : SFits w32 m.b
  pub g : SFits w32 m.g
  pub h : SFits w32 m.h
  pub e : SFits w32 m.e
  pub f : SFits w32 m.f

pub product_read : {d z : ℤ} → SFits w64 d → SFits w64 z → to_z w64 (of_z w64 d) *ℤ to_z w64 (of_z w64 z) ≡ d *ℤ z
product_read f k = ap₂ ◌*ℤ◌ (to_z-of_z f) (to_z-of_z k)
