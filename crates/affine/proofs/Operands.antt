-- What the formulas are computed from, each number with its bound: the six totals, a row of the map, its coefficients; and the bound of a number made of them.
use mathlib.Core.List.{List, [], ◌∷◌}
use Prim.Native.Nat.{ℕ}
use lib.Dec.{T, leb}
use lib.IntN.{ℤ}
use Rattle.integers.proofs.SignedCode.{Code, both, size, steps}
use Rattle.integers.proofs.SizedNumbers.{Sized, sized, numbers, bounds, at_most}
use Rattle.outline.specs.declared.Totals.{Totals}
use Rattle.outline.specs.declared.AffineMap.{AffineMap}
use Rattle.outline.specs.EdgeSums.{outline_bounds}
use Rattle.outline.specs.private.Fit.{Fit}
use Rattle.affine.specs.private.Limits.{AtMost, RowWithin, MapWithin}

abbrev pub totals : {t : Totals} → Fit outline_bounds t → List Sized
totals {t} k = sized t.a2 k.a2 ∷ sized t.x6 k.x6 ∷ sized t.y6 k.y6 ∷ sized t.xx12 k.xx12 ∷ sized t.xy24 k.xy24 ∷ sized t.yy12 k.yy12 ∷ []

abbrev pub with_row : {a b e : ℤ} → RowWithin a b e → List Sized → List Sized
with_row {a} {b} {e} k l = sized a k.first ∷ sized b k.second ∷ sized e k.shift ∷ l

abbrev pub coefficients : {m : AffineMap} → MapWithin m → List Sized
coefficients {m} k = sized m.a k.u.first ∷ sized m.b k.u.second ∷ sized m.g k.v.first ∷ sized m.h k.v.second ∷ []

pub small : (l : List Sized) {n : ℕ} {z : ℤ} (k : Code (numbers l) z) → T (both (leb (size (bounds l) k) n) (steps (bounds l) k)) → AtMost n z
small l k t = record { size = at_most l k t }
