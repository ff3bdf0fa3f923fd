-- Totals added, each of the six by itself.
use mathlib.Core.Path.{◌≡◌}
use lib.IntN.{+ℤ_idl, +ℤ_idr, +ℤ_assoc}
use Rattle.outline.specs.declared.Totals.{Totals}
use Rattle.outline.specs.EdgeSums.{plus, zeros}

-- Totals are equal where each of the six is.
pub totals_equal : {s t : Totals} → s.a2 ≡ t.a2 → s.x6 ≡ t.x6 → s.y6 ≡ t.y6 → s.xx12 ≡ t.xx12 → s.xy24 ≡ t.xy24 → s.yy12 ≡ t.yy12 → s ≡ t
totals_equal a b c d e f = λ i. record { a2 = a i; x6 = b i; y6 = c i; xx12 = d i; xy24 = e i; yy12 = f i }

pub plus_assoc : (r s t : Totals) → plus (plus r s) t ≡ plus r (plus s t)
plus_assoc r s t = simp +ℤ_assoc

pub plus-zeros : (t : Totals) → plus t zeros ≡ t
plus-zeros t = simp +ℤ_idr

pub zeros-plus : (t : Totals) → plus zeros t ≡ t
zeros-plus t = simp +ℤ_idl
