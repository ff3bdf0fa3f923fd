-- How large the totals of the ground under cells of the grid are: within the outline bounds, and so far below the limit of totals that every allowed map takes
-- them; and what holds of them in all.
use mathlib.Core.Path.{◌≡◌, ap}
use mathlib.Core.Bool.{false}
use mathlib.Core.List.{List, [], ◌∷◌}
use Prim.Native.Nat.{ℕ, ◌+◌, ◌*◌, ◌≤◌, ◌<◌, ◌^◌}
use native.Mathlib.Omega.{arith}
use lib.IntN.{ℤ, pos, nat_abs, ◌*ℤ◌}
use lib.ListN.{length}
use borrow.Author.Tests.{ne_eqb}
use Rattle.integers.proofs.Ring.{quote}
use Rattle.integers.proofs.Bounds.{Within, within}
use Rattle.outline.specs.declared.Totals.{Totals}
use Rattle.outline.specs.declared.Sizes.{Sizes}
use Rattle.outline.specs.declared.AffineMap.{AffineMap}
use Rattle.outline.specs.EdgeSums.{exceed, outline_bounds}
use Rattle.outline.specs.ListCall.{accepted}
use Rattle.outline.specs.MapCall.{coefficient_limit, shift_limit, disallowed, mapped, total_limits, map_call}
use Rattle.outline.specs.private.Fit.{Fit}
use Rattle.outline.proofs.Limits.{fit_exceed}
use Rattle.centroid.specs.Centroid.{outline_centroid_call}
use Rattle.affine.proofs.WithinLimits.{map_within}
use Rattle.cell_ground.specs.CellSums.{Cell, CellSums, sums_over}
use Rattle.cell_ground.specs.Ground.{ground_totals, ground_of}
use Rattle.cell_ground.specs.GroundLaws.{AllInGrid, EveryGround}
use Rattle.cell_ground.specs.private.SumBounds.{SumsWithin}
use Rattle.cell_ground.proofs.SumLaws.{count_cells, widen, sums_within}
use Rattle.cell_ground.proofs.GroundSums.{cell_by_cell}

-- The bounds by the formulas, of 2^22 cells: 4,096 rows of 1,024.
abbrev ground_bounds : Sizes
ground_bounds =
    record {
      a2 = 2 * 2 ^ 22;
      x6 = 6 * 2 ^ 32 + 3 * 2 ^ 22;
      y6 = 6 * 2 ^ 32 + 3 * 2 ^ 22;
      xx12 = 12 * 2 ^ 42 + 12 * 2 ^ 32 + 4 * 2 ^ 22;
      xy24 = 24 * 2 ^ 42 + 24 * 2 ^ 32 + 6 * 2 ^ 22;
      yy12 = 12 * 2 ^ 42 + 12 * 2 ^ 32 + 4 * 2 ^ 22;
    }

sums_fit : (s : CellSums) → SumsWithin (2 ^ 22) s → Fit ground_bounds (ground_totals s)
sums_fit s w =
    let h : Within sums sizes = (w.count, (w.x, (w.y, (w.xx, (w.xy, (w.yy, tt)))))) in
    record {
      a2 = within sums sizes h (ground_totals s).a2 (search quote depth 20) tt;
      x6 = within sums sizes h (ground_totals s).x6 (search quote depth 20) tt;
      y6 = within sums sizes h (ground_totals s).y6 (search quote depth 20) tt;
      xx12 = within sums sizes h (ground_totals s).xx12 (search quote depth 20) tt;
      xy24 = within sums sizes h (ground_totals s).xy24 (search quote depth 20) tt;
      yy12 = within sums sizes h (ground_totals s).yy12 (search quote depth 20) tt;
    }
  where
    sums : List ℤ
    sums = s.count ∷ s.x ∷ s.y ∷ s.xx ∷ s.xy ∷ s.yy ∷ []

    sizes : List ℕ
    sizes = 2 ^ 22 ∷ 2 ^ 32 ∷ 2 ^ 32 ∷ 2 ^ 42 ∷ 2 ^ 42 ∷ 2 ^ 42 ∷ []

ground_fit : (cs : List Cell) → AllInGrid cs → length cs ≤ 4096 * 1024 → Fit ground_bounds (ground_of cs)
unfolding ground_of
ground_fit cs all few = sums_fit (sums_over cs) (widen (omega arith) (sums_within cs all))

within_bounds : (t : Totals) → Fit ground_bounds t → exceed outline_bounds t ≡ false
within_bounds t f = fit_exceed outline_bounds t (omega (arith, f))

-- ---- maps

map_fit : (m : AffineMap) (t : Totals) → disallowed m ≡ false → Fit ground_bounds t → Fit total_limits (mapped m t)
map_fit m t e f =
    let k = map_within m e in
    let h : Within operands sizes = (k.u.first, (k.u.second, (k.v.first, (k.v.second, (k.u.shift, (k.v.shift, (f.a2, (f.x6, (f.y6, (f.xx12, (f.xy24, (f.yy12, tt)))))))))))) in
    record {
      a2 = within operands sizes h (mapped m t).a2 (search quote depth 60 fits 20000) tt;
      x6 = within operands sizes h (mapped m t).x6 (search quote depth 60 fits 20000) tt;
      y6 = within operands sizes h (mapped m t).y6 (search quote depth 60 fits 20000) tt;
      xx12 = within operands sizes h (mapped m t).xx12 (search quote depth 60 fits 20000) tt;
      xy24 = within operands sizes h (mapped m t).xy24 (search quote depth 60 fits 20000) tt;
      yy12 = within operands sizes h (mapped m t).yy12 (search quote depth 60 fits 20000) tt;
    }
  where
    operands : List ℤ
    operands = m.a ∷ m.b ∷ m.g ∷ m.h ∷ m.e ∷ m.f ∷ t.a2 ∷ t.x6 ∷ t.y6 ∷ t.xx12 ∷ t.xy24 ∷ t.yy12 ∷ []

    b : Sizes
    b = ground_bounds

    sizes : List ℕ
    sizes = coefficient_limit ∷ coefficient_limit ∷ coefficient_limit ∷ coefficient_limit ∷ shift_limit ∷ shift_limit ∷ b.a2 ∷ b.x6 ∷ b.y6 ∷ b.xx12 ∷ b.xy24 ∷ b.yy12 ∷ []

taken_by_maps : (m : AffineMap) (t : Totals) → disallowed m ≡ false → Fit ground_bounds t → map_call m t ≡ accepted (mapped m t)
unfolding map_call
taken_by_maps m t e f = rw (e, within_bounds t f, fit_exceed total_limits (mapped m t) (map_fit m t e f))

-- ---- the centre

-- A2 is twice the number of cells.
pub twice_count : (cs : List Cell) → (ground_of cs).a2 ≡ pos (2 * length cs)
unfolding ground_of
twice_count cs = ap (λ z. pos 2 *ℤ z) (count_cells cs)

has_centre : (t : Totals) → Fit ground_bounds t → (n : ℕ) → t.a2 ≡ pos (2 * n) → 0 < n → (outline_centroid_call t).number ≡ 0
unfolding outline_centroid_call
has_centre t f n e h = rw (fit_exceed total_limits t (omega (arith, f)), ne_eqb (nat_abs t.a2) 0 (λ z. omega (arith, ap nat_abs e)))

-- ---- all of it

pub every_ground : EveryGround
every_ground cs all few =
    let f = ground_fit cs all (omega (arith, few)) in
    record {
      in_grid = all;
      cell_by_cell = cell_by_cell cs all;
      in_bounds = within_bounds (ground_of cs) f;
      taken = λ m e. taken_by_maps m (ground_of cs) e f;
      centred = λ h. has_centre (ground_of cs) f (length cs) (twice_count cs) h;
    }
