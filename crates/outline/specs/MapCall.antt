-- Document 01, "Maps" and the refusals 3, 4 and 5: affine maps of positions and of totals, and the outcome of the map call.
use Rattle.std.specs.Prelude.{ℕ, ◌^◌, Bool, ◌||◌, cond, List, map, ℤ, pos, ◌+ℤ◌, ◌-ℤ◌, ◌*ℤ◌}
use Rattle.outline.specs.declared.Position.{Position}
use Rattle.outline.specs.declared.Totals.{Totals}
use Rattle.outline.specs.declared.Sizes.{Sizes}
use Rattle.outline.specs.declared.AffineMap.{AffineMap}
use Rattle.outline.specs.EdgeSums.{over, exceed, outline_bounds}
use Rattle.outline.specs.ListCall.{Outcome, accepted, refused}

-- The image (u, v) of a point: u = a×x + b×y + e, v = g×x + h×y + f.
abbrev pub move_point : AffineMap → Position → Position
move_point m p =
    record {
      x = m.a *ℤ p.x +ℤ m.b *ℤ p.y +ℤ m.e;
      y = m.g *ℤ p.x +ℤ m.h *ℤ p.y +ℤ m.f;
    }

abbrev pub moved : AffineMap → List Position → List Position
moved m ps = map (move_point m) ps

-- The limits of a map's coefficients a, b, g, h and of its shifts e, f, by size.
abbrev pub coefficient_limit : ℕ
coefficient_limit = 2

abbrev pub shift_limit : ℕ
shift_limit = 2000

-- Refusal 3: a coefficient or a shift is greater in size than its limit.
unfoldable pub disallowed : AffineMap → Bool
disallowed m = over coefficient_limit m.a || over coefficient_limit m.b || over coefficient_limit m.g || over coefficient_limit m.h || over shift_limit m.e || over shift_limit m.f

-- The determinant, d = a×h − b×g.
abbrev pub determinant : AffineMap → ℤ
determinant m = m.a *ℤ m.h -ℤ m.b *ℤ m.g

-- "Maps", its six formulas: each is the determinant times a bracket. The bracket of X6, with a, b, e; of Y6, with g, h, f.
abbrev pub first_moment : ℤ → ℤ → ℤ → Totals → ℤ
first_moment a b e t = a *ℤ t.x6 +ℤ b *ℤ t.y6 +ℤ pos 3 *ℤ e *ℤ t.a2

-- The bracket of XX12, with a, b, e; of YY12, with g, h, f.
abbrev pub second_moment : ℤ → ℤ → ℤ → Totals → ℤ
second_moment a b e t =
    a *ℤ a *ℤ t.xx12 +ℤ b *ℤ b *ℤ t.yy12 +ℤ a *ℤ b *ℤ t.xy24 +ℤ pos 4 *ℤ a *ℤ e *ℤ t.x6 +ℤ pos 4 *ℤ b *ℤ e *ℤ t.y6 +ℤ pos 6 *ℤ (e *ℤ e) *ℤ t.a2

-- The bracket of XY24.
abbrev pub mixed_moment : ℤ → ℤ → ℤ → ℤ → ℤ → ℤ → Totals → ℤ
mixed_moment a b e g h f t =
    pos 2 *ℤ a *ℤ g *ℤ t.xx12 +ℤ pos 2 *ℤ b *ℤ h *ℤ t.yy12 +ℤ (a *ℤ h +ℤ b *ℤ g) *ℤ t.xy24 +ℤ pos 4 *ℤ (g *ℤ e +ℤ a *ℤ f) *ℤ t.x6 +ℤ pos 4 *ℤ (h *ℤ e +ℤ b *ℤ f) *ℤ t.y6 +ℤ pos 12 *ℤ e *ℤ f *ℤ t.a2

-- The six brackets; that of A2 is A2 itself.
abbrev pub brackets : AffineMap → Totals → Totals
brackets m t =
    record {
      a2 = t.a2;
      x6 = first_moment m.a m.b m.e t;
      y6 = first_moment m.g m.h m.f t;
      xx12 = second_moment m.a m.b m.e t;
      xy24 = mixed_moment m.a m.b m.e m.g m.h m.f t;
      yy12 = second_moment m.g m.h m.f t;
    }

-- Each of the six times d.
abbrev pub scaled : ℤ → Totals → Totals
scaled d t =
    record {
      a2 = d *ℤ t.a2;
      x6 = d *ℤ t.x6;
      y6 = d *ℤ t.y6;
      xx12 = d *ℤ t.xx12;
      xy24 = d *ℤ t.xy24;
      yy12 = d *ℤ t.yy12;
    }

-- The six formulas, of any six totals.
abbrev pub mapped : AffineMap → Totals → Totals
mapped m t = scaled (determinant m) (brackets m t)

-- The limit of a mapped total, of a sheet's and of one that a centre is asked of, by size.
abbrev pub total_limit : ℕ
total_limit = 10 ^ 18

abbrev pub total_limits : Sizes
total_limits = record { a2 = total_limit; x6 = total_limit; y6 = total_limit; xx12 = total_limit; xy24 = total_limit; yy12 = total_limit }

-- 3 looks at the map, then 4 at the totals that the call is given, by the outline bounds, then 5 at those that it would answer.
unfoldable pub map_call : AffineMap → Totals → Outcome
map_call m t =
    cond (disallowed m) (refused 3)
    (cond (exceed outline_bounds t) (refused 4)
    (cond (exceed total_limits (mapped m t)) (refused 5)
    (accepted (mapped m t))))
