-- Six totals within six bounds, as six facts: contracts of private functions and lemmas cite it. What public functions promise is said by `exceed`.
use Rattle.std.specs.Prelude.{◌≤◌, nat_abs}
use Rattle.outline.specs.declared.Totals.{Totals}
use Rattle.outline.specs.declared.Sizes.{Sizes}

-- Each total is at most its bound in size.
pub record Fit (b : Sizes) (t : Totals) : Type 0 where
  pub a2 : nat_abs t.a2 ≤ b.a2
  pub x6 : nat_abs t.x6 ≤ b.x6
  pub y6 : nat_abs t.y6 ≤ b.y6
  pub xx12 : nat_abs t.xx12 ≤ b.xx12
  pub xy24 : nat_abs t.xy24 ≤ b.xy24
  pub yy12 : nat_abs t.yy12 ≤ b.yy12
