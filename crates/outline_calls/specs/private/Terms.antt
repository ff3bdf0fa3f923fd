-- The terms of an edge from numbers: x and p or y and q, and the cross product c.
use Rattle.std.specs.Prelude.{ℤ, pos, ◌+ℤ◌, ◌*ℤ◌}

-- Of X6 from x and p, of Y6 from y and q.
abbrev pub first_term : ℤ → ℤ → ℤ → ℤ
first_term s t c = (s +ℤ t) *ℤ c

-- Of XX12 from x and p, of YY12 from y and q.
abbrev pub second_term : ℤ → ℤ → ℤ → ℤ
second_term s t c = (s *ℤ s +ℤ s *ℤ t +ℤ t *ℤ t) *ℤ c

-- Of XY24.
abbrev pub mixed_term : ℤ → ℤ → ℤ → ℤ → ℤ → ℤ
mixed_term x y p q c = (pos 2 *ℤ x *ℤ y +ℤ x *ℤ q +ℤ p *ℤ y +ℤ pos 2 *ℤ p *ℤ q) *ℤ c
