-- Document 02, CR 5: how far the points of one walk lie from those of another.
use Rattle.std.specs.Prelude.{ℕ, ◌+◌, ◌*◌, min, max, List, [], ◌∷◌, map, nat_abs, ◌-ℤ◌}
use Rattle.outline.specs.declared.Position.{Position}

abbrev pub square : ℕ → ℕ
square n = n * n

-- The squared distance of two points: the squares of how far they lie apart in x and in y, added. No root is taken.
unfoldable pub squared_distance : Position → Position → ℕ
squared_distance p q = square (nat_abs (p.x -ℤ q.x)) + square (nat_abs (p.y -ℤ q.y))

-- The least of some numbers; 0 of none.
unfoldable pub least_of : List ℕ → ℕ
least_of [] = 0
least_of (d ∷ []) = d
least_of (d ∷ e ∷ ds) = min d (least_of (e ∷ ds))

-- The greatest of some numbers; 0 of none.
unfoldable pub greatest_of : List ℕ → ℕ
greatest_of [] = 0
greatest_of (d ∷ ds) = max d (greatest_of ds)

-- From the point p: the squared distance to the nearest of the points qs.
unfoldable pub to_nearest : List Position → Position → ℕ
to_nearest qs p = least_of (map (squared_distance p) qs)

-- From the points ps to the points qs: the greatest, over ps, of the squared distance to the nearest of qs. Its root is the field's directed Hausdorff distance.
unfoldable pub squared_hausdorff : List Position → List Position → ℕ
squared_hausdorff ps qs = greatest_of (map (to_nearest qs) ps)
