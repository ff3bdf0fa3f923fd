-- Document 01, "The text program": the lines of the output, as bytes.
use Rattle.std.specs.Prelude.{ℕ, cond, List, [], ◌∷◌, ◌++◌, eqb, pos}
use Rattle.outline.specs.declared.Totals.{Totals}
use Rattle.outline.specs.declared.Sheet.{Sheet}
use Rattle.centroid.specs.Centroid.{CentroidOutcome, outline_centroid_call}
use Rattle.decimals.specs.Decimal.{field}

-- The six totals in the table's order.
unfoldable pub totals_text : Totals → List ℕ
totals_text t = field t.a2 ++ field t.x6 ++ field t.y6 ++ field t.xx12 ++ field t.xy24 ++ field t.yy12

-- A missing centre prints a minus twice.
unfoldable pub centre_text : CentroidOutcome → List ℕ
centre_text c = cond (eqb c.number 0) (field c.x ++ field c.y) (9 ∷ 45 ∷ 9 ∷ 45 ∷ [])

-- What the lines of an outline and of a sheet end with: the totals and the centre.
abbrev pub figures_text : Totals → List ℕ
figures_text t = totals_text t ++ centre_text (outline_centroid_call t) ++ 10 ∷ []

-- O: the outline's number, its points, its totals and its centre.
unfoldable pub outline_line : ℕ → ℕ → Totals → List ℕ
outline_line count points t = 79 ∷ field (pos count) ++ field (pos points) ++ figures_text t

-- R: the line's number and the refusal's.
unfoldable pub refusal_line : ℕ → ℕ → List ℕ
refusal_line line refusal = 82 ∷ field (pos line) ++ field (pos refusal) ++ 10 ∷ []

-- S: the sheet's count, its totals and its centre.
unfoldable pub sheet_line : Sheet → List ℕ
sheet_line s = 83 ∷ field (pos s.count) ++ figures_text s.totals
