-- Document 02, CR 10: the third moments of plots worked by hand, as rows: a list of numbers, and what the call answers for it.
use Rattle.std.specs.Prelude.{ℕ, ◌≡◌, List, [], ◌∷◌, map, reverse, ℤ, pos, neg_ℤ}
use Rattle.outline.specs.ListCall.{numbers}
use Rattle.outline.specs.Pieces.{kept, others}
use Rattle.third_order.specs.ThirdCall.{ThirdOutcome, refused_thirds, third_call}
use Rattle.worked_rows.specs.Rows.{rectangle, figure_eight, unit_square, square_at_minus_one, one_point_thrice, diagonal}

pub record ThirdRow : Type 0 where
  pub list : List ℤ
  pub answer : ThirdOutcome

-- The definitions give the row's figures.
unfoldable pub third_holds : ThirdRow → Type 0
third_holds row = third_call row.list ≡ row.answer

abbrev asked : List ℤ → ThirdOutcome → ThirdRow
asked zs answer = record { list = zs; answer = answer }

abbrev minus : ℕ → ℤ
minus n = neg_ℤ (pos n)

abbrev thirds : ℤ → ℤ → ℤ → ℤ → ThirdOutcome
thirds xxx20 xxy60 xyy60 yyy20 = record { number = 0; totals = record { xxx20 = xxx20; xxy60 = xxy60; xyy60 = xyy60; yyy20 = yyy20 } }

-- The plots; the rectangle walked backwards, and its two pieces; both sides of 500; and which refusal comes first.
abbrev pub third_rows : List ThirdRow
third_rows =
    asked (numbers unit_square) (thirds (pos 5) (pos 10) (pos 10) (pos 5))
    ∷ asked (numbers rectangle) (thirds (pos 168_000) (pos 342_400) (pos 262_400) (pos 76_800))
    ∷ asked (numbers figure_eight) (thirds (minus 96) (minus 160) (minus 96) (pos 0))
    ∷ asked (numbers square_at_minus_one) (thirds (minus 5) (pos 10) (minus 10) (pos 5))
    ∷ asked (numbers one_point_thrice) (thirds (pos 0) (pos 0) (pos 0) (pos 0))
    ∷ asked (numbers (reverse rectangle)) (thirds (minus 168_000) (minus 342_400) (minus 262_400) (minus 76_800))
    ∷ asked (numbers (kept diagonal rectangle)) (thirds (pos 140_800) (pos 256_000) (pos 166_400) (pos 38_400))
    ∷ asked (numbers (others diagonal rectangle)) (thirds (pos 27_200) (pos 86_400) (pos 96_000) (pos 38_400))
    ∷ asked (pos 500 ∷ minus 500 ∷ pos 0 ∷ pos 500 ∷ minus 500 ∷ pos 0 ∷ []) (thirds (pos 0) (minus 93_750_000_000_000) (pos 93_750_000_000_000) (pos 0))
    ∷ asked (pos 500 ∷ minus 500 ∷ pos 0 ∷ pos 501 ∷ minus 500 ∷ pos 0 ∷ []) (refused_thirds 35)
    ∷ asked (map pos (600 ∷ 0 ∷ 0 ∷ 0 ∷ 0 ∷ 2001 ∷ [])) (refused_thirds 1)
    ∷ asked (map pos (600 ∷ 0 ∷ 0 ∷ 0 ∷ 0 ∷ 5 ∷ 0 ∷ [])) (refused_thirds 2)
    ∷ []
