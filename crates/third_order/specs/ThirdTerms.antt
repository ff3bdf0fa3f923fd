-- Document 02, CR 10: the edge terms of the third moments, and the four totals of an outline.
use Rattle.std.specs.Prelude.{List, ℤ, pos, neg_ℤ, ◌+ℤ◌, ◌*ℤ◌}
use Rattle.outline.specs.declared.Position.{Position}
use Rattle.outline.specs.EdgeSums.{Term, cross, edges, sum_over}
use Rattle.third_order.specs.declared.ThirdTotals.{ThirdTotals}

-- ---- the edge terms

-- The bracket for x³, of x and p: x³ + x²p + xp² + p³.
abbrev pub cubic : ℤ → ℤ → ℤ
cubic x p = x *ℤ x *ℤ x +ℤ x *ℤ x *ℤ p +ℤ x *ℤ p *ℤ p +ℤ p *ℤ p *ℤ p

-- The bracket for x²y, of x, y and p, q: 3x²y + 2xpy + p²y + x²q + 2xpq + 3p²q.
abbrev pub mixed : ℤ → ℤ → ℤ → ℤ → ℤ
mixed x y p q = pos 3 *ℤ x *ℤ x *ℤ y +ℤ pos 2 *ℤ x *ℤ p *ℤ y +ℤ p *ℤ p *ℤ y +ℤ x *ℤ x *ℤ q +ℤ pos 2 *ℤ x *ℤ p *ℤ q +ℤ pos 3 *ℤ p *ℤ p *ℤ q

-- c times the bracket. Around an outline it sums to 20 × the integral of x³.
abbrev pub xxx20 : Term
xxx20 a b = cross a b *ℤ cubic a.x b.x

-- It sums to 60 × the integral of x²y.
abbrev pub xxy60 : Term
xxy60 a b = cross a b *ℤ mixed a.x a.y b.x b.y

-- For the other two x and y, and p and q, change places in the bracket and not in c: 60 × the integral of xy²,
abbrev pub xyy60 : Term
xyy60 a b = cross a b *ℤ mixed a.y a.x b.y b.x

-- and 20 × the integral of y³.
abbrev pub yyy20 : Term
yyy20 a b = cross a b *ℤ cubic a.y b.y

-- One number for each of the four.
abbrev pub four : (Term → ℤ) → ThirdTotals
four f = record { xxx20 = f xxx20; xxy60 = f xxy60; xyy60 = f xyy60; yyy20 = f yyy20 }

-- ---- the totals

-- Of an outline: sums over its edges, closing edge included.
abbrev pub third_totals : List Position → ThirdTotals
third_totals ps = four (λ t. sum_over t (edges ps))

abbrev pub no_thirds : ThirdTotals
no_thirds = four (λ t. pos 0)

-- Each of the four by itself.
abbrev pub plus_thirds : ThirdTotals → ThirdTotals → ThirdTotals
plus_thirds s t = record { xxx20 = s.xxx20 +ℤ t.xxx20; xxy60 = s.xxy60 +ℤ t.xxy60; xyy60 = s.xyy60 +ℤ t.xyy60; yyy20 = s.yyy20 +ℤ t.yyy20 }

-- All four signs turned.
abbrev pub negated_thirds : ThirdTotals → ThirdTotals
negated_thirds t = record { xxx20 = neg_ℤ t.xxx20; xxy60 = neg_ℤ t.xxy60; xyy60 = neg_ℤ t.xyy60; yyy20 = neg_ℤ t.yyy20 }
