-- Formula 11 of source document 001, which gives the edge term of every moment, and what the edge terms of documents 01 and 02 are of it. proofs/FormulaEleven has the proof.
use Rattle.std.specs.Prelude.{ℕ, zero, suc, ◌+◌, ◌*◌, ◌-◌, ◌/◌, ◌%◌, ◌≡◌, List, ℤ, pos, ◌+ℤ◌, ◌*ℤ◌}
use Rattle.outline.specs.declared.Position.{Position}
use Rattle.outline.specs.EdgeSums.{Term, cross, a2, x6, y6, xx12, xy24, yy12, Edge, edges, sum_over}
use Rattle.outline.specs.ListCall.{points}
use Rattle.third_order.specs.declared.ThirdTotals.{ThirdTotals}
use Rattle.third_order.specs.ThirdTerms.{xxx20, xxy60, xyy60, yyy20}
use Rattle.third_order.specs.ThirdCall.{accepted_thirds, third_call}

-- ---- the formula

-- The binomial coefficient: n over k.
unfoldable pub choose : ℕ → ℕ → ℕ
choose n zero = 1
choose zero (suc k) = 0
choose (suc n) (suc k) = choose n k + choose n (suc k)

unfoldable pub factorial : ℕ → ℕ
factorial zero = 1
factorial (suc n) = suc n * factorial n

unfoldable pub power : ℤ → ℕ → ℤ
power z zero = pos 1
power z (suc n) = power z n *ℤ z

-- The sum of f 0, f 1, .. and f n.
unfoldable pub sum_to : ℕ → (ℕ → ℤ) → ℤ
sum_to zero f = f 0
sum_to (suc n) f = sum_to n f +ℤ f (suc n)

-- The two fractions in the braces as one, for the moment of x^p y^q times m: what stands above the bar, and below.
abbrev pub above : ℕ → ℕ → ℕ → ℕ → ℕ → ℕ
above m p q j k = m * (choose p j * choose q k) * factorial (p + q)

abbrev pub below : ℕ → ℕ → ℕ → ℕ → ℕ
below p q j k = choose (p + q) (j + k) * factorial (p + q + 2)

-- m times formula 11 for x^p y^q, where each fraction is a whole number.
unfoldable pub eleven : ℕ → ℕ → ℕ → Term
eleven m p q a b =
    cross a b *ℤ sum_to p (λ j. sum_to q (λ k. pos (above m p q j k / below p q j k) *ℤ power a.x j *ℤ power b.x (p - j) *ℤ power a.y k *ℤ power b.y (q - k)))

-- The four totals by the formula, over a list of edges.
abbrev pub formula_totals : List Edge → ThirdTotals
formula_totals es = record { xxx20 = sum_over (eleven 20 3 0) es; xxy60 = sum_over (eleven 60 2 1) es; xyy60 = sum_over (eleven 60 1 2) es; yyy20 = sum_over (eleven 20 0 3) es }

-- ---- what is claimed

-- A term is m times formula 11 for x^p y^q, on every edge; and no fraction leaves a remainder.
pub record IsEleven (t : Term) (m p q : ℕ) : Type 0 where
  pub term : (a b : Position) → t a b ≡ eleven m p q a b
  pub whole : sum_to p (λ j. sum_to q (λ k. pos (above m p q j k % below p q j k))) ≡ pos 0

pub record FormulaEleven : Type 0 where
  -- The third moments of document 02, with the multiples that it has.
  pub xxx : IsEleven xxx20 20 3 0
  pub xxy : IsEleven xxy60 60 2 1
  pub xyy : IsEleven xyy60 60 1 2
  pub yyy : IsEleven yyy20 20 0 3
  -- The table of document 01 is of the same formula.
  pub area : IsEleven a2 2 0 0
  pub x : IsEleven x6 6 1 0
  pub y : IsEleven y6 6 0 1
  pub xx : IsEleven xx12 12 2 0
  pub xy : IsEleven xy24 24 1 1
  pub yy : IsEleven yy12 12 0 2

abbrev pub CallByFormula : Type 0
CallByFormula =
    -- For every list of numbers
    (zs : List ℤ)
    -- and the four totals
    (t : ThirdTotals)
    -- with which the call accepts it:
    → third_call zs ≡ accepted_thirds t
    -- they are the formula's sums over the edges of the outline, for x³, x²y, xy² and y³.
    → t ≡ formula_totals (edges (points zs))
