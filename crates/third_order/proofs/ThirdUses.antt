-- Document 02, CR 10: each statement used, at one outline and with every quantifier left free, so that a weaker statement or a weaker definition is refused here.
use Prim.Native.Nat.{ℕ, ◌+◌, ◌*◌, ◌%◌, ◌≤◌}
use mathlib.Core.Path.{◌≡◌, refl, sym, ◌∙◌, ap}
use mathlib.Core.Bool.{true, false}
use mathlib.Core.List.{List, [], ◌∷◌, map, Memᴰ}
use mathlib.Core.Logic.{◌≢◌}
use lib.IntN.{ℤ, pos, neg_ℤ, negsuc, nat_abs}
use Rattle.outline.specs.declared.Position.{Position}
use Rattle.outline.specs.EdgeSums.{six, open_edges, edges, sum_over, over}
use Rattle.outline.specs.ListCall.{points, numbers, beyond, any_beyond, wrong_length, list_call}
use Rattle.outline.specs.Pieces.{Piece, Cut, neighbours, can_cut, cut_once, cut_all, pieces_of, kept, others, start_at, Direction, forwards, backwards, walked, placed}
use Rattle.outline.proofs.PiecesUses.{pentagon, cuts, starts}
use Rattle.outline.proofs.WorkedInputs.{at}
use Rattle.third_order.specs.declared.ThirdTotals.{ThirdTotals}
use Rattle.third_order.specs.ThirdTerms.{four, plus_thirds}
use Rattle.third_order.specs.ThirdCall.{ThirdOutcome, accepted_thirds, third_call}
use Rattle.third_order.specs.ThirdPieces.{thirds_of, sum_of_thirds, directed_thirds, ThirdPiecesAddUp}
use Rattle.third_order.specs.ThirdLaws.{Refusing, ThirdRefusals, ThirdSizes, ThirdStarts, ThirdCut}
use Rattle.third_order.specs.FormulaEleven.{choose, factorial, power, sum_to, eleven, FormulaEleven, CallByFormula}
use Rattle.third_order.proofs.FormulaEleven.{formula_eleven, call_by_formula}
use Rattle.third_order.proofs.ThirdPieces.{third_pieces_add_up}
use Rattle.third_order.proofs.ThirdLaws.{third_refusals, third_starts, third_cut}
use Rattle.third_order.proofs.ThirdSizes.{third_sizes}
use Rattle.third_order.proofs.WorkedThirds.{thirds}

-- ---- a pentagon, cut

abbrev pentagon_thirds : ThirdTotals
pentagon_thirds = thirds (pos 6248) (pos 9272) (pos 7276) (pos 3034)

pentagon_taken : third_call pentagon ≡ accepted_thirds pentagon_thirds
unfolding open_edges edges sum_over over points beyond any_beyond wrong_length third_call
pentagon_taken = refl

-- Its three pieces, computed.
three_pieces : map thirds_of (pieces_of (points pentagon) cuts) ≡ thirds (pos 2952) (pos 2096) (pos 608) (pos 64) ∷ thirds (pos 1421) (pos 3801) (pos 4193) (pos 1995) ∷ thirds (pos 1875) (pos 3375) (pos 2475) (pos 975) ∷ []
unfolding open_edges edges sum_over over points numbers beyond any_beyond wrong_length third_call neighbours can_cut cut_once cut_all
three_pieces = refl

-- Each started at its own point and walked backwards: all four signs turn, and no piece is refused.
pentagon_backwards : sum_of_thirds (map thirds_of (placed backwards starts (pieces_of (points pentagon) cuts))) ≡ thirds (negsuc 6247) (negsuc 9271) (negsuc 7275) (negsuc 3033)
unfolding directed_thirds
pentagon_backwards = (third_pieces_add_up pentagon pentagon_thirds pentagon_taken cuts starts backwards).sum

pentagon_accepted : (direction : Direction) (p : Piece) → Memᴰ p (placed direction starts (pieces_of (points pentagon) cuts)) → third_call (numbers p) ≡ accepted_thirds (thirds_of p)
pentagon_accepted direction = (third_pieces_add_up pentagon pentagon_thirds pentagon_taken cuts starts direction).accepts

-- Started at position 3, forwards and backwards; one cut.
another_start : third_call (numbers (start_at 3 (points pentagon))) ≡ accepted_thirds pentagon_thirds
unfolding walked directed_thirds
another_start = third_starts pentagon pentagon_thirds pentagon_taken 3 forwards

opposite_order : third_call (numbers (start_at 3 (walked backwards (points pentagon)))) ≡ accepted_thirds (thirds (negsuc 6247) (negsuc 9271) (negsuc 7275) (negsuc 3033))
unfolding directed_thirds
opposite_order = third_starts pentagon pentagon_thirds pentagon_taken 3 backwards

abbrev one_cut : Cut
one_cut = record { piece = 0; one = 2; other = 0 }

one-cut : plus_thirds (thirds_of (kept one_cut (points pentagon))) (thirds_of (others one_cut (points pentagon))) ≡ pentagon_thirds
unfolding points neighbours can_cut
one-cut = (third_cut pentagon pentagon_thirds pentagon_taken one_cut refl).sum

-- ---- any list that is accepted

module _ (zs : List ℤ) (t : ThirdTotals) (taken : third_call zs ≡ accepted_thirds t) where
  add_up : ThirdPiecesAddUp
  add_up = third_pieces_add_up

  any_sum : (cutting : List Cut) (start : ℕ → ℕ) → sum_of_thirds (map thirds_of (placed forwards start (pieces_of (points zs) cutting))) ≡ t
  unfolding directed_thirds
  any_sum cutting start = (add_up zs t taken cutting start forwards).sum

  any_backwards : (cutting : List Cut) (start : ℕ → ℕ) → sum_of_thirds (map thirds_of (placed backwards start (pieces_of (points zs) cutting))) ≡ record { xxx20 = neg_ℤ t.xxx20; xxy60 = neg_ℤ t.xxy60; xyy60 = neg_ℤ t.xyy60; yyy20 = neg_ℤ t.yyy20 }
  unfolding directed_thirds
  any_backwards cutting start = (add_up zs t taken cutting start backwards).sum

  any_piece : (cutting : List Cut) (start : ℕ → ℕ) (direction : Direction) (p : Piece) → Memᴰ p (placed direction start (pieces_of (points zs) cutting)) → (third_call (numbers p)).number ≡ 0
  any_piece cutting start direction p k = ap (λ (r : ThirdOutcome). r.number) ((add_up zs t taken cutting start direction).accepts p k)

  starts_law : ThirdStarts
  starts_law = third_starts

  any_start : (s : ℕ) → third_call (numbers (start_at s (points zs))) ≡ third_call zs
  unfolding walked directed_thirds
  any_start s = starts_law zs t taken s forwards ∙ sym taken

  any_opposite : (s : ℕ) → third_call (numbers (start_at s (walked backwards (points zs)))) ≡ accepted_thirds (record { xxx20 = neg_ℤ t.xxx20; xxy60 = neg_ℤ t.xxy60; xyy60 = neg_ℤ t.xyy60; yyy20 = neg_ℤ t.yyy20 })
  unfolding directed_thirds
  any_opposite s = starts_law zs t taken s backwards

  cut_law : ThirdCut
  cut_law = third_cut

  module _ (c : Cut) (can : can_cut (points zs ∷ []) c ≡ true) where
    any_cut : plus_thirds (thirds_of (kept c (points zs))) (thirds_of (others c (points zs))) ≡ t
    any_cut = (cut_law zs t taken c can).sum

    both_accepted : ((third_call (numbers (kept c (points zs)))).number ≡ 0) × ((third_call (numbers (others c (points zs)))).number ≡ 0)
    both_accepted = let r = cut_law zs t taken c can in (ap (λ (o : ThirdOutcome). o.number) r.kept-accepted, ap (λ (o : ThirdOutcome). o.number) r.others-accepted)

  formula_law : CallByFormula
  formula_law = call_by_formula

  any_by_formula : (t.xxx20 ≡ sum_over (eleven 20 3 0) (edges (points zs))) × (t.xxy60 ≡ sum_over (eleven 60 2 1) (edges (points zs))) × (t.xyy60 ≡ sum_over (eleven 60 1 2) (edges (points zs))) × (t.yyy20 ≡ sum_over (eleven 20 0 3) (edges (points zs)))
  any_by_formula =
      let same = formula_law zs t taken in
      (ap (λ (u : ThirdTotals). u.xxx20) same, ap (λ (u : ThirdTotals). u.xxy60) same, ap (λ (u : ThirdTotals). u.xyy60) same, ap (λ (u : ThirdTotals). u.yyy20) same)

-- ---- any list

module _ (zs : List ℤ) where
  refusals : ThirdRefusals
  refusals = third_refusals

  refusing : Refusing (third_call zs) (list_call zs).number (any_beyond 500 (points zs))
  refusing = refusals zs

  same_number : (list_call zs).number ≢ 0 → (third_call zs).number ≡ (list_call zs).number
  same_number = refusing.as_listed

  why_35 : (third_call zs).number ≡ 35 → ((list_call zs).number ≡ 0) × (any_beyond 500 (points zs) ≡ true)
  why_35 = refusing.with_35.0

  then_35 : (list_call zs).number ≡ 0 → any_beyond 500 (points zs) ≡ true → (third_call zs).number ≡ 35
  then_35 e f = refusing.with_35.1 (e, f)

  why_taken : (third_call zs).number ≡ 0 → ((list_call zs).number ≡ 0) × (any_beyond 500 (points zs) ≡ false)
  why_taken = refusing.taken.0

  then_taken : (list_call zs).number ≡ 0 → any_beyond 500 (points zs) ≡ false → (third_call zs).number ≡ 0
  then_taken e f = refusing.taken.1 (e, f)

  four-zeros : (third_call zs).number ≢ 0 → (third_call zs).totals ≡ thirds (pos 0) (pos 0) (pos 0) (pos 0)
  four-zeros = refusing.zeros

  sizes_law : ThirdSizes
  sizes_law = third_sizes

  -- The sizes, the numbers written out.
  sizes : (nat_abs (third_call zs).totals.xxx20 ≤ 256_000_000_000_000_000) × (nat_abs (third_call zs).totals.xxy60 ≤ 768_000_000_000_000_000) × (nat_abs (third_call zs).totals.xyy60 ≤ 768_000_000_000_000_000) × (nat_abs (third_call zs).totals.yyy20 ≤ 256_000_000_000_000_000)
  sizes = let s = sizes_law zs in (s.xxx20, s.xxy60, s.xyy60, s.yyy20)

-- ---- the formula

eleven_law : FormulaEleven
eleven_law = formula_eleven

module _ (a b : Position) where
  four_terms : four (λ t. t a b) ≡ record { xxx20 = eleven 20 3 0 a b; xxy60 = eleven 60 2 1 a b; xyy60 = eleven 60 1 2 a b; yyy20 = eleven 20 0 3 a b }
  four_terms = λ i. record { xxx20 = eleven_law.xxx.term a b i; xxy60 = eleven_law.xxy.term a b i; xyy60 = eleven_law.xyy.term a b i; yyy20 = eleven_law.yyy.term a b i }

  six_terms : six (λ t. t a b) ≡ record { a2 = eleven 2 0 0 a b; x6 = eleven 6 1 0 a b; y6 = eleven 6 0 1 a b; xx12 = eleven 12 2 0 a b; xy24 = eleven 24 1 1 a b; yy12 = eleven 12 0 2 a b }
  six_terms = λ i. record { a2 = eleven_law.area.term a b i; x6 = eleven_law.x.term a b i; y6 = eleven_law.y.term a b i; xx12 = eleven_law.xx.term a b i; xy24 = eleven_law.xy.term a b i; yy12 = eleven_law.yy.term a b i }

-- The sum of the remainders of all fractions of a moment.
abbrev remainders : ℕ → ℕ → ℕ → ℤ
remainders m p q = sum_to p (λ j. sum_to q (λ k. pos ((m * (choose p j * choose q k) * factorial (p + q)) % (choose (p + q) (j + k) * factorial (p + q + 2)))))

four-whole : (remainders 20 3 0 ≡ pos 0) × (remainders 60 2 1 ≡ pos 0) × (remainders 60 1 2 ≡ pos 0) × (remainders 20 0 3 ≡ pos 0)
four-whole = (eleven_law.xxx.whole, eleven_law.xxy.whole, eleven_law.xyy.whole, eleven_law.yyy.whole)

six-whole : (remainders 2 0 0 ≡ pos 0) × (remainders 6 1 0 ≡ pos 0) × (remainders 6 0 1 ≡ pos 0) × (remainders 12 2 0 ≡ pos 0) × (remainders 24 1 1 ≡ pos 0) × (remainders 12 0 2 ≡ pos 0)
six-whole = (eleven_law.area.whole, eleven_law.x.whole, eleven_law.y.whole, eleven_law.xx.whole, eleven_law.xy.whole, eleven_law.yy.whole)

-- Its parts, and moments of fourth order on the edge from (2,3) to (7,11): x⁴ times 30, x²y² times 180.
record Parts : Type 0 where
  binomials : map (choose 3) (0 ∷ 1 ∷ 2 ∷ 3 ∷ 4 ∷ []) ≡ 1 ∷ 3 ∷ 3 ∷ 1 ∷ 0 ∷ []
  factorials : map factorial (0 ∷ 1 ∷ 2 ∷ 5 ∷ []) ≡ 1 ∷ 1 ∷ 2 ∷ 120 ∷ []
  cube : power (negsuc 1) 3 ≡ negsuc 7
  fourth : eleven 30 4 0 (at (pos 2) (pos 3)) (at (pos 7) (pos 11)) ≡ pos 3355
  mixed : eleven 180 2 2 (at (pos 2) (pos 3)) (at (pos 7) (pos 11)) ≡ pos 49_270

parts : Parts
unfolding choose factorial power sum_to eleven
parts = record { binomials = refl; factorials = refl; cube = refl; fourth = refl; mixed = refl }
