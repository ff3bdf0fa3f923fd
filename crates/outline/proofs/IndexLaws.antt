-- Points and sums by index: what a loop over a list of numbers goes by.
use mathlib.Core.Path.{◌≡◌, refl, sym, ◌∙◌, ap, ap₂}
use mathlib.Core.List.{List, [], ◌∷◌, ◌++◌}
use mathlib.Core.Logic.{◌≢◌}
use Prim.Native.Nat.{ℕ, zero, suc, ◌+◌, ◌*◌, ◌-◌, ◌/◌, ◌%◌, ◌<◌}
use native.Mathlib.Nat.{not-suc-le-zero, le_of_suc-le-suc}
use native.Mathlib.Omega.{arith}
use lib.IntN.{ℤ, pos, ◌+ℤ◌, +ℤ_idl, +ℤ_idr, +ℤ_assoc}
use lib.ListN.{length, get_or, take}
use Rattle.outline.specs.declared.Position.{Position}
use Rattle.outline.specs.EdgeSums.{Term, six, open_edges, edges, sum_over, totals_over, plus}
use Rattle.outline.specs.ListCall.{points, numbers}
use Rattle.outline.specs.WalkCalls.{edge_totals}
use Rattle.outline.proofs.EdgeSumLaws.{path, around}

-- ---- sums

-- One point more: the open edges of the first k + 2 points, by those of the first k + 1.
pub path_next : (t : Term) (ps : List Position) (k : ℕ) (d : Position) → suc k < length ps → path t (take (suc (suc k)) ps) ≡ path t (take (suc k) ps) +ℤ t (get_or ps k d) (get_or ps (suc k) d)
unfolding open_edges sum_over
path_next t [] k d h = absurd (not-suc-le-zero h)
path_next t (a ∷ []) k d h = absurd (omega arith)
path_next t (a ∷ b ∷ ps) zero d h = +ℤ_idr (t a b) ∙ sym (+ℤ_idl (t a b))
path_next t (a ∷ b ∷ ps) (suc k) d h =
    ap (λ z. t a b +ℤ z) (path_next t (b ∷ ps) k d (le_of_suc-le-suc h))
    ∙ sym (+ℤ_assoc (t a b) (path t (take (suc k) (b ∷ ps))) (t (get_or (b ∷ ps) k d) (get_or (b ∷ ps) (suc k) d)))

-- A point after the last one.
pub path_snoc : (t : Term) (a : Position) (ps : List Position) (p d : Position) → path t (a ∷ ps ++ p ∷ []) ≡ path t (a ∷ ps) +ℤ t (get_or (a ∷ ps) (length ps) d) p
unfolding open_edges sum_over
path_snoc t a [] p d = +ℤ_idr (t a p) ∙ sym (+ℤ_idl (t a p))
path_snoc t a (b ∷ ps) p d = ap (λ z. t a b +ℤ z) (path_snoc t b ps p d) ∙ sym (+ℤ_assoc (t a b) (path t (b ∷ ps)) (t (get_or (b ∷ ps) (length ps) d) p))

-- The closing edge.
pub around_closing : (t : Term) (ps : List Position) (d : Position) → 0 < length ps → around t ps ≡ path t ps +ℤ t (get_or ps (length ps - 1) d) (get_or ps 0 d)
unfolding edges
around_closing t [] d h = absurd (not-suc-le-zero h)
around_closing t (a ∷ ps) d h = path_snoc t a ps a d ∙ ap (λ k. path t (a ∷ ps) +ℤ t (get_or (a ∷ ps) k d) a) last
  where
    last : length ps ≡ suc (length ps) - 1
    last = omega arith

-- A point after the last one, of all six totals.
pub totals_snoc : (a : Position) (ps : List Position) (p d : Position) → totals_over (open_edges (a ∷ ps ++ p ∷ [])) ≡ plus (totals_over (open_edges (a ∷ ps))) (edge_totals (get_or (a ∷ ps) (length ps) d) p)
totals_snoc a ps p d = λ i. six (λ t. path_snoc t a ps p d i)

-- ---- points and numbers

pub length-points : (zs : List ℤ) → length (points zs) ≡ length zs / 2
unfolding points
length-points [] = refl
length-points (x ∷ []) = refl
length-points (x ∷ y ∷ zs) = omega (arith, length-points zs)

pub points-at : (zs : List ℤ) (k : ℕ) (d : Position) → 2 * k + 1 < length zs → get_or (points zs) k d ≡ record { x = get_or zs (2 * k) (pos 0); y = get_or zs (2 * k + 1) (pos 0) }
unfolding points
points-at [] k d h = absurd (not-suc-le-zero h)
points-at (x ∷ []) k d h = absurd (omega arith)
points-at (x ∷ y ∷ zs) zero d h = refl
points-at (x ∷ y ∷ zs) (suc k) d h = points-at zs k d (omega arith) ∙ ap₂ {C = Position} (λ i j. record { x = get_or (x ∷ y ∷ zs) i (pos 0); y = get_or (x ∷ y ∷ zs) j (pos 0) }) even odd
  where
    even : suc (suc (2 * k)) ≡ 2 * suc k
    even = omega arith

    odd : suc (suc (2 * k + 1)) ≡ 2 * suc k + 1
    odd = omega arith

pub points-numbers : (ps : List Position) → points (numbers ps) ≡ ps
unfolding points numbers
points-numbers [] = refl
points-numbers (a ∷ ps) = ap {B = List Position} (λ l. a ∷ l) (points-numbers ps)

pub numbers-points : (zs : List ℤ) → length zs % 2 ≢ 1 → numbers (points zs) ≡ zs
unfolding points numbers
numbers-points [] e = refl
numbers-points (x ∷ []) e = absurd (e refl)
numbers-points (x ∷ y ∷ zs) e = ap {B = List ℤ} (λ l. x ∷ y ∷ l) (numbers-points zs (omega arith))

pub length-numbers : (ps : List Position) → length (numbers ps) ≡ 2 * length ps
unfolding numbers
length-numbers [] = refl
length-numbers (a ∷ ps) = omega (arith, length-numbers ps)
