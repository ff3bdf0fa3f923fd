-- Sums over the edges of a list of points, point by point as a loop takes them; for any record of sums, one for each of its edge terms.
use mathlib.Core.Path.{◌≡◌, refl, sym, ◌∙◌}
use mathlib.Core.List.{List, [], ◌∷◌}
use Prim.Native.Nat.{ℕ, zero, suc, ◌+◌, ◌-◌, ◌<◌, ◌≤◌}
use native.Mathlib.Nat.{not-suc-le-zero}
use native.Mathlib.Numerals.{add-one}
use native.Mathlib.Omega.{arith}
use lib.IntN.{ℤ, pos, ◌+ℤ◌}
use lib.ListN.{length, get_or, take}
use lib.Seq.{take-length}
use Rattle.outline.specs.declared.Position.{Position}
use Rattle.outline.specs.EdgeSums.{Term, open_edges, sum_over}
use Rattle.outline.specs.WalkCalls.{origin}
use Rattle.outline.proofs.EdgeSumLaws.{path, around}
use Rattle.outline.proofs.IndexLaws.{path_next, around_closing}

-- A record made of one number for each of its terms; two are added number by number.
module _ {R : Type 0} (each : (Term → ℤ) → R) (add : R → R → R) (adds : (f g : Term → ℤ) → add (each f) (each g) ≡ each (λ t. f t +ℤ g t)) where
  -- Of the points ps, the first k are walked, and sum has the sums over their edges.
  pub record Summed (ps : List Position) (sum : R) (k : ℕ) : Type 0 where
    pub is : sum ≡ each (λ t. path t (take k ps))
    pub some : 0 < k
    pub most : k ≤ length ps

  no_edges : (ps : List Position) → each (λ t. pos 0) ≡ each (λ t. path t (take 1 ps))
  unfolding open_edges sum_over
  no_edges [] = refl
  no_edges (p ∷ ps) = refl

  -- The first point alone has no edge.
  pub summed_first : (ps : List Position) → 0 < length ps → Summed ps (each (λ t. pos 0)) 1
  summed_first ps h = record { is = no_edges ps; some = omega arith; most = h }

  with_edge : {f : Term → ℤ} {a b last p : Position} {sum r : R} → sum ≡ each f → last ≡ a → p ≡ b → r ≡ add sum (each (λ t. t last p)) → r ≡ each (λ t. f t +ℤ t a b)
  with_edge {f} {a} {b} c d e g = rw (g, c, d, e) (adds f (λ t. t a b))

  -- The point p after the first k, of which last is the last one.
  pub summed_next : (ps : List Position) (k : ℕ) {last p : Position} {sum r : R} → Summed ps sum k → k < length ps → last ≡ get_or ps (k - 1) origin → p ≡ get_or ps k origin → r ≡ add sum (each (λ t. t last p)) → Summed ps r (k + 1)
  summed_next ps zero s l a b e = absurd (not-suc-le-zero s.some)
  summed_next ps (suc k) s l a b e =
      let back : suc k - 1 ≡ k = omega arith in
      record {
        is = with_edge {f = λ t. path t (take (suc k) ps)} s.is (rw back at a) b e ∙ sym (rw add-one (λ i. each (λ t. path_next t ps k origin l i)));
        some = omega arith;
        most = omega (arith, l);
      }

  -- All points are walked, and the closing edge comes last.
  pub summed_closed : (ps : List Position) (k : ℕ) {last first : Position} {sum r : R} → Summed ps sum k → k ≡ length ps → last ≡ get_or ps (k - 1) origin → first ≡ get_or ps 0 origin → r ≡ add sum (each (λ t. t last first)) → r ≡ each (λ t. around t ps)
  summed_closed ps k s l a b e =
      with_edge {f = λ t. path t ps} (rw (l, take-length ps) at s.is) (rw l at a) b e ∙ sym (λ i. each (λ t. around_closing t ps origin (omega (arith, s.some, l)) i))
