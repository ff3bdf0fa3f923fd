-- Two lists that the comparison takes, and two that it refuses.
use Prim.Native.Nat.{ℕ, zero, suc, ◌<◌}
use mathlib.Core.Path.{◌≡◌, refl, sym, ◌∙◌}
use mathlib.Core.Bool.{false}
use mathlib.Core.List.{List, []}
use mathlib.Core.Logic.{◌≢◌, ◌↔◌}
use native.Mathlib.Omega.{arith}
use lib.IntN.{ℤ}
use lib.ListN.{length}
use borrow.Author.Tests.{eq-eqb, ne_eqb}
use Rattle.outline.specs.ListCall.{accepted, points, list_call}
use Rattle.outline.proofs.Limits.{OutlineList, accepts_only_outlines}
use Rattle.two_walks.specs.Comparison.{comparison_number, figures_of, no_figures, figures_call, part_of}
use Rattle.two_walks.specs.ComparisonLaws.{RefusedWalks}

-- ---- the number

-- What holds with a refusal and without one holds.
pub by_number : (n : ℕ) {G : Type 0} → (n ≡ 0 → G) → (n ≢ 0 → G) → G
by_number zero taken refused = taken refl
by_number (suc n) taken refused = refused (λ e. omega arith)

by_first : (first second : List ℤ) → (list_call first).number ≢ 0 → comparison_number first second ≡ (list_call first).number
unfolding comparison_number
by_first first second n = rw (ne_eqb (list_call first).number 0 n)

by_second : (first second : List ℤ) → (list_call first).number ≡ 0 → comparison_number first second ≡ (list_call second).number
unfolding comparison_number
by_second first second e = rw (eq-eqb (list_call first).number 0 e)

pub taken : (first second : List ℤ) → (comparison_number first second ≡ 0) ↔ (((list_call first).number ≡ 0) × ((list_call second).number ≡ 0))
taken first second = (
  λ e. by_number (list_call first).number (λ f. (f, sym (by_second first second f) ∙ e)) (λ n. absurd (n (sym (by_first first second n) ∙ e))),
  λ e. by_second first second e.0 ∙ e.1,
)

pub taken_as : (zs : List ℤ) → (list_call zs).number ≡ 0 → list_call zs ≡ accepted (list_call zs).totals
taken_as zs e = λ i. record { number = e i; totals = (list_call zs).totals }

-- A list that the call on a whole list takes is an outline.
pub taken-outline : (zs : List ℤ) → (list_call zs).number ≡ 0 → OutlineList zs
taken-outline zs e = (accepts_only_outlines zs (list_call zs).totals (taken_as zs e)).0

-- It has points.
pub some_points : (zs : List ℤ) → (list_call zs).number ≡ 0 → 0 < length (points zs)
some_points zs e = let o = taken-outline zs e in omega (arith, o.outline.enough)

-- ---- the figures and the part

pub compared : (first second : List ℤ) → comparison_number first second ≡ 0 → (figures_call first second).figures ≡ figures_of first second
unfolding figures_call
compared first second e = rw (eq-eqb (comparison_number first second) 0 e)

pub not_compared_lem : (first second : List ℤ) → comparison_number first second ≢ 0 → (figures_call first second).figures ≡ no_figures
unfolding figures_call
not_compared_lem first second n = rw (ne_eqb (comparison_number first second) 0 n)

pub no_part : (first second : List ℤ) → comparison_number first second ≢ 0 → part_of first second ≡ record { of_second = false; numbers = [] }
unfolding part_of
no_part first second n = rw (ne_eqb (comparison_number first second) 0 n)

pub refused_walks : RefusedWalks
unfolding figures_call
refused_walks first second = record { number = refl; taken = taken first second; by_first = by_first first second; by_second = by_second first second; figures = not_compared_lem first second; part = no_part first second }
