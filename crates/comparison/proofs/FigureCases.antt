-- What the comparison answers by what the call on a whole list answers for each walk.
use mathlib.Core.Path.{◌≡◌, refl, sym, ap}
use mathlib.Core.Bool.{false}
use mathlib.Core.List.{List}
use Prim.Native.Nat.{ℕ, ◌<◌}
use lib.Dec.{eqb}
use lib.IntN.{ℤ}
use lib.ListN.{length}
use Rattle.outline.specs.declared.Totals.{Totals}
use Rattle.outline.specs.ListCall.{accepted, refused, points, any_outside, list_call}
use Rattle.outline.proofs.Limits.{none-beyond}
use Rattle.outline_answers.specs.declared.OutlineRefusal.{OutlineRefusal}
use Rattle.outline_answers.specs.declared.OutlineRefusal.TheVariants.{WrongLength, OutsideLimits}
use Rattle.outline_answers.specs.ListAnswer.{list_number}
use Rattle.two_walks.specs.Distances.{squared_hausdorff}
use Rattle.two_walks.specs.Comparison.{FiguresOutcome, minus, no_figures, comparison_number, figures_call}
use Rattle.two_walks.proofs.Refusals.{taken-outline, some_points}

abbrev refusal : OutlineRefusal → FiguresOutcome
refusal r = record { number = list_number r; figures = no_figures }

some_number : (r : OutlineRefusal) → eqb (list_number r) 0 ≡ false
some_number WrongLength = refl
some_number OutsideLimits = refl

pub first-refused : (zs ws : List ℤ) (r : OutlineRefusal) → refused (list_number r) ≡ list_call zs → refusal r ≡ figures_call zs ws
unfolding comparison_number figures_call
first-refused zs ws r e = let b = some_number r in rw (← e, b, b)

pub second-refused : (zs ws : List ℤ) (r : OutlineRefusal) {s : Totals} → accepted s ≡ list_call zs → refused (list_number r) ≡ list_call ws → refusal r ≡ figures_call zs ws
unfolding comparison_number figures_call
second-refused zs ws r e f = let b = some_number r in rw (← e, ← f, b)

pub both_accepted : (zs ws : List ℤ) {s t d : Totals} {m n : ℕ} → accepted s ≡ list_call zs → accepted t ≡ list_call ws → d ≡ minus s t → m ≡ squared_hausdorff (points zs) (points ws) → n ≡ squared_hausdorff (points ws) (points zs) → ◌≡◌ {A = FiguresOutcome} (record { number = 0; figures = record { differences = d; forward = m; backward = n } }) (figures_call zs ws)
unfolding comparison_number figures_call
both_accepted zs ws e f g h k = rw (← e, ← f, g, h, k)

-- ---- what the distances ask

-- An accepted walk has points, and none of them is outside the limits.
pub points_inside : (zs : List ℤ) {t : Totals} → accepted t ≡ list_call zs → (0 < length (points zs)) × (any_outside (points zs) ≡ false)
points_inside zs e = let taken = ap (λ o. o.number) (sym e) in (some_points zs taken, none-beyond 2000 (points zs) (taken-outline zs taken).outline.inside)
