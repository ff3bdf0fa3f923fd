-- The rules of a list: it breaks 6 or 7 just where some run of it does, and 8 by its length.
use mathlib.Core.Path.{◌≡◌, refl}
use mathlib.Core.Bool.{true, false, not}
use mathlib.Core.List.{List, [], ◌∷◌}
use Prim.Native.Nat.{zero, suc, ◌<◌, ◌≤◌}
use native.Mathlib.Omega.{arith}
use lib.ListN.{length}
use borrow.Author.Tests.{lt-ltb, le-ltb, ltb-false}
use Rattle.integers.proofs.Flags.{both_failed, neither}
use Rattle.cells.specs.declared.Run.{Run}
use Rattle.cells.specs.RegionCall.{bad_run, any_bad, lies_after, disordered, too_many, breaks_six, breaks_seven}
use Rattle.cells.specs.RegionLaws.{AllKeep}

-- ---- 6

pub none_bad : (rs : List Run) → AllKeep breaks_six rs → any_bad rs ≡ false
unfolding any_bad
none_bad [] good = refl
none_bad (r ∷ rs) good = neither (good 0 (omega arith)) (none_bad rs (λ i h. good (suc i) (omega arith)))

pub good_at : (rs : List Run) → any_bad rs ≡ false → AllKeep breaks_six rs
unfolding any_bad
good_at [] e i h = absurd (omega arith)
good_at (r ∷ rs) e zero h = (both_failed (bad_run r) (any_bad rs) e).0
good_at (r ∷ rs) e (suc i) h = good_at rs (both_failed (bad_run r) (any_bad rs) e).1 i (omega arith)

-- ---- 7

pub none-disordered : (rs : List Run) → AllKeep breaks_seven rs → disordered rs ≡ false
unfolding disordered
none-disordered [] after = refl
none-disordered (p ∷ []) after = refl
none-disordered (p ∷ r ∷ rs) after = neither (after 1 (omega arith)) (none-disordered (r ∷ rs) later)
  where
    later : AllKeep breaks_seven (r ∷ rs)
    later zero h = refl
    later (suc i) h = after (suc (suc i)) (omega arith)

pub ordered_at : (rs : List Run) → disordered rs ≡ false → AllKeep breaks_seven rs
unfolding disordered
ordered_at rs e zero h = refl
ordered_at [] e (suc i) h = absurd (omega arith)
ordered_at (p ∷ []) e (suc i) h = absurd (omega arith)
ordered_at (p ∷ r ∷ rs) e (suc zero) h = (both_failed (not (lies_after p r)) (disordered (r ∷ rs)) e).0
ordered_at (p ∷ r ∷ rs) e (suc (suc i)) h = ordered_at (r ∷ rs) (both_failed (not (lies_after p r)) (disordered (r ∷ rs)) e).1 (suc i) (omega arith)

-- ---- 8

pub few : (rs : List Run) → length rs ≤ 4096 → too_many rs ≡ false
unfolding too_many
few rs l = le-ltb _ (length rs) (omega arith)

pub many : (rs : List Run) → 4096 < length rs → too_many rs ≡ true
unfolding too_many
many rs l = lt-ltb _ (length rs) (omega arith)

pub not_many : (rs : List Run) → too_many rs ≡ false → length rs ≤ 4096
unfolding too_many
not_many rs e = ltb-false 4096 (length rs) e
