-- The old sums of two lists of cells add up, and how large those of cells of the grid are.
use mathlib.Core.Path.{◌≡◌, refl, sym, ◌∙◌, ap}
use mathlib.Core.List.{List, [], ◌∷◌, ◌++◌}
use Prim.Native.Nat.{ℕ, suc, ◌+◌, ◌≤◌}
use native.Mathlib.Nat.{mul-le-mul}
use native.Mathlib.Omega.{arith}
use lib.IntN.{pos, ◌+ℤ◌, +ℤ_assoc, +ℤ_idl}
use lib.ListN.{length}
use Rattle.integers.proofs.Order.{nat_abs_add}
use Rattle.cell_ground.specs.CellSums.{Cell, CellSums, cell_terms, no_sums, plus_sums, sums_over}
use Rattle.cell_ground.specs.GroundLaws.{InGrid, AllInGrid}
use Rattle.cell_ground.specs.private.SumBounds.{SumsWithin}

-- ---- two lists

plus_none : (s : CellSums) → s ≡ plus_sums no_sums s
plus_none s = λ i. record { count = sym (+ℤ_idl s.count) i; x = sym (+ℤ_idl s.x) i; y = sym (+ℤ_idl s.y) i; xx = sym (+ℤ_idl s.xx) i; xy = sym (+ℤ_idl s.xy) i; yy = sym (+ℤ_idl s.yy) i }

plus_assoc : (s t u : CellSums) → plus_sums (plus_sums s t) u ≡ plus_sums s (plus_sums t u)
plus_assoc s t u =
    λ i. record {
      count = +ℤ_assoc s.count t.count u.count i;
      x = +ℤ_assoc s.x t.x u.x i;
      y = +ℤ_assoc s.y t.y u.y i;
      xx = +ℤ_assoc s.xx t.xx u.xx i;
      xy = +ℤ_assoc s.xy t.xy u.xy i;
      yy = +ℤ_assoc s.yy t.yy u.yy i;
    }

pub sums-append : (cs ds : List Cell) → sums_over (cs ++ ds) ≡ plus_sums (sums_over cs) (sums_over ds)
unfolding sums_over
sums-append [] ds = plus_none (sums_over ds)
sums-append (c ∷ cs) ds = ap (plus_sums (cell_terms c)) (sums-append cs ds) ∙ sym (plus_assoc (cell_terms c) (sums_over cs) (sums_over ds))

-- ---- how many

-- The first of the sums over cells is how many they are.
pub count_cells : (cs : List Cell) → (sums_over cs).count ≡ pos (length cs)
unfolding sums_over
count_cells [] = refl
count_cells (c ∷ cs) =
    let more : 1 + length cs ≡ suc (length cs) = omega arith in
    ap (λ z. pos 1 +ℤ z) (count_cells cs) ∙ ap pos more

-- ---- how large

pub widen : {m n : ℕ} {s : CellSums} → m ≤ n → SumsWithin m s → SumsWithin n s
widen h w = record { count = omega arith; x = omega arith; y = omega arith; xx = omega arith; xy = omega arith; yy = omega arith }

plus_within : {m n : ℕ} {s t : CellSums} → SumsWithin m s → SumsWithin n t → SumsWithin (m + n) (plus_sums s t)
plus_within {s = s} {t = t} v w =
    record {
      count = omega (arith, nat_abs_add s.count t.count);
      x = omega (arith, nat_abs_add s.x t.x);
      y = omega (arith, nat_abs_add s.y t.y);
      xx = omega (arith, nat_abs_add s.xx t.xx);
      xy = omega (arith, nat_abs_add s.xy t.xy);
      yy = omega (arith, nat_abs_add s.yy t.yy);
    }

cell_within : (c : Cell) → InGrid c → SumsWithin 1 (cell_terms c)
cell_within c g =
    let x : c.x ≤ 1023 = omega (arith, g.column) in
    let y : c.y ≤ 1023 = omega (arith, g.row) in
    record {
      count = omega arith;
      x = omega arith;
      y = omega arith;
      xx = omega (arith, mul-le-mul x x);
      xy = omega (arith, mul-le-mul x y);
      yy = omega (arith, mul-le-mul y y);
    }

pub sums_within : (cs : List Cell) → AllInGrid cs → SumsWithin (length cs) (sums_over cs)
unfolding sums_over
sums_within [] all = record { count = omega arith; x = omega arith; y = omega arith; xx = omega arith; xy = omega arith; yy = omega arith }
sums_within (c ∷ cs) all = widen (omega arith) (plus_within (cell_within c (all 0 (omega arith))) (sums_within cs (λ i h. all (suc i) (omega arith))))
