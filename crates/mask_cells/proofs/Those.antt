-- Which cells of a list a test keeps: none where it fails everywhere, all where it holds everywhere, and the same of two lists as of each; never more than there are.
use mathlib.Core.Path.{◌≡◌, refl, ap, ap₂, ◌∙◌}
use mathlib.Core.Bool.{Bool, true, false, cond}
use mathlib.Core.List.{List, [], ◌∷◌, ◌++◌}
use Prim.Native.Nat.{ℕ, zero, suc, ◌+◌, ◌-◌, ◌≤◌, ◌<◌}
use native.Mathlib.Omega.{arith}
use lib.ListN.{length}
use Rattle.outline.proofs.Every.{All}
use Rattle.cell_ground.specs.CellSums.{Cell}
use Rattle.mask_cells.specs.MaskCells.{those}
use Rattle.mask_cells.specs.private.Positions.{cell_of, cells_on}
use Rattle.mask_cells.proofs.Positions.{cells_append}

module _ (p : Cell → Bool) where
  pub those-append : (cs ds : List Cell) → those p (cs ++ ds) ≡ those p cs ++ those p ds
  unfolding those
  those-append [] ds = refl
  those-append (c ∷ cs) ds = go (p c) (those-append cs ds)
    where
      go : (b : Bool) → those p (cs ++ ds) ≡ those p cs ++ those p ds → cond b (c ∷ those p (cs ++ ds)) (those p (cs ++ ds)) ≡ cond b (c ∷ those p cs) (those p cs) ++ those p ds
      go true e = ap (λ ks. c ∷ ks) e
      go false e = e

  -- The test gives b at each of n positions from g on.
  abbrev pub Throughout : Bool → ℕ → ℕ → Type 0
  Throughout b g n = (k : ℕ) → g ≤ k → k < g + n → p (cell_of k) ≡ b

  later : (b : Bool) (g n : ℕ) → Throughout b g (suc n) → Throughout b (suc g) n
  later b g n h k l m = h k (omega arith) (omega arith)

  pub those-none : (g n : ℕ) → Throughout false g n → those p (cells_on g n) ≡ []
  unfolding those cells_on
  those-none g zero h = refl
  those-none g (suc n) h = rw (h g (omega arith) (omega arith)) (those-none (suc g) n (later false g n h))

  pub those_all : (g n : ℕ) → Throughout true g n → those p (cells_on g n) ≡ cells_on g n
  unfolding those cells_on
  those_all g zero h = refl
  those_all g (suc n) h = rw (h g (omega arith) (omega arith)) (ap (λ cs. cell_of g ∷ cs) (those_all (suc g) n (later true g n h)))

  -- Positions in two parts.
  pub in_parts : (g m n s : ℕ) → g + m ≡ s → those p (cells_on g (m + n)) ≡ those p (cells_on g m) ++ those p (cells_on s n)
  in_parts g m n s e = ap (those p) (cells_append g m n) ∙ those-append (cells_on g m) (cells_on (g + m) n) ∙ ap (λ h. those p (cells_on g m) ++ those p (cells_on h n)) e

  -- Nothing up to s.
  pub skipped : (g s end : ℕ) → g ≤ s → s ≤ end → Throughout false g (s - g) → those p (cells_on g (end - g)) ≡ those p (cells_on s (end - s))
  skipped g s end h k none =
      let parts : end - g ≡ (s - g) + (end - s) = omega arith in
      ap (λ n. those p (cells_on g n)) parts ∙ in_parts g (s - g) (end - s) s (omega arith) ∙ ap (λ cs. cs ++ those p (cells_on s (end - s))) (those-none g (s - g) none)

  -- All up to e.
  pub taken : (s e end : ℕ) → s ≤ e → e ≤ end → Throughout true s (e - s) → those p (cells_on s (end - s)) ≡ cells_on s (e - s) ++ those p (cells_on e (end - e))
  taken s e end h k all =
      let parts : end - s ≡ (e - s) + (end - e) = omega arith in
      ap (λ n. those p (cells_on s n)) parts ∙ in_parts s (e - s) (end - e) e (omega arith) ∙ ap (λ cs. cs ++ those p (cells_on e (end - e))) (those_all s (e - s) all)

  -- ---- of cells at n positions from g on

  pub few_those : (g n : ℕ) → length (those p (cells_on g n)) ≤ n
  unfolding those cells_on
  few_those g zero = omega arith
  few_those g (suc n) = go (p (cell_of g)) (few_those (suc g) n)
    where
      rest : List Cell
      rest = those p (cells_on (suc g) n)

      go : (b : Bool) → length rest ≤ n → length (cond b (cell_of g ∷ rest) rest) ≤ suc n
      go true h = omega arith
      go false h = omega arith

  -- What holds at each of the positions holds of the cells that are kept.
  pub those_have : (P : Cell → Type 0) (g n : ℕ) → ((k : ℕ) → g ≤ k → k < g + n → P (cell_of k)) → All P (those p (cells_on g n))
  unfolding those cells_on
  those_have P g zero h = tt
  those_have P g (suc n) h = go (p (cell_of g)) (those_have P (suc g) n (λ k l m. h k (omega arith) (omega arith)))
    where
      rest : List Cell
      rest = those p (cells_on (suc g) n)

      go : (b : Bool) → All P rest → All P (cond b (cell_of g ∷ rest) rest)
      go true all = (h g (omega arith) (omega arith), all)
      go false all = all

-- Two tests that agree at each of the positions keep the same cells.
pub same_those : (p q : Cell → Bool) (g n : ℕ) → ((k : ℕ) → g ≤ k → k < g + n → p (cell_of k) ≡ q (cell_of k)) → those p (cells_on g n) ≡ those q (cells_on g n)
unfolding those cells_on
same_those p q g zero h = refl
same_those p q g (suc n) h = ap₂ (λ b cs. cond b (cell_of g ∷ cs) cs) (h g (omega arith) (omega arith)) (same_those p q (suc g) n (λ k l m. h k (omega arith) (omega arith)))
