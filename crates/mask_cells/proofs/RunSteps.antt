-- The longest runs of a mask from a position on: the first of them, and those behind it.
use mathlib.Core.Path.{◌≡◌, refl, sym, ap, ap₂, ◌∙◌, subst}
use mathlib.Core.Bool.{Bool, true, false, not, ◌&&◌, cond, and-false, and-true}
use mathlib.Core.List.{List, [], ◌∷◌, map}
use mathlib.Core.Logic.{◌⊎◌, inl, inr}
use Prim.Native.Nat.{ℕ, zero, suc, ◌+◌, ◌-◌, ◌*◌, ◌/◌, ◌%◌, ◌≤◌, ◌<◌}
use native.Mathlib.Nat.{eq-or-lt_of_le, eq-zero-or-pos}
use native.Mathlib.Omega.{arith}
use borrow.Author.Tests.{eq-eqb, ne_eqb}
use Rattle.integers.specs.Search.{first_where}
use Rattle.integers.proofs.Searches.{found_at}
use Rattle.cells.specs.declared.Run.{Run}
use Rattle.mask_cells.specs.MaskCells.{cell_at, is_marked, those, begins_run, end_column, run_from}
use Rattle.mask_cells.specs.private.Positions.{cell_of, cells_on, row_end, run_between}
use Rattle.mask_cells.proofs.Positions.{cell_of_row}
use Rattle.mask_cells.proofs.Those.{Throughout, skipped, those-none}

module _ (ws : List ℕ) where
  -- No run covers both this position and the one before: if it is marked, a run begins there.
  abbrev pub Outside : ℕ → Type 0
  Outside g = begins_run ws (cell_of g) ≡ is_marked ws (cell_of g)

  pub outside_unmarked : (g : ℕ) → is_marked ws (cell_of g) ≡ false → Outside g
  unfolding begins_run
  outside_unmarked g e = rw e refl

  pub outside-row : (g : ℕ) → g % 1024 ≡ 0 → Outside g
  unfolding begins_run
  outside-row g e = rw (eq-eqb (g % 1024) 0 e) (and-true (is_marked ws (cell_of g)))

  -- The neighbour to the west, of a cell that is not the first of its row.
  west : (g : ℕ) → 0 < suc g % 1024 → cell_at (suc g / 1024) (suc g % 1024 - 1) ≡ cell_of g
  west g h =
      let row : suc g / 1024 ≡ g / 1024 = omega arith in
      let column : suc g % 1024 - 1 ≡ g % 1024 = omega arith in
      ap₂ cell_at row column

  begins_in_row : (g : ℕ) → 0 < suc g % 1024 → begins_run ws (cell_of (suc g)) ≡ is_marked ws (cell_of (suc g)) && not (is_marked ws (cell_of g))
  unfolding begins_run
  begins_in_row g h = rw (ne_eqb (suc g % 1024) 0 (λ e. omega arith), west g h) refl

  outside-after : (g : ℕ) → is_marked ws (cell_of g) ≡ false → Outside (suc g)
  outside-after g e = go (eq-zero-or-pos (suc g % 1024))
    where
      go : (suc g % 1024 ≡ 0) ⊎ (0 < suc g % 1024) → Outside (suc g)
      go (inl h) = outside-row (suc g) h
      go (inr h) = begins_in_row g h ∙ ap (λ b. is_marked ws (cell_of (suc g)) && not b) e ∙ and-true (is_marked ws (cell_of (suc g)))

  none_inside : (g : ℕ) → 0 < suc g % 1024 → is_marked ws (cell_of g) ≡ true → begins_run ws (cell_of (suc g)) ≡ false
  none_inside g h e = begins_in_row g h ∙ ap (λ b. is_marked ws (cell_of (suc g)) && not b) e ∙ and-false (is_marked ws (cell_of (suc g)))

  none_unmarked : (g : ℕ) → is_marked ws (cell_of g) ≡ false → begins_run ws (cell_of g) ≡ false
  none_unmarked g e = outside_unmarked g e ∙ e

  -- ---- the next run

  -- The positions from s up to e are the first longest run from g on, in a mask of so many positions.
  pub record NextRun (g s e end : ℕ) : Type 0 where
    pub from : g ≤ s
    pub nonempty : s < e
    pub in_row : e ≤ row_end s
    pub within : e ≤ end
    pub unmarked : Throughout (is_marked ws) false g (s - g)
    pub marked : Throughout (is_marked ws) true s (e - s)
    pub stops : (e ≡ row_end s) ⊎ (is_marked ws (cell_of e) ≡ false)

  pub outside-next : {g s e end : ℕ} → NextRun g s e end → Outside e
  outside-next {g} {s} {e} {end} r = go r.stops
    where
      go : (e ≡ row_end s) ⊎ (is_marked ws (cell_of e) ≡ false) → Outside e
      go (inl h) = outside-row e (omega arith)
      go (inr h) = outside_unmarked e h

  pub begins_there : {g s e end : ℕ} → Outside g → NextRun g s e end → begins_run ws (cell_of s) ≡ true
  begins_there {g} {s} {e} {end} out r = go s refl (eq-or-lt_of_le r.from) ∙ r.marked s (omega arith) (omega (arith, r.nonempty))
    where
      go : (t : ℕ) → t ≡ s → (g ≡ s) ⊎ (g < s) → Outside s
      go t same (inl h) = subst Outside h out
      go zero same (inr h) = absurd (omega arith)
      go (suc t) same (inr h) = subst Outside same (outside-after t (r.unmarked t (omega arith) (omega arith)))

  begun : {g s e end : ℕ} → Outside g → NextRun g s e end → those (begins_run ws) (cells_on g (end - g)) ≡ cell_of s ∷ those (begins_run ws) (cells_on e (end - e))
  unfolding those cells_on
  begun {g} {s} {e} {end} out r =
      let more : end - s ≡ suc (end - suc s) = omega (arith, r.nonempty, r.within) in
      skipped (begins_run ws) g s end r.from (omega (arith, r.nonempty, r.within)) (λ k l h. none_unmarked k (r.unmarked k l h))
      ∙ ap (λ n. those (begins_run ws) (cells_on s n)) more
      ∙ ap (λ b. cond b (cell_of s ∷ those (begins_run ws) (cells_on (suc s) (end - suc s))) (those (begins_run ws) (cells_on (suc s) (end - suc s)))) (begins_there out r)
      ∙ ap (λ cs. cell_of s ∷ cs) (skipped (begins_run ws) (suc s) e end r.nonempty r.within inside)
    where
      inside : Throughout (begins_run ws) false (suc s) (e - suc s)
      inside zero l h = absurd (omega arith)
      inside (suc k) l h = none_inside k (omega (arith, r.nonempty, r.in_row)) (r.marked k (omega arith) (omega (arith, r.nonempty)))

  run_is : {g s e end : ℕ} → NextRun g s e end → run_from ws (cell_of s) ≡ run_between s e
  unfolding end_column
  run_is {g} {s} {e} {end} r = ap (λ k. record { row = s / 1024; first = s % 1024; length = k - s % 1024 }) column ∙ ap (λ k. record { row = s / 1024; first = s % 1024; length = k }) (omega arith)
    where
      stop : ℕ → Bool
      stop x = not (is_marked ws (cell_at (s / 1024) x))

      at-column : (x : ℕ) → x < 1024 → stop x ≡ not (is_marked ws (cell_of (1024 * (s / 1024) + x)))
      at-column x h = ap (λ c. not (is_marked ws c)) (sym (cell_of_row (s / 1024) x h))

      goes : (j : ℕ) → s % 1024 ≤ j → j < e - 1024 * (s / 1024) → stop j ≡ false
      goes j l h = at-column j (omega (arith, r.in_row)) ∙ ap not (r.marked (1024 * (s / 1024) + j) (omega arith) (omega (arith, r.nonempty)))

      ends : (e ≡ row_end s) ⊎ (is_marked ws (cell_of e) ≡ false) → (e - 1024 * (s / 1024) ≡ s % 1024 + (1024 - s % 1024)) ⊎ (stop (e - 1024 * (s / 1024)) ≡ true)
      ends (inl h) = inl (omega arith)
      ends (inr h) = by_place (eq-or-lt_of_le r.in_row)
        where
          by_place : (e ≡ row_end s) ⊎ (e < row_end s) → (e - 1024 * (s / 1024) ≡ s % 1024 + (1024 - s % 1024)) ⊎ (stop (e - 1024 * (s / 1024)) ≡ true)
          by_place (inl k) = inl (omega arith)
          by_place (inr k) =
              let same : 1024 * (s / 1024) + (e - 1024 * (s / 1024)) ≡ e = omega (arith, r.nonempty) in
              inr (at-column (e - 1024 * (s / 1024)) (omega (arith, r.nonempty)) ∙ ap (λ p. not (is_marked ws (cell_of p))) same ∙ ap not h)

      column : first_where stop (1024 - s % 1024) (s % 1024) ≡ e - 1024 * (s / 1024)
      column = found_at stop (1024 - s % 1024) (s % 1024) (e - 1024 * (s / 1024)) (omega (arith, r.nonempty)) (omega (arith, r.in_row)) goes (ends r.stops)

  -- ---- the runs from a position on

  abbrev pub runs_on : ℕ → ℕ → List Run
  runs_on g end = map (run_from ws) (those (begins_run ws) (cells_on g (end - g)))

  pub runs-step : {g s e end : ℕ} → Outside g → NextRun g s e end → runs_on g end ≡ run_between s e ∷ runs_on e end
  runs-step {g} {s} {e} {end} out r = ap (map (run_from ws)) (begun out r) ∙ ap (λ q. q ∷ runs_on e end) (run_is r)

  pub runs_none : (g end : ℕ) → Throughout (is_marked ws) false g (end - g) → runs_on g end ≡ []
  runs_none g end none = ap (map (run_from ws)) (those-none (begins_run ws) g (end - g) (λ k l h. none_unmarked k (none k l h)))
