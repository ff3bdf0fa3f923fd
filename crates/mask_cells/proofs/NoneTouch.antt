-- A mask's longest runs are in order, and no two of them touch.
use mathlib.Core.Path.{◌≡◌, sym, ap, ◌∙◌}
use mathlib.Core.Bool.{true, false, false≢true}
use mathlib.Core.List.{List, [], ◌∷◌}
use mathlib.Core.Logic.{◌⊎◌, inl, inr}
use Prim.Native.Nat.{ℕ, zero, suc, ◌+◌, ◌≤◌, ◌<◌}
use native.Mathlib.Nat.{eq-or-lt_of_le}
use native.Mathlib.Omega.{arith}
use lib.ListN.{length}
use Rattle.cells.specs.declared.Run.{Run}
use Rattle.cells.specs.RegionCall.{run_at}
use Rattle.mask_cells.specs.MaskCells.{is_marked, longest_runs}
use Rattle.mask_cells.specs.MaskLaws.{Apart, InOrderApart, NoneTouch}
use Rattle.mask_cells.specs.private.Positions.{cell_of, row_end}
use Rattle.mask_cells.proofs.Positions.{positions}
use Rattle.mask_cells.proofs.RunSteps.{NextRun}
use Rattle.mask_cells.proofs.RunsFrom.{start_of, end_of, RunsFrom, longest_first}

-- ---- runs in turn

-- The first run of a list, if it has one, lies behind p and does not touch it.
abbrev pub NextApart : Run → List Run → Type 0
NextApart p [] = Unit {0}
NextApart p (r ∷ rs) = Apart p r

-- Any two runs in turn.
abbrev pub ApartInTurn : List Run → Type 0
ApartInTurn [] = Unit {0}
ApartInTurn (r ∷ rs) = NextApart r rs × ApartInTurn rs

apart_chain : (p q r : Run) → Apart p q → Apart q r → Apart p r
apart_chain p q r (inl h) (inl k) = inl (omega arith)
apart_chain p q r (inl h) (inr k) = inl (omega arith)
apart_chain p q r (inr h) (inl k) = inl (omega arith)
apart_chain p q r (inr h) (inr k) = inr (omega arith, omega arith)

apart_later : (p : Run) (rs : List Run) → NextApart p rs → ApartInTurn rs → (j : ℕ) → j < length rs → Apart p (run_at rs j)
apart_later p [] h a j l = absurd (omega arith)
apart_later p (r ∷ rs) h a zero l = h
apart_later p (r ∷ rs) h (k, a) (suc j) l = apart_chain p r (run_at rs j) h (apart_later r rs k a j (omega arith))

pub apart_any : (rs : List Run) → ApartInTurn rs → InOrderApart rs
apart_any [] a i j h l = absurd (omega arith)
apart_any (r ∷ rs) a i zero h l = absurd (omega arith)
apart_any (r ∷ rs) (k, a) zero (suc j) h l = apart_later r rs k a j (omega arith)
apart_any (r ∷ rs) (k, a) (suc i) (suc j) h l = apart_any rs a i j (omega arith) (omega arith)

pub apart_in_turn : (rs : List Run) → InOrderApart rs → ApartInTurn rs
apart_in_turn [] a = tt
apart_in_turn (r ∷ []) a = (tt, tt)
apart_in_turn (r ∷ q ∷ rs) a = (a 0 1 (omega arith) (omega arith), apart_in_turn (q ∷ rs) (λ i j h l. a (suc i) (suc j) (omega arith) (omega arith)))

-- ---- of a mask

module _ (ws : List ℕ) (end : ℕ) where
  -- The run after one that is the next from somewhere.
  next-apart : {g : ℕ} (p r : Run) → p.first + p.length ≤ 1024 → NextRun ws g (start_of p) (end_of p) end → r.first + r.length ≤ 1024 → NextRun ws (end_of p) (start_of r) (end_of r) end → Apart p r
  next-apart {g} p r row next row' then = go next.stops
    where
      -- A cell that the later run has is marked.
      marked_there : is_marked ws (cell_of (start_of r)) ≡ true
      marked_there = then.marked (start_of r) (omega arith) (omega (arith, then.nonempty))

      by_row : end_of p < start_of r → (p.row ≡ r.row) ⊎ (p.row < r.row) → Apart p r
      by_row h (inl same) = inr (same, omega arith)
      by_row h (inr below) = inl below

      by_place : is_marked ws (cell_of (end_of p)) ≡ false → (end_of p ≡ start_of r) ⊎ (end_of p < start_of r) → Apart p r
      by_place e (inl same) = absurd (false≢true (sym e ∙ ap (λ k. is_marked ws (cell_of k)) same ∙ marked_there))
      by_place e (inr behind) = by_row behind (eq-or-lt_of_le (omega (arith, then.nonempty, next.nonempty)))

      go : (end_of p ≡ row_end (start_of p)) ⊎ (is_marked ws (cell_of (end_of p)) ≡ false) → Apart p r
      go (inl at-end) = inl (omega (arith, then.from, then.nonempty, next.nonempty))
      go (inr e) = by_place e (eq-or-lt_of_le then.from)

  in_turn_from : (g : ℕ) (rs : List Run) → RunsFrom ws end g rs → ApartInTurn rs
  in_turn_from g [] none = tt
  in_turn_from g (r ∷ []) runs = (tt, tt)
  in_turn_from g (r ∷ q ∷ rs) (row, next, rest) = (next-apart r q row next rest.0 rest.1, in_turn_from (end_of r) (q ∷ rs) rest)

pub longest_in_turn : (ws : List ℕ) → ApartInTurn (longest_runs ws)
longest_in_turn ws = in_turn_from ws (positions ws) 0 (longest_runs ws) (longest_first ws)

pub none_touch : NoneTouch
none_touch ws = apart_any (longest_runs ws) (longest_in_turn ws)
