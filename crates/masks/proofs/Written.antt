-- The writer's list: once as many runs are stored as were counted, it is the definition's.
use mathlib.Core.Path.{◌≡◌, refl, sym, ap, ap₂, ◌∙◌}
use mathlib.Core.Bool.{Bool, true, false, ◌||◌}
use mathlib.Core.List.{List, [], ◌∷◌, ◌++◌, append_assoc, append-nil}
use Prim.Native.Nat.{ℕ, ◌+◌, ◌≤◌, ◌<◌, min}
use native.Mathlib.Omega.{arith}
use lib.Dec.{ltb}
use lib.ListN.{length, get_or, set, take, drop, length-drop}
use lib.Seq.{set-append_seam, drop-cons}
use native.Mathlib.Numerals.{add-one}
use Rattle.std.proofs.lemmas.List.{take_more, take_all, drop_all, length-take-le}
use borrow.Author.Tests.{lt-ltb, le-ltb, ltb-true, ltb-false}
use Rattle.std.specs.Prelude.{Ok, Err, None, Some}
use Rattle.cells.specs.declared.Run.{Run}
use Rattle.cells.specs.RegionCall.{too_many}
use Rattle.mask_cells.specs.MaskCells.{longest_runs}
use Rattle.mask_cells.specs.MaskCalls.{wrong_length, nothing_written, too_many_for, mask_runs_call}
use Rattle.masks.specs.declared.MaskRunsRefusal.{MaskRunsRefusal}
use Rattle.masks.specs.declared.MaskRunsRefusal.TheVariants.{TooManyRuns}
use Rattle.masks.specs.MaskAnswers.{runs_number}
use Rattle.masks.specs.private.Scan.{next_run, counted_runs, to_write}
use Rattle.masks.specs.declared.scan.Found.{Found}
use Rattle.masks.proofs.RunsLeft.{left, Between, none_left, one_taken, first_position, all_left}

-- ---- the runs are stored one after another

-- One run more at the front of the list.
next_place : (rs before : List Run) (i : ℕ) (d : Run) → i < length rs → i < length before → set (take i rs ++ drop i before) i (get_or rs i d) ≡ take (i + 1) rs ++ drop (i + 1) before
next_place rs before i d h l =
    let long : length (take i rs) ≡ i = omega (arith, length-take-le i rs) in
    let rest : drop i before ≡ get_or before i d ∷ drop (i + 1) before = rw (add-one, drop-cons before i d) in
    ap₂ (λ (ks : List Run) (k : ℕ). set (take i rs ++ ks) k (get_or rs i d)) rest (sym long)
    ∙ set-append_seam (take i rs) (get_or before i d) (drop (i + 1) before) (get_or rs i d)
    ∙ sym (append_assoc (take i rs) (get_or rs i d ∷ []) (drop (i + 1) before))
    ∙ ap (λ ks. ks ++ drop (i + 1) before) (sym (take_more rs i d h))

-- What stands where i runs are stored, and the others are left from a position on.
pub record Stored (ws : List ℕ) (before after : List Run) (i at : ℕ) : Type 0 where
  pub few : i ≤ length (longest_runs ws)
  pub list : after ≡ take i (longest_runs ws) ++ drop i before
  pub others : left ws at ≡ drop i (longest_runs ws)
  pub between : Between ws at

module _ (ws : List ℕ) (before : List Run) where
  abbrev runs : List Run
  runs = longest_runs ws

  pub none_stored : wrong_length (length ws) ≡ false → Stored ws before before 0 0
  none_stored h = record { few = omega arith; list = refl; others = sym (all_left ws h); between = first_position ws }

  module _ (after : List Run) (i at : ℕ) (s : Stored ws before after i at) where
    some_left : (r : Run) (rs : List Run) → left ws at ≡ r ∷ rs → i < length runs
    some_left r rs e = let more = ap length (sym s.others ∙ e) in omega (arith, s.few, more, length-drop i runs)

    pub one_stored : i < length before → (f : Found) → Some f ≡ next_run ws at → Stored ws before (set after i f.run) (i + 1) f.next
    one_stored l f e =
        let (taken, between) = one_taken ws at f s.between e in
        let below = some_left f.run (left ws f.next) taken in
        let parts : get_or runs i f.run ∷ drop (i + 1) runs ≡ f.run ∷ left ws f.next = sym (let whole : drop i runs ≡ get_or runs i f.run ∷ drop (i + 1) runs = rw (add-one, drop-cons runs i f.run) in whole) ∙ sym s.others ∙ taken in
        let this : get_or runs i f.run ≡ f.run = cc in
        record {
          few = omega (arith, below);
          list = ap₂ (λ (rs : List Run) (r : Run). set rs i r) s.list (sym this) ∙ next_place runs before i f.run below l;
          others = cc;
          between = between;
        }

    -- The list is full, or no run is left.
    pub full : length before ≤ i → i ≤ length before → after ≡ take (length before) runs ++ drop (length runs) before
    full l h =
        let same : i ≡ length before = omega arith in
        let over = s.few in
        s.list ∙ ap₂ (λ (k : ℕ) (rs : List Run). take k runs ++ rs) same (drop_all i before (omega arith) ∙ sym (drop_all (length runs) before (omega (arith, over))))

    pub ended : i < length before → None ≡ next_run ws at → after ≡ take (length before) runs ++ drop (length runs) before
    ended l e =
        let none = ap length (sym s.others ∙ none_left ws at s.between e) in
        let all : i ≡ length runs = omega (arith, none, s.few, length-drop i runs) in
        s.list ∙ ap₂ ◌++◌ (take_all i runs (omega arith) ∙ sym (take_all (length before) runs (omega arith))) (ap (λ k. drop k before) all)

-- ---- refusal 8

-- The least of a list's length and 4,096 is what 8 allows.
pub too_many_for_lem : (before rs : List Run) → too_many_for before rs ≡ ltb (min (length before) 4096) (length rs)
unfolding too_many_for too_many
too_many_for_lem before rs = go (ltb 4096 (length rs)) (ltb (length before) (length rs)) (ltb-true 4096 (length rs)) (ltb-false 4096 (length rs)) (ltb-true (length before) (length rs)) (ltb-false (length before) (length rs))
  where
    go : (a b : Bool) → (a ≡ true → 4096 < length rs) → (a ≡ false → length rs ≤ 4096) → (b ≡ true → length before < length rs) → (b ≡ false → length rs ≤ length before) → a || b ≡ ltb (min (length before) 4096) (length rs)
    go true b f g h k = sym (lt-ltb (min (length before) 4096) (length rs) (let over = f refl in omega arith))
    go false true f g h k = sym (lt-ltb (min (length before) 4096) (length rs) (let over = h refl in omega arith))
    go false false f g h k = sym (le-ltb (min (length before) 4096) (length rs) (let few = g refl in let held = k refl in omega arith))

-- ---- how many are to be written

module _ (ws : List ℕ) (held most count : ℕ) (is-most : most ≡ min held 4096) (is-count : count ≡ counted_runs ws most) where
  -- The count has gone past what is allowed.
  pub too_many_runs : most < count → Err TooManyRuns ≡ to_write ws held
  unfolding counted_runs to_write
  too_many_runs h = rw (lt-ltb (min held 4096) (length (longest_runs ws)) (omega arith))

  pub all_runs : count ≤ most → Ok count ≡ to_write ws held
  unfolding counted_runs to_write
  all_runs h = rw (le-ltb (min held 4096) (length (longest_runs ws)) (omega arith)) (ap (λ (n : ℕ). Ok n) (omega arith))

-- ---- the call's outcomes

module _ (ws : List ℕ) (before : List Run) where
  pub refused_31 : wrong_length (length ws) ≡ true → nothing_written 31 before ≡ mask_runs_call ws before
  unfolding mask_runs_call
  refused_31 w = rw w

  module _ (right : wrong_length (length ws) ≡ false) where
    pub refused_8 : (r : MaskRunsRefusal) → Err r ≡ to_write ws (length before) → nothing_written (runs_number r) before ≡ mask_runs_call ws before
    unfolding to_write mask_runs_call
    refused_8 r e = go (ltb (min (length before) 4096) (length (longest_runs ws))) refl
      where
        go : (b : Bool) → ltb (min (length before) 4096) (length (longest_runs ws)) ≡ b → nothing_written (runs_number r) before ≡ mask_runs_call ws before
        go true h = let told = rw h at e in let is : r ≡ TooManyRuns = cc in rw (right, too_many_for_lem before (longest_runs ws), h, is)
        go false h = let told = rw h at e in cc

    -- All runs are to be written, and the list has places for them.
    pub fitting : (n : ℕ) → Ok n ≡ to_write ws (length before) → (n ≡ length (longest_runs ws)) × (ltb (min (length before) 4096) (length (longest_runs ws)) ≡ false)
    unfolding to_write
    fitting n e = go (ltb (min (length before) 4096) (length (longest_runs ws))) refl
      where
        go : (b : Bool) → ltb (min (length before) 4096) (length (longest_runs ws)) ≡ b → (n ≡ length (longest_runs ws)) × (b ≡ false)
        go true h = let told = rw h at e in cc
        go false h = let told = rw h at e in (cc, refl)

    pub room : (n : ℕ) → Ok n ≡ to_write ws (length before) → n ≤ length before
    room n e =
        let (all, few) = fitting n e in
        omega (arith, all, ltb-false _ _ few)

    pub written : (n : ℕ) (front : List Run) → Ok n ≡ to_write ws (length before) → front ≡ take (length (take n before)) (longest_runs ws) ++ drop (length (longest_runs ws)) (take n before)
        → record { number = 0; index = 0; count = n; list = front ++ drop n before } ≡ mask_runs_call ws before
    unfolding mask_runs_call
    written n front e f =
        let (all, few) = fitting n e in
        let long : length (take n before) ≡ n = length-take-le n before (room n e) in
        let whole : front ≡ longest_runs ws =
        f ∙ ap₂ ◌++◌ (take_all (length (take n before)) (longest_runs ws) (omega (arith, long, all))) (drop_all (length (longest_runs ws)) (take n before) (omega (arith, long, all))) ∙ append-nil (longest_runs ws)
        in rw (right, too_many_for_lem before (longest_runs ws), few, whole, all)
