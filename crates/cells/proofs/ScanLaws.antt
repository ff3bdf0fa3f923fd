-- What a scan stands for: after each run, what it has found is what the call promises for the runs read so far.
use mathlib.Core.Path.{◌≡◌, refl, sym, ◌∙◌, ap}
use mathlib.Core.Bool.{Bool, true, false, not, ◌&&◌, ◌||◌, cond, or_assoc, or-false}
use mathlib.Core.List.{List, [], ◌∷◌, ◌++◌, append_assoc, append-nil}
use Rattle.std.specs.Prelude.{Ok, Err}
use Prim.Native.Nat.{ℕ, zero, suc, ◌+◌, ◌<◌, ◌≤◌}
use native.Mathlib.Omega.{arith}
use lib.Dec.{leb, ltb, eqb, leb-zero}
use lib.ListN.{length, length-append, get_or-append}
use lib.Seq.{get_or-append_seam}
use borrow.Author.Tests.{lt-ltb}
use Rattle.cell_ground.specs.CellSums.{plus_sums, sums_over}
use Rattle.cell_ground.specs.Ground.{ground_of}
use Rattle.cell_ground.proofs.SumLaws.{sums-append}
use Rattle.cells.specs.declared.Run.{Run}
use Rattle.cells.specs.declared.Scan.{Scan}
use Rattle.cells.specs.declared.RegionRefusal.TheVariants.{BadRun, OutOfOrder, TooManyRuns}
use Rattle.cells.specs.RunCells.{cells_of, all_cells}
use Rattle.cells.specs.RegionCall.{empty_run, bad_run, any_bad, lies_after, disordered, run_at, breaks_six, breaks_seven, region_call, reading}
use Rattle.cells.specs.RegionLaws.{AllKeep, LowestToBreak}
use Rattle.cells.specs.private.Scan.{Found, held, sums_of, no_runs, found_with, add_run, answer_of, SumsSmall, HasRoom}
use Rattle.cells.proofs.GridLaws.{runs_within}
use Rattle.cells.proofs.RulePlaces.{good_at, ordered_at, few, many}
use Rattle.cells.proofs.LowestIndex.{lowest_is}

-- ---- one run more at the end of a list

-- The last run, or the empty one at row 0, column 0, after which every run lies.
abbrev pub last_of : List Run → Run
last_of [] = empty_run
last_of (r ∷ []) = r
last_of (p ∷ r ∷ rs) = last_of (r ∷ rs)

last-at : (p : Run) (rs : List Run) → run_at (p ∷ rs) (length rs) ≡ last_of (p ∷ rs)
last-at p [] = refl
last-at p (r ∷ rs) = last-at r rs

last_snoc : (rs : List Run) (r : Run) → last_of (rs ++ r ∷ []) ≡ r
last_snoc [] r = refl
last_snoc (p ∷ []) r = refl
last_snoc (p ∷ q ∷ rs) r = last_snoc (q ∷ rs) r

bad_snoc : (rs : List Run) (r : Run) → any_bad (rs ++ r ∷ []) ≡ any_bad rs || bad_run r
unfolding any_bad
bad_snoc [] r = or-false (bad_run r)
bad_snoc (p ∷ rs) r = ap (λ b. bad_run p || b) (bad_snoc rs r) ∙ sym (or_assoc (bad_run p) (any_bad rs) (bad_run r))

after_none : (r : Run) → lies_after (last_of []) r ≡ true
unfolding lies_after
after_none r = go r.row
  where
    go : (n : ℕ) → ltb 0 n || eqb 0 n && leb (0 + 0) r.first ≡ true
    go zero = leb-zero r.first
    go (suc n) = rw (lt-ltb 0 (suc n) (omega arith))

order_snoc : (rs : List Run) (r : Run) → disordered (rs ++ r ∷ []) ≡ disordered rs || not (lies_after (last_of rs) r)
unfolding disordered
order_snoc [] r = rw (after_none r)
order_snoc (p ∷ []) r = or-false (not (lies_after p r))
order_snoc (p ∷ q ∷ rs) r = ap (λ b. not (lies_after p q) || b) (order_snoc (q ∷ rs) r) ∙ sym (or_assoc (not (lies_after p q)) (disordered (q ∷ rs)) (not (lies_after (last_of (q ∷ rs)) r)))

cells_snoc : (rs : List Run) (r : Run) → all_cells (rs ++ r ∷ []) ≡ all_cells rs ++ cells_of r
unfolding all_cells
cells_snoc [] r = append-nil (cells_of r)
cells_snoc (p ∷ rs) r = ap (λ l. cells_of p ++ l) (cells_snoc rs r) ∙ sym (append_assoc (cells_of p) (all_cells rs) (cells_of r))

length_snoc : (rs : List Run) (r : Run) → length (rs ++ r ∷ []) ≡ length rs + 1
length_snoc rs r = length-append rs (r ∷ [])

-- ---- the lowest run that breaks a rule, with one run more

-- A run behind others changes nothing of what they break.
abbrev Local : (List Run → ℕ → Bool) → Type 0
Local breaks = (rs : List Run) (r : Run) (j : ℕ) → j < length rs → breaks (rs ++ r ∷ []) j ≡ breaks rs j

six_local : Local breaks_six
six_local rs r j l = ap bad_run (get_or-append rs (r ∷ []) _ j l)

seven_local : Local breaks_seven
seven_local rs r zero l = refl
seven_local rs r (suc j) l = rw (get_or-append rs (r ∷ []) _ j (omega arith), get_or-append rs (r ∷ []) _ (suc j) l)

module _ (breaks : List Run → ℕ → Bool) (local : Local breaks) (rs : List Run) (r : Run) where
  lowest_stays : {i : ℕ} → LowestToBreak breaks rs i → LowestToBreak breaks (rs ++ r ∷ []) i
  lowest_stays {i} h =
      record {
        present = omega (arith, length_snoc rs r, h.present);
        broken = local rs r i h.present ∙ h.broken;
        none-lower = λ j l. local rs r j (omega (arith, h.present)) ∙ h.none-lower j l;
      }

  -- None before, and the new run breaks it.
  lowest_here : AllKeep breaks rs → breaks (rs ++ r ∷ []) (length rs) ≡ true → LowestToBreak breaks (rs ++ r ∷ []) (length rs)
  lowest_here none e = record { present = omega (arith, length_snoc rs r); broken = e; none-lower = λ j l. local rs r j l ∙ none j l }

six-here : (rs : List Run) (r : Run) → breaks_six (rs ++ r ∷ []) (length rs) ≡ bad_run r
six-here rs r = ap bad_run (get_or-append_seam rs r [] _)

seven-here : (rs : List Run) (r : Run) → breaks_seven (rs ++ r ∷ []) (length rs) ≡ not (lies_after (last_of rs) r)
seven-here [] r = sym (ap not (after_none r))
seven-here (p ∷ qs) r = rw (get_or-append (p ∷ qs) (r ∷ []) _ (length qs) (omega arith), last-at p qs, get_or-append_seam (p ∷ qs) r [] _)

-- ---- what was found in the runs read so far

abbrev pub Decided : List Run → Found → Type 0
Decided rs (Ok s) = (any_bad rs ≡ false) × ((disordered rs ≡ false) × (sums_of s ≡ sums_over (all_cells rs)))
Decided rs (Err (BadRun i)) = (any_bad rs ≡ true) × LowestToBreak breaks_six rs i
Decided rs (Err (OutOfOrder i)) = (any_bad rs ≡ false) × ((disordered rs ≡ true) × LowestToBreak breaks_seven rs i)
-- A scan does not count the runs.
Decided rs (Err TooManyRuns) = ⊥

-- One run more.
decided_next : (rs : List Run) (r : Run) (a : Found) → Decided rs a → Decided (rs ++ r ∷ []) (found_with a (length rs) (last_of rs) r)
unfolding found_with
decided_next rs r (Ok s) (b, (o, e)) = go (bad_run r) refl (lies_after (last_of rs) r) refl
  where
    go : (x : Bool) → bad_run r ≡ x → (y : Bool) → lies_after (last_of rs) r ≡ y
        → Decided (rs ++ r ∷ []) (cond x (Err (BadRun (length rs))) (cond (not y) (Err (OutOfOrder (length rs))) (Ok (held (plus_sums (sums_of s) (sums_over (cells_of r)))))))
    go true p y q = (rw (bad_snoc rs r, b, p), lowest_here breaks_six six_local rs r (good_at rs b) (six-here rs r ∙ p))
    go false p false q = (rw (bad_snoc rs r, b, p), (rw (order_snoc rs r, o, q), lowest_here breaks_seven seven_local rs r (ordered_at rs o) (seven-here rs r ∙ ap not q)))
    go false p true q = (rw (bad_snoc rs r, b, p), (rw (order_snoc rs r, o, q), rw (cells_snoc rs r, sums-append, ← e)))
decided_next rs r (Err (BadRun i)) (b, h) = (rw (bad_snoc rs r, b), lowest_stays breaks_six six_local rs r h)
decided_next rs r (Err (OutOfOrder i)) (b, (o, h)) = go (bad_run r) refl
  where
    go : (x : Bool) → bad_run r ≡ x → Decided (rs ++ r ∷ []) (Err (cond x (BadRun (length rs)) (OutOfOrder i)))
    go true p = (rw (bad_snoc rs r, b, p), lowest_here breaks_six six_local rs r (good_at rs b) (six-here rs r ∙ p))
    go false p = (rw (bad_snoc rs r, b, p), (rw (order_snoc rs r, o), lowest_stays breaks_seven seven_local rs r h))
decided_next rs r (Err TooManyRuns) d = absurd d

-- ---- a scan of runs

pub record Stands (rs : List Run) (s : Scan) : Type 0 where
  pub count : s.count ≡ length rs
  pub last : s.last ≡ last_of rs
  pub found : Decided rs s.found

pub at-start : Stands [] no_runs
unfolding any_bad disordered sums_over all_cells
at-start = record { count = refl; last = refl; found = (refl, (refl, refl)) }

pub one_more : (rs : List Run) (r : Run) {s : Scan} → Stands rs s → Stands (rs ++ r ∷ []) (add_run s r)
one_more rs r {s} h =
    record {
      count = ap (λ n. n + 1) h.count ∙ sym (length_snoc rs r);
      last = sym (last_snoc rs r);
      found = rw (h.count, h.last) (decided_next rs r s.found h.found);
    }

-- The sums are as small as the code needs them, and there is room for another run.
pub sums_small : (rs : List Run) {s : Scan} → Stands rs s → length rs ≤ 4096 → SumsSmall s.found
sums_small rs {s} h l = go s.found h.found
  where
    go : (a : Found) → Decided rs a → SumsSmall a
    go (Ok s) (b, (o, e)) = rw e (runs_within rs b l)
    go (Err r) d = tt

pub room : (rs : List Run) {s : Scan} → Stands rs s → length rs < 4096 → HasRoom s
room rs h l = record { runs = omega (arith, h.count); sums = sums_small rs h (omega arith) }

-- ---- the call's promise

pub answered : (rs : List Run) {s : Scan} → Stands rs s → length rs ≤ 4096 → reading (answer_of s.found) ≡ region_call rs
unfolding region_call ground_of
answered rs {s} h l = go s.found h.found
  where
    go : (a : Found) → Decided rs a → reading (answer_of a) ≡ region_call rs
    go (Ok s) (b, (o, e)) = rw (few rs l, b, o, ← e)
    go (Err (BadRun i)) (b, k) = rw (few rs l, b, lowest_is breaks_six rs k)
    go (Err (OutOfOrder i)) (b, (o, k)) = rw (few rs l, b, o, lowest_is breaks_seven rs k)
    go (Err TooManyRuns) d = absurd d

pub too_many : (rs : List Run) → 4096 < length rs → reading (Err TooManyRuns) ≡ region_call rs
unfolding region_call
too_many rs l = rw (many rs l)
