-- A search through a list of words, a word at a time.
use mathlib.Core.Path.{◌≡◌, sym, ap, ap₂, ◌∙◌}
use mathlib.Core.List.{List}
use Prim.Native.Nat.{ℕ, ◌+◌, ◌-◌, ◌*◌, ◌/◌, ◌%◌, ◌≤◌, ◌<◌}
use native.Mathlib.Nat.{le_trans}
use native.Mathlib.Omega.{arith}
use lib.Dec.{eqb}
use lib.ListN.{get_or}
use Rattle.std.specs.Prelude.{None, Some}
use Rattle.word_runs.specs.Bits.{bit, first_of, place}
use Rattle.word_runs.specs.private.WordList.{bit_at, first_bit}
use Rattle.word_runs.proofs.Places.{place_of, past_places}
use Rattle.integers.proofs.Searches.{found_bounds, goes_on, is_found, moved}

-- ---- in one word

-- A search through a word ends at 64.
pub within_word : (v w i : ℕ) → i ≤ 64 → first_of v (64 - i) w i ≤ 64
within_word v w i h = le_trans (found_bounds _ _ _).1 (omega arith)

-- A place of the list is a place of its word.
pub bit_of_word : (ws : List ℕ) (w k : ℕ) → k < 64 → bit_at ws (w * 64 + k) ≡ bit (get_or ws w 0) k
bit_of_word ws w k h =
    let high : (w * 64 + k) / 64 ≡ w = omega arith in
    let low : (w * 64 + k) % 64 ≡ k = omega arith in
    ap₂ (λ (x y : ℕ). bit (get_or ws x 0) y) high low

word_part : (ws : List ℕ) (v w c : ℕ) → c ≤ 64 → first_bit v ws (64 - c) (w * 64 + c) ≡ w * 64 + first_of v (64 - c) (get_or ws w 0) c
word_part ws v w c h =
    moved (λ (k : ℕ). eqb (bit_at ws k) v) (λ (k : ℕ). eqb (bit (get_or ws w 0) k) v) (w * 64) (64 - c) c
    (λ k l. ap (λ (b : ℕ). eqb b v) (bit_of_word ws w k (omega arith)))

-- ---- in the word that a place lies in, of a search that goes on to the end of the word at least

module _ (ws : List ℕ) (v w i at end : ℕ) (start : w * 64 + i ≡ at) (below : i < 64) (inside : w * 64 + 64 ≤ end) where
  split : end - at ≡ 64 - i + (end - (w * 64 + 64))
  split = omega arith

  here : first_bit v ws (64 - i) at ≡ w * 64 + first_of v (64 - i) (get_or ws w 0) i
  here = ap (first_bit v ws (64 - i)) (sym start) ∙ word_part ws v w i (omega arith)

  -- Found in this word.
  pub found_here : (k : ℕ) → Some k ≡ place (first_of v (64 - i) (get_or ws w 0) i) → w * 64 + k ≡ first_bit v ws (end - at) at
  found_here k e =
      let (is, inside_word) = place_of k _ e in
      let found : first_bit v ws (64 - i) at ≡ w * 64 + k = here ∙ ap (λ (x : ℕ). w * 64 + x) (sym is) in
      let least : first_bit v ws (64 - i) at < at + (64 - i) = omega arith in
      sym (ap (λ (n : ℕ). first_bit v ws n at) split ∙ is_found (λ (x : ℕ). eqb (bit_at ws x) v) (64 - i) (end - (w * 64 + 64)) at least ∙ found)

  -- Not in this word.
  pub not_here : None ≡ place (first_of v (64 - i) (get_or ws w 0) i) → first_bit v ws (end - at) at ≡ first_bit v ws (end - (w * 64 + 64)) (w * 64 + 64)
  not_here e =
      let last : w * 64 + 64 ≡ at + (64 - i) = omega arith in
      let most = within_word v (get_or ws w 0) i (omega arith) in
      let past : first_of v (64 - i) (get_or ws w 0) i ≡ 64 = omega (arith, most, past_places _ e) in
      let none : first_bit v ws (64 - i) at ≡ at + (64 - i) = here ∙ ap (λ (x : ℕ). w * 64 + x) past ∙ last in
      ap (λ (n : ℕ). first_bit v ws n at) split
      ∙ goes_on (λ (x : ℕ). eqb (bit_at ws x) v) (64 - i) (end - (w * 64 + 64)) at none
      ∙ ap (first_bit v ws (end - (w * 64 + 64))) (sym last)
