-- Where a newline stands: at the first byte that is one, or past them all; what is left from a place on; and the line from a place on, by the byte there and by so many bytes from there on.
use Prim.Native.Nat.{ℕ, zero, suc, ◌+◌, ◌-◌, ◌<◌, ◌≤◌}
use mathlib.Core.Path.{◌≡◌, refl, ap, ◌∙◌}
use mathlib.Core.Bool.{Bool, true, false, cond}
use mathlib.Core.List.{List, [], ◌∷◌}
use native.Mathlib.Omega.{arith}
use native.Mathlib.Numerals.{add-one}
use lib.Dec.{eqb}
use lib.ListN.{length, get_or, take, drop, drop_of_length-le, length-drop}
use lib.Seq.{drop-cons, drop-drop}
use borrow.Author.Tests.{eq-eqb, ne_eqb, eqb-true}
use Rattle.std.specs.Prelude.{Option, Some, None}
use Rattle.std.specs.Option.{unwrap_or}
use Rattle.memchr.specs.Find.{IsFirstByte, is_byte}
use Rattle.newlines.specs.LineLength.{line_length}

-- What is left from a place on, by its first byte.
pub byte_at : (s : List ℕ) (i : ℕ) → i < length s → drop i s ≡ get_or s i 0 ∷ drop (i + 1) s
byte_at s i h = rw (add-one, drop-cons s i 0 h)

-- A line is within its bytes.
pub line_within : (bs : List ℕ) → line_length bs ≤ length bs
unfolding line_length
line_within [] = omega arith
line_within (b ∷ bs) = go (line_within bs) (eqb b 10)
  where
    go : line_length bs ≤ length bs → (t : Bool) → cond t 0 (suc (line_length bs)) ≤ suc (length bs)
    go h true = omega arith
    go h false = omega arith

-- It ends before the first newline,
ends_before : (bs : List ℕ) (k : ℕ) → k < length bs → get_or bs k 0 ≡ 10 → ((j : ℕ) → j < k → get_or bs j 0 ≡ 10 → ⊥) → k ≡ line_length bs
unfolding line_length
ends_before [] k l e none = absurd (omega arith)
ends_before (b ∷ bs) zero l e none = rw (eq-eqb b 10 e) refl
ends_before (b ∷ bs) (suc k) l e none =
    rw (ne_eqb b 10 (none 0 (omega arith))) (ap suc (ends_before bs k (omega arith) e (λ j h. none (suc j) (omega arith))))

-- and is all of the bytes where there is none.
is_all : (bs : List ℕ) → ((j : ℕ) → j < length bs → get_or bs j 0 ≡ 10 → ⊥) → length bs ≡ line_length bs
unfolding line_length
is_all [] none = refl
is_all (b ∷ bs) none = rw (ne_eqb b 10 (none 0 (omega arith))) (ap suc (is_all bs (λ j h. none (suc j) (omega arith))))

-- So a search for the first newline finds where it ends.
pub searched : (bs : List ℕ) (r : Option ℕ) → IsFirstByte (is_byte 10) bs r → unwrap_or r (length bs) ≡ line_length bs
searched bs None h = is_all bs (λ j l e. h j (omega arith) l (eq-eqb _ 10 e))
searched bs (Some k) h = ends_before bs k h.0.high (eqb-true _ 10 h.1) (λ j l e. h.0.before j (omega arith) l (eq-eqb _ 10 e))

-- ---- from a place on

-- The line from i on ends where the line from `at` on does.
abbrev pub SameEnd : List ℕ → ℕ → ℕ → Type 0
SameEnd s at i = i + line_length (drop i s) ≡ at + line_length (drop at s)

module _ (s : List ℕ) (i : ℕ) where
  -- At a newline the line from i on has no bytes;
  pub stops : i < length s → get_or s i 0 ≡ 10 → i ≡ i + line_length (drop i s)
  unfolding line_length
  stops h e = rw (byte_at s i h, eq-eqb (get_or s i 0) 10 e) (omega arith)

  -- at another byte it ends where the line from the next one on does;
  pub goes_on : i < length s → (get_or s i 0 ≡ 10 → ⊥) → i + line_length (drop i s) ≡ i + 1 + line_length (drop (i + 1) s)
  unfolding line_length
  goes_on h e = rw (byte_at s i h, ne_eqb (get_or s i 0) 10 e) (omega arith)

  -- past the bytes it has none.
  pub ends : length s ≤ i → i ≡ i + line_length (drop i s)
  unfolding line_length
  ends h = rw (drop_of_length-le s {i = i} h) (omega arith)

-- ---- the first n bytes

-- The line in them is no longer than they are.
pub front_short : (n : ℕ) (bs : List ℕ) → line_length (take n bs) ≤ n
unfolding line_length
front_short zero bs = omega arith
front_short (suc n) [] = omega arith
front_short (suc n) (b ∷ bs) = go (eqb b 10) (front_short n bs)
  where
    go : (t : Bool) → line_length (take n bs) ≤ n → cond t 0 (suc (line_length (take n bs))) ≤ suc n
    go true h = omega arith
    go false h = omega arith

-- A newline among them is the first one of all;
front_line : (n : ℕ) (bs : List ℕ) → n ≤ length bs → line_length (take n bs) < n → line_length (take n bs) ≡ line_length bs
unfolding line_length
front_line zero bs h l = absurd (omega arith)
front_line (suc n) [] h l = absurd (omega arith)
front_line (suc n) (b ∷ bs) h l = go (eqb b 10) l (front_line n bs (omega arith))
  where
    go : (t : Bool) → cond t 0 (suc (line_length (take n bs))) < suc n → (line_length (take n bs) < n → line_length (take n bs) ≡ line_length bs) → cond t 0 (suc (line_length (take n bs))) ≡ cond t 0 (suc (line_length bs))
    go true l e = refl
    go false l e = ap suc (e (omega arith))

-- where there is none, it stands past them.
past_front : (n : ℕ) (bs : List ℕ) → n ≤ line_length (take n bs) → line_length bs ≡ n + line_length (drop n bs)
unfolding line_length
past_front zero bs h = omega arith
past_front (suc n) [] h = absurd (omega arith)
past_front (suc n) (b ∷ bs) h = go (eqb b 10) h (past_front n bs)
  where
    go : (t : Bool) → suc n ≤ cond t 0 (suc (line_length (take n bs))) → (n ≤ line_length (take n bs) → line_length bs ≡ n + line_length (drop n bs)) → cond t 0 (suc (line_length bs)) ≡ suc n + line_length (drop n bs)
    go true h e = absurd (omega arith)
    go false h e = omega (arith, e (omega arith))

module _ (s : List ℕ) (i n : ℕ) where
  -- A newline among the n bytes from i on ends the line from i on;
  pub stops_among : i + n ≤ length s → (k : ℕ) → k ≡ line_length (take n (drop i s)) → k < n → i + k ≡ i + line_length (drop i s)
  stops_among h k e l = ap (λ k. i + k) (e ∙ front_line n (drop i s) (rw length-drop (omega arith)) (omega arith))

  -- where there is none among them, that line ends where the one from i + n on does.
  pub goes_past : (k : ℕ) → k ≡ line_length (take n (drop i s)) → n ≤ k → i + n + line_length (drop (i + n) s) ≡ i + line_length (drop i s)
  goes_past k e h = rw (past_front n (drop i s) (omega arith), drop-drop) (omega arith)

-- Of eight bytes from `at` on: the line in the last ones, from the line in those but their first, by that byte.
pub front_grows : (s : List ℕ) (at i k r : ℕ) → 0 < i → i ≤ 8 → at + 8 ≤ length s → k ≡ line_length (take (8 - i) (drop (at + i) s)) → r ≡ cond (eqb (get_or s (at + (i - 1)) 0) 10) 0 (suc k) → r ≡ line_length (take (8 - (i - 1)) (drop (at + (i - 1)) s))
unfolding line_length
front_grows s at i k r l h b e f =
    let n : 8 - (i - 1) ≡ suc (8 - i) = omega arith in
    let p : at + (i - 1) + 1 ≡ at + i = omega arith in
    rw (n, byte_at s (at + (i - 1)) (omega arith), p) (f ∙ ap (λ k. cond (eqb (get_or s (at + (i - 1)) 0) 10) 0 (suc k)) e)
