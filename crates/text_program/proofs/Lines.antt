-- How `lines_from` finds the lines of the input: bytes without a newline are held, a newline ends the line.
use Prim.Native.Nat.{ℕ, suc, ◌+◌, ◌≤◌, ◌<◌, min}
use mathlib.Core.Path.{◌≡◌, refl, sym, ap, ◌∙◌}
use mathlib.Core.Bool.{false}
use mathlib.Core.List.{List, [], ◌∷◌, ◌++◌, append_assoc, append-nil}
use native.Mathlib.Omega.{arith}
use lib.ListN.{length, take, drop, length-append}
use lib.Seq.{length-take-le, take_all, drop-length}
use lib.Dec.{eqb}
use borrow.Author.Tests.{eqb-true}
use Rattle.text_program.specs.Program.{Line, lines_from}
use Rattle.newlines.specs.LineLength.{line_length}
use Rattle.integers.proofs.Cases.{by_cond}

-- ---- the first newline

-- The bytes before it, the newline and the bytes after it.
pub line_splits : (c : List ℕ) → line_length c < length c → c ≡ take (line_length c) c ++ 10 ∷ drop (suc (line_length c)) c
unfolding line_length
line_splits [] h = absurd (omega arith)
line_splits (b ∷ c) h =
    by_cond (λ n. n < suc (length c) → b ∷ c ≡ take n (b ∷ c) ++ 10 ∷ drop (suc n) (b ∷ c)) (eqb b 10)
    (λ e k. ap (λ x. x ∷ c) (eqb-true b 10 e))
    (λ e k. ap (λ l. b ∷ l) (line_splits c (omega arith)))
    h

-- There is no newline in them.
pub line_plain : (c : List ℕ) → length (take (line_length c) c) ≤ line_length (take (line_length c) c)
unfolding line_length
line_plain [] = omega arith
line_plain (b ∷ c) =
    by_cond (λ n. length (take n (b ∷ c)) ≤ line_length (take n (b ∷ c))) (eqb b 10)
    (λ e. omega arith)
    (λ e. rw e (omega (arith, line_plain c)))

-- ---- lines

abbrev pub line : ℕ → ℕ → List ℕ → Line
line number last bytes = record { number = number; last = last; bytes = bytes }

-- A byte more of the present line.
held_byte : (n m : ℕ) (held : List ℕ) (b : ℕ) (rest : List ℕ) → eqb b 10 ≡ false → lines_from n m held (b ∷ rest) ≡ lines_from n m (held ++ b ∷ []) rest
unfolding lines_from
held_byte n m held b rest e = rw e

-- Bytes without a newline are held.
pub lines-part : (n m : ℕ) (held p rest : List ℕ) → length p ≤ line_length p → lines_from n m held (p ++ rest) ≡ lines_from n m (held ++ p) rest
unfolding line_length
lines-part n m held [] rest h = ap (λ l. lines_from n m l rest) (sym (append-nil held))
lines-part n m held (b ∷ p) rest h =
    by_cond (λ k. suc (length p) ≤ k → lines_from n m held (b ∷ p ++ rest) ≡ lines_from n m (held ++ b ∷ p) rest) (eqb b 10)
    (λ e k. absurd (omega arith))
    (λ e k.
    held_byte n m held b (p ++ rest) e
    ∙ lines-part n m (held ++ b ∷ []) p rest (omega arith)
    ∙ ap (λ l. lines_from n m l rest) (append_assoc held (b ∷ []) p))
    h

-- A newline ends the line: the bytes up to it are one line, and the rest has the others.
newline : (n m : ℕ) (held rest : List ℕ) → lines_from n m held (10 ∷ rest) ≡ line (n + 1) (m + length held + 1) held ∷ lines_from (n + 1) (m + length held + 1) [] rest
unfolding lines_from
newline n m held rest = refl

-- A last line without a newline counts if it has a byte.
last_line : (n m : ℕ) (held : List ℕ) → 0 < length held → lines_from n m held [] ≡ line (n + 1) (m + length held) held ∷ []
unfolding lines_from
last_line n m [] h = absurd (omega arith)
last_line n m (b ∷ held) h = refl

-- The bytes of the first line of c, its newline included.
abbrev pub line_size : List ℕ → ℕ
line_size c = min (suc (line_length c)) (length c)

-- The held bytes and the first line of c are a whole line; the other lines are those of the bytes behind it.
abbrev pub FirstLine : ℕ → ℕ → List ℕ → List ℕ → List ℕ → Type 0
FirstLine n m held c rest =
    lines_from n m held (c ++ rest)
    ≡ line (n + 1) (m + length held + line_size c) (held ++ take (line_length c) c) ∷ lines_from (n + 1) (m + length held + line_size c) [] (drop (line_size c) c ++ rest)

module _ (n m : ℕ) (held c : List ℕ) where
  -- That is so where c has a newline,
  pub lines-whole : (rest : List ℕ) → line_length c < length c → FirstLine n m held c rest
  lines-whole rest h =
      let k = line_length c in
      let whole : line_size c ≡ suc k = omega arith in
      let ends : m + length (held ++ take k c) + 1 ≡ m + length held + suc k = simp length-append (omega (arith, length-take-le k c (omega arith))) in
      ap (λ l. lines_from n m held (l ++ rest)) (line_splits c h)
      ∙ ap (lines_from n m held) (append_assoc (take k c) (10 ∷ drop (suc k) c) rest)
      ∙ lines-part n m held (take k c) (10 ∷ drop (suc k) c ++ rest) (line_plain c)
      ∙ newline n m (held ++ take k c) (drop (suc k) c ++ rest)
      ∙ rw (ends, whole)

  -- and where the input ends with c, which has no newline, if the line has a byte.
  pub lines-last : length c ≤ line_length c → 0 < length held + length c → FirstLine n m held c []
  unfolding lines_from
  lines-last h k =
      let whole : line_size c ≡ length c = omega arith in
      let ends : m + length (held ++ c) ≡ m + length held + length c = simp length-append (omega arith) in
      lines-part n m held c [] h
      ∙ last_line n m (held ++ c) (simp length-append k)
      ∙ rw (whole, ends, drop-length, take_all)
