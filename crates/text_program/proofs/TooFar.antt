-- Refusal 10: once the bytes of a line pass the limits, what follows changes nothing of the output.
use Prim.Native.Nat.{ℕ, suc, ◌+◌, ◌≤◌, ◌<◌, min}
use mathlib.Core.Path.{◌≡◌, refl, ◌∙◌}
use mathlib.Core.Bool.{Bool, true, false, ◌||◌, or-true}
use mathlib.Core.List.{List, [], ◌∷◌, ◌++◌}
use native.Mathlib.Omega.{arith}
use native.Mathlib.Numerals.{add-one}
use lib.ListN.{length, length-append}
use lib.Dec.{eqb, ltb, leb, leb-suc-suc}
use borrow.Author.Tests.{lt-ltb, ltb-true, ltb-false, leb-false}
use Rattle.integers.proofs.Flags.{both_failed}
use Rattle.outline.specs.declared.Walk.{Walk}
use Rattle.outline.specs.declared.Sheet.{Sheet}
use Rattle.parsing.specs.Grammar.{form_of}
use Rattle.printing.specs.Output.{refusal_line, sheet_line}
use Rattle.text_program.specs.Program.{Line, lines_from, too_far, carry_out, output_of}
use Rattle.newlines.specs.LineLength.{line_length}
use Rattle.integers.proofs.Cases.{by_cond}
use Rattle.text_program.proofs.Lines.{line, line_size}

-- The line after n lines, whose bytes so far end at the place x, is too far.
abbrev pub beyond : ℕ → ℕ → Bool
beyond n x = leb 1_000_000 n || ltb 33_000_000 x

-- That is the test of the definition, for the line that comes next.
pub far_line : (n x : ℕ) (bytes : List ℕ) → too_far (line (n + 1) x bytes) ≡ beyond n x
unfolding too_far
far_line n x bytes = rw (add-one, leb-suc-suc 1_000_000 n)

-- What the test says of bytes and lines.
pub far-bytes : (n x : ℕ) → 33_000_000 < x → beyond n x ≡ true
far-bytes n x h = rw (lt-ltb 33_000_000 x h) (or-true (leb 1_000_000 n))

pub near-lines : (n x : ℕ) → beyond n x ≡ false → n < 1_000_000
near-lines n x e = leb-false 1_000_000 n (both_failed (leb 1_000_000 n) (ltb 33_000_000 x) e).0

pub near-bytes : (n x : ℕ) → beyond n x ≡ false → x ≤ 33_000_000
near-bytes n x e = ltb-false 33_000_000 x (both_failed (leb 1_000_000 n) (ltb 33_000_000 x) e).1

-- More bytes are no nearer.
farther : (n x y : ℕ) → x ≤ y → beyond n x ≡ true → beyond n y ≡ true
farther n x y h = go (leb 1_000_000 n)
  where
    go : (b : Bool) → (b || ltb 33_000_000 x) ≡ true → (b || ltb 33_000_000 y) ≡ true
    go true e = refl
    go false e = lt-ltb 33_000_000 y (omega (arith, ltb-true 33_000_000 x e))

-- Nothing but S follows a line that is too far.
far-output : (w : Walk) (s : Sheet) (n x : ℕ) (bytes : List ℕ) (ls : List Line) → beyond n x ≡ true → output_of w s (line (n + 1) x bytes ∷ ls) ≡ refusal_line (n + 1) 10 ++ sheet_line s
unfolding output_of
far-output w s n x bytes ls far = rw (far_line n x bytes ∙ far)

-- A line that is not too far is carried out.
pub near-output : (w : Walk) (s : Sheet) (n x : ℕ) (bytes : List ℕ) (ls : List Line) → beyond n x ≡ false → (let r = carry_out (n + 1) (form_of bytes) w s in output_of w s (line (n + 1) x bytes ∷ ls) ≡ r.output ++ output_of r.walk r.sheet ls)
unfolding output_of
near-output w s n x bytes ls near = rw (far_line n x bytes ∙ near)

module _ (w : Walk) (s : Sheet) (n m : ℕ) where
  -- The bytes that are held are too far already.
  pub held-far : (held rest : List ℕ) → 0 < length held → beyond n (m + length held) ≡ true → output_of w s (lines_from n m held rest) ≡ refusal_line (n + 1) 10 ++ sheet_line s
  unfolding lines_from
  held-far [] [] h far = absurd (omega arith)
  held-far (b ∷ held) [] h far = far-output w s n (m + length (b ∷ held)) (b ∷ held) [] far
  held-far held (b ∷ rest) h far =
      by_cond (λ ls. output_of w s ls ≡ refusal_line (n + 1) 10 ++ sheet_line s) (eqb b 10)
      (λ e. far-output w s n (m + length held + 1) held (lines_from (n + 1) (m + length held + 1) [] rest) (farther n (m + length held) (m + length held + 1) (omega arith) far))
      (λ e. held-far (held ++ b ∷ []) rest (simp length-append (omega arith)) (farther n (m + length held) (m + length (held ++ b ∷ [])) (simp length-append (omega arith)) far))

  -- The line of the held bytes and the first bytes of c is too far, up to its newline or to the end of c.
  pub far_remains : (held c rest : List ℕ) → 0 < length held + length c → beyond n (m + length held + line_size c) ≡ true → output_of w s (lines_from n m held (c ++ rest)) ≡ refusal_line (n + 1) 10 ++ sheet_line s
  unfolding lines_from line_length
  far_remains held [] rest h far = held-far held rest (omega arith) (farther n (m + length held + min 1 0) (m + length held) (omega arith) far)
  far_remains held (b ∷ c) rest h far =
      by_cond (λ ls. output_of w s ls ≡ refusal_line (n + 1) 10 ++ sheet_line s) (eqb b 10)
      (λ e. far-output w s n (m + length held + 1) held (lines_from (n + 1) (m + length held + 1) [] (c ++ rest)) (farther n (m + length held + min 1 (suc (length c))) (m + length held + 1) (omega arith) (rw e at far)))
      (λ e. far_remains (held ++ b ∷ []) c rest (simp length-append (omega arith)) (farther n (m + length held + min (suc (suc (line_length c))) (suc (length c))) (m + length (held ++ b ∷ []) + min (suc (line_length c)) (length c)) (simp length-append (omega arith)) (rw e at far)))
