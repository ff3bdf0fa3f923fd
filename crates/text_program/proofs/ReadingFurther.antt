-- Refusal 10 ends the reading: bytes after byte 33,000,001 change nothing, so a program need not read them.
use Prim.Native.Nat.{ℕ, zero, suc, ◌+◌, ◌≤◌, ◌<◌}
use mathlib.Core.Path.{◌≡◌, refl, sym, ap, ◌∙◌}
use mathlib.Core.Bool.{true, false}
use mathlib.Core.List.{List, [], ◌∷◌, ◌++◌}
use native.Mathlib.Omega.{arith}
use lib.ListN.{length, take, length-append}
use lib.Dec.{eqb}
use Rattle.outline.specs.declared.Walk.{Walk}
use Rattle.outline.specs.declared.Sheet.{Sheet}
use Rattle.outline.specs.WalkCalls.{closed, new_sheet}
use Rattle.parsing.specs.Grammar.{form_of}
use Rattle.text_program.specs.Program.{Line, lines_from, too_far, carry_out, output_of, program}
use Rattle.integers.proofs.Cases.{both_cond}
use Rattle.text_program.proofs.Lines.{line}
use Rattle.text_program.proofs.TooFar.{beyond, far-bytes, near-bytes, far_line, held-far}

-- One line, too far or not: what follows it matters only in the second case.
next-lines : (w : Walk) (s : Sheet) (n x : ℕ) (bytes : List ℕ) (a b : List Line) → (beyond n x ≡ false → (w : Walk) (s : Sheet) → output_of w s a ≡ output_of w s b) → output_of w s (line (n + 1) x bytes ∷ a) ≡ output_of w s (line (n + 1) x bytes ∷ b)
unfolding output_of
next-lines w s n x bytes a b same =
    let r = carry_out (n + 1) (form_of bytes) w s in
    both_cond (λ o. o) (too_far (line (n + 1) x bytes)) (λ e. refl) (λ e. ap (λ o. r.output ++ o) (same (sym (far_line n x bytes) ∙ e) r.walk r.sheet))

-- The first k bytes of the rest are enough where they reach past the limit.
further : (k : ℕ) (n m : ℕ) (held rest : List ℕ) → m ≤ 33_000_000 → 33_000_000 < m + length held + k → (w : Walk) (s : Sheet) → output_of w s (lines_from n m held (take k rest)) ≡ output_of w s (lines_from n m held rest)
unfolding lines_from
further zero n m held rest h l w s =
    let far : beyond n (m + length held) ≡ true = far-bytes n (m + length held) (omega arith) in
    held-far w s n m held [] (omega arith) far ∙ sym (held-far w s n m held rest (omega arith) far)
further (suc k) n m held [] h l w s = refl
further (suc k) n m held (b ∷ rest) h l w s =
    let x = m + length held + 1 in
    both_cond (output_of w s) (eqb b 10)
    (λ e. next-lines w s n x held (lines_from (n + 1) x [] (take k rest)) (lines_from (n + 1) x [] rest) (λ near. further k (n + 1) x [] rest (near-bytes n x near) (omega arith)))
    (λ e. further k n m (held ++ b ∷ []) rest h (simp length-append (omega arith)) w s)

-- For every input.
pub reading_further : (input : List ℕ) → program (take 33_000_001 input) ≡ program input
unfolding program
reading_further input = further 33_000_001 0 0 [] input (omega arith) (omega arith) closed new_sheet
