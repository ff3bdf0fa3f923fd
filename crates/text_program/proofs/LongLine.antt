-- Of a line of over 32 bytes only their number matters.
use Prim.Native.Nat.{ℕ, suc, ◌+◌, ◌<◌}
use mathlib.Core.Path.{◌≡◌, sym, ◌∙◌}
use mathlib.Core.List.{List, [], ◌∷◌, ◌++◌}
use native.Mathlib.Omega.{arith}
use lib.ListN.{length, length-append}
use lib.Dec.{eqb}
use Rattle.outline.specs.declared.Walk.{Walk}
use Rattle.outline.specs.declared.Sheet.{Sheet}
use Rattle.parsing.specs.Grammar.{form_of}
use Rattle.text_program.specs.Program.{Line, lines_from, too_far, output_of}
use Rattle.integers.proofs.Cases.{both_cond}
use Rattle.text_program.proofs.Forms.{long_line}
use Rattle.text_program.proofs.Lines.{line}

-- Lines of one form, number and end do the same.
same_form : (w : Walk) (s : Sheet) (n x : ℕ) (a b : List ℕ) (ls : List Line) → form_of a ≡ form_of b → output_of w s (line n x a ∷ ls) ≡ output_of w s (line n x b ∷ ls)
unfolding output_of too_far
same_form w s n x a b ls e = rw e

-- Two lists of held bytes, of one length that is over 32.
pub long_held : (w : Walk) (s : Sheet) (n m : ℕ) (a b rest : List ℕ) → length a ≡ length b → 32 < length a → output_of w s (lines_from n m a rest) ≡ output_of w s (lines_from n m b rest)
unfolding lines_from
long_held w s n m [] b [] e h = absurd (omega arith)
long_held w s n m (x ∷ a) [] [] e h = absurd (omega arith)
long_held w s n m (x ∷ a) (y ∷ b) [] e h = rw e (same_form w s (n + 1) (m + suc (length b)) (x ∷ a) (y ∷ b) [] (long_line (x ∷ a) h ∙ sym (long_line (y ∷ b) (omega arith))))
long_held w s n m a b (c ∷ rest) e h =
    both_cond (output_of w s) (eqb c 10)
    (λ t. rw e (same_form w s (n + 1) (m + length b + 1) a b (lines_from (n + 1) (m + length b + 1) [] rest) (long_line a h ∙ sym (long_line b (omega arith)))))
    (λ t. long_held w s n m (a ++ c ∷ []) (b ++ c ∷ []) rest (simp (length-append, e)) (simp length-append (omega arith)))
