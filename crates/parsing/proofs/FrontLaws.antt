-- How the first line of bytes is found byte by byte: a byte that is no newline joins the rule; a newline ends the line.
use Prim.Native.Nat.{ℕ, suc, ◌+◌, ◌≤◌}
use mathlib.Core.Path.{◌≡◌, refl, sym, ap, ◌∙◌}
use mathlib.Core.Bool.{Bool, true, false, cond}
use mathlib.Core.List.{List, [], ◌∷◌, ◌++◌}
use native.Mathlib.Omega.{arith}
use lib.Dec.{eqb}
use lib.ListN.{length, take}
use borrow.Author.Tests.{eqb-false, ne_eqb}
use Rattle.parsing.specs.Grammar.{Form, begin, end, abandon, point, other}
use Rattle.parsing.proofs.Tokens.{Plain}
use Rattle.newlines.specs.LineLength.{line_length}
use Rattle.newlines.proofs.Newlines.{line_within}
use Rattle.parsing.specs.ReadForm.{no_form, formed}
use Rattle.parsing.specs.private.Parts.{line_front}

pub formed-other : (next : ℕ) → formed other next ≡ no_form
unfolding formed
formed-other next = refl

-- A newline ends the line.
pub front_end : (rule : List ℕ → Form) (bs : List ℕ) (at : ℕ) → line_front rule (10 ∷ bs) at ≡ formed (rule []) (at + 1)
unfolding line_front line_length
front_end rule bs at = let e : at + 0 + 1 ≡ at + 1 = omega arith in rw e

-- Another byte stands in the line.
pub front_step : (rule : List ℕ → Form) (b : ℕ) (bs : List ℕ) (at : ℕ) → (b ≡ 10 → ⊥) → line_front rule (b ∷ bs) at ≡ line_front (λ t. rule (b ∷ t)) bs (at + 1)
unfolding line_front line_length
front_step rule b bs at h = let e : at + suc (line_length bs) + 1 ≡ at + 1 + line_length bs + 1 = omega arith in rw (ne_eqb b 10 h, e)

-- Two rules that agree on every line that begins so find the same.
pub front_same : (f g : List ℕ → Form) (b : ℕ) (bs : List ℕ) (at : ℕ) → f [] ≡ g [] → ((t : List ℕ) → f (b ∷ t) ≡ g (b ∷ t)) → line_front f (b ∷ bs) at ≡ line_front g (b ∷ bs) at
unfolding line_front line_length
front_same f g b bs at e h = go (eqb b 10)
  where
    go : (t : Bool) → let n = cond t 0 (suc (line_length bs)) in formed (f (take n (b ∷ bs))) (at + n + 1) ≡ formed (g (take n (b ∷ bs))) (at + n + 1)
    go true = rw e
    go false = rw (h (take (line_length bs) bs))

-- A rule that refuses every line finds nothing.
pub front_none : (rule : List ℕ → Form) (bs : List ℕ) (at : ℕ) → ((t : List ℕ) → rule t ≡ other) → line_front rule bs at ≡ no_form
unfolding line_front formed
front_none rule bs at h = rw (h (take (line_length bs) bs))

-- So does one that refuses the empty line and every line with that first byte.
pub front_refused : (rule : List ℕ → Form) (b : ℕ) (bs : List ℕ) (at : ℕ) → rule [] ≡ other → ((t : List ℕ) → rule (b ∷ t) ≡ other) → line_front rule (b ∷ bs) at ≡ no_form
front_refused rule b bs at e h = front_same rule (λ t. other) b bs at e h ∙ front_none (λ t. other) (b ∷ bs) at (λ t. refl)

-- Bytes without a newline stand in the line.
pub front_skip : (rule : List ℕ → Form) (ps bs : List ℕ) (at : ℕ) → Plain ps → line_front rule (ps ++ bs) at ≡ line_front (λ t. rule (ps ++ t)) bs (at + length ps)
unfolding Plain
front_skip rule [] bs at p = let e : at + 0 ≡ at = omega arith in rw e
front_skip rule (b ∷ ps) bs at p =
    let e : at + 1 + length ps ≡ at + suc (length ps) = omega arith in
    front_step rule b (ps ++ bs) at p.1 ∙ (front_skip (λ t. rule (b ∷ t)) ps bs (at + 1) p.2 ∙ rw e)

-- A newline behind bytes ends their first line where their end would.
pub front_closed : (rule : List ℕ → Form) (bs r : List ℕ) (at : ℕ) → line_front rule (bs ++ 10 ∷ r) at ≡ line_front rule bs at
unfolding line_front line_length
front_closed rule [] r at = refl
front_closed rule (b ∷ bs) r at = go (front_closed (λ t. rule (b ∷ t)) bs r (at + 1)) (eqb b 10) refl
  where
    go : line_front (λ t. rule (b ∷ t)) (bs ++ 10 ∷ r) (at + 1) ≡ line_front (λ t. rule (b ∷ t)) bs (at + 1) → (t : Bool) → eqb b 10 ≡ t → line_front rule (b ∷ bs ++ 10 ∷ r) at ≡ line_front rule (b ∷ bs) at
    go i true e = rw e
    go i false e = let h = eqb-false b 10 e in front_step rule b (bs ++ 10 ∷ r) at h ∙ (i ∙ sym (front_step rule b bs at h))

-- ---- the place of the next line

-- A line that stands k bytes further on.
pub front_offset : (rule : List ℕ → Form) (bs : List ℕ) (at k : ℕ) → formed (line_front rule bs at).form (k + (line_front rule bs at).next) ≡ line_front rule bs (k + at)
unfolding line_front formed
front_offset rule bs at k =
    let e : k + (at + line_length bs + 1) ≡ k + at + line_length bs + 1 = omega arith in
    go (rule (take (line_length bs) bs)) (at + line_length bs + 1) ∙ ap (formed (rule (take (line_length bs) bs))) e
  where
    go : (f : Form) (n : ℕ) → formed (formed f n).form (k + (formed f n).next) ≡ formed f (k + n)
    go (begin kind) n = refl
    go end n = refl
    go abandon n = refl
    go (point x y) n = refl
    go other n = refl

-- It is one past the bytes at most.
pub front_next : (rule : List ℕ → Form) (bs : List ℕ) (at : ℕ) → (line_front rule bs at).next ≤ at + length bs + 1
unfolding line_front formed
front_next rule bs at = omega (arith, line_within bs, go (rule (take (line_length bs) bs)) (at + line_length bs + 1))
  where
    go : (f : Form) (n : ℕ) → (formed f n).next ≤ n
    go (begin kind) n = omega arith
    go end n = omega arith
    go abandon n = omega arith
    go (point x y) n = omega arith
    go other n = omega arith
