-- What a line is read in: with fewer than 14 bytes left, their copy over the first of 14 newlines, else where it stands.
use Prim.Native.Nat.{ℕ, suc, ◌+◌, ◌-◌, ◌≤◌, ◌<◌, ◌^◌}
use mathlib.Core.Path.{◌≡◌, refl, ap, ◌∙◌}
use mathlib.Core.Bool.{cond}
use mathlib.Core.List.{List, [], ◌∷◌}
use native.Mathlib.Omega.{arith}
use lib.Dec.{ltb}
use lib.ListN.{length, drop, length-drop, length-append, replicate, get_or-replicate}
use lib.Seq.{drop-cons}
use borrow.Author.Tests.{ltb-true, ltb-false, lt-ltb, le-ltb}
use Rattle.integers.proofs.Cases.{by_cond}
use Rattle.parsing.specs.Grammar.{fields, is_byte, letter_of, form_of_fields, form_of}
use Rattle.newlines.specs.LineLength.{line_length}
use Rattle.parsing.specs.ReadForm.{Front, formed, form_at}
use Rattle.parsing.specs.private.Parts.{line_front, copied_onto}
use Rattle.parsing.proofs.FrontLaws.{front_closed, front_offset, front_next}

-- ---- the copy

abbrev pub newlines : List ℕ
newlines = replicate 14 10

-- A newline follows the copy, and ends the line where the bytes' end does.
copy_front : (bs : List ℕ) → length bs < 14 → line_front form_of (copied_onto bs newlines) 0 ≡ line_front form_of bs 0
copy_front bs few = rw behind (front_closed form_of bs (drop (suc (length bs)) newlines) 0)
  where
    behind : drop (length bs) newlines ≡ 10 ∷ drop (suc (length bs)) newlines
    behind = drop-cons newlines (length bs) 0 few ∙ ap (λ (b : ℕ). b ∷ drop (suc (length bs)) newlines) (get_or-replicate 14 (length bs) 10 0 few)

-- What the reader is given: the bytes, or a copy where they are few.
abbrev pub text_of : List ℕ → List ℕ
text_of bs = cond (ltb (length bs) 14) (copied_onto bs newlines) bs

-- The code's test tells which.
pub stands : (bs text : List ℕ) → text ≡ bs → 14 ≤ length bs → text ≡ text_of bs
stands bs text e h = rw (le-ltb (length bs) 14 h) e

pub copied : (bs text : List ℕ) → text ≡ copied_onto bs newlines → length bs < 14 → text ≡ text_of bs
copied bs text e h = rw (lt-ltb (length bs) 14 h) e

pub text_room : (bs : List ℕ) → 14 ≤ length (text_of bs)
text_room bs = by_cond (λ l. 14 ≤ length l) (ltb (length bs) 14) (λ e. simp (length-append, length-drop) (omega (arith, ltb-true (length bs) 14 e))) (λ e. ltb-false (length bs) 14 e)

text_front : (bs : List ℕ) → line_front form_of (text_of bs) 0 ≡ line_front form_of bs 0
text_front bs = by_cond (λ l. line_front form_of l 0 ≡ line_front form_of bs 0) (ltb (length bs) 14) (λ e. copy_front bs (ltb-true (length bs) 14 e)) (λ e. refl)

-- A line of no bytes has no form, and another begins before the end n.
few_next : (bs : List ℕ) (at n : ℕ) → length bs ≡ n - at → at < 2 ^ 64 → n < 2 ^ 63 → at + (line_front form_of bs 0).next < 2 ^ 64
unfolding line_front formed line_length form_of form_of_fields fields letter_of is_byte
few_next [] at n e h k = omega arith
few_next (b ∷ bs) at n e h k = omega (arith, front_next form_of (b ∷ bs) 0)

-- The line at a place, by what is read at the front of the bytes from there on.
module _ (s : List ℕ) (at : ℕ) where
  found : formed (line_front form_of (drop at s) 0).form (at + (line_front form_of (drop at s) 0).next) ≡ form_at s at
  unfolding form_at line_front
  found = let i : at + 0 ≡ at = omega arith in front_offset form_of (drop at s) 0 at ∙ ap (line_front form_of (drop at s)) i

  next_fits : at < 2 ^ 64 → length s < 2 ^ 63 → at + (line_front form_of (drop at s) 0).next < 2 ^ 64
  next_fits h k = few_next (drop at s) at (length s) (length-drop at s) h k

-- What is read at the front of the text that the code has chosen is the line at the place, and the place of the next one fits.
module _ (s : List ℕ) (at : ℕ) {text : List ℕ} {p : Front} (is : text ≡ text_of (drop at s)) (e : p ≡ line_front form_of text 0) where
  front : p ≡ line_front form_of (drop at s) 0
  front = e ∙ ap (λ l. line_front form_of l 0) is ∙ text_front (drop at s)

  pub chosen_line : formed p.form (at + p.next) ≡ form_at s at
  chosen_line = ap (λ (f : Front). formed f.form (at + f.next)) front ∙ found s at

  pub chosen_next : at < 2 ^ 64 → length s < 2 ^ 63 → at + p.next < 2 ^ 64
  chosen_next h k = rw front (next_fits s at h k)
