-- The number at a place is the sign of its first byte and the natural of the four bytes behind it.
use Prim.Native.Nat.{ℕ, suc, ◌+◌, ◌≤◌}
use mathlib.Core.Path.{◌≡◌, refl, sym, ap, ◌∙◌}
use mathlib.Core.Bool.{Bool, true, false, cond}
use mathlib.Core.List.{List, [], ◌∷◌}
use native.Mathlib.Omega.{arith}
use native.Mathlib.Nat.{zero-add}
use lib.Dec.{eqb}
use lib.ListN.{length, take, drop, get_or}
use mir.Val.{bool_byte}
use Rattle.newlines.proofs.Newlines.{byte_at}
use Rattle.text_numbers.specs.Numbers.{is_digit, all_digits, is_natural, Number, negative_of, natural_of, number_of}
use Rattle.text_numbers.specs.LeadingNumber.{leading_digits, sized, leading_number}
use Rattle.text_numbers.specs.declared.NumberAt.{NumberAt}
use Rattle.std.specs.Prelude.{Option, ℤ}
use Rattle.parsing.specs.private.Parts.{number_token, number_at}

signed-digits : (b : ℕ) (ds : List ℕ) → eqb b 45 ≡ true → number_of (b ∷ ds) ≡ negative_of ds
unfolding number_of
signed-digits b ds h = rw h

unsigned_digits : (b : ℕ) (bs : List ℕ) → eqb b 45 ≡ false → number_of (leading_digits (b ∷ bs)) ≡ natural_of (leading_digits (b ∷ bs))
unfolding number_of natural_of leading_digits is_natural all_digits
unsigned_digits b bs h = go (is_digit b)
  where
    go : (t : Bool) → number_of (cond t (b ∷ leading_digits bs) []) ≡ natural_of (cond t (b ∷ leading_digits bs) [])
    go true = rw h
    go false = refl

number-reads : (b : ℕ) (bs : List ℕ) → number_at (b ∷ bs) ≡ leading_number (eqb b 45) (take 4 (cond (eqb b 45) bs (b ∷ bs)))
unfolding number_at number_token leading_number
number-reads b bs = go (eqb b 45) refl
  where
    token : Bool → List ℕ
    token t = cond t (b ∷ leading_digits (take 4 bs)) (leading_digits (take 4 (b ∷ bs)))

    one_more : suc (length (leading_digits (take 4 bs))) ≡ 1 + length (leading_digits (take 4 bs))
    one_more = omega arith

    go : (t : Bool) → eqb b 45 ≡ t → sized (number_of (token t)) (length (token t)) ≡ leading_number t (take 4 (cond t bs (b ∷ bs)))
    go true e = ap (λ (n : Number). sized n (length (b ∷ leading_digits (take 4 bs)))) (signed-digits b (leading_digits (take 4 bs)) e) ∙ ap (sized (negative_of (leading_digits (take 4 bs)))) one_more
    go false e = ap (λ (n : Number). sized n (length (leading_digits (take 4 (b ∷ bs))))) (unsigned_digits b (take 3 bs) e) ∙ ap (sized (natural_of (leading_digits (take 4 (b ∷ bs))))) (sym (zero-add (length (leading_digits (take 4 (b ∷ bs))))))

-- ---- places

pub four_bytes : (s : List ℕ) (i : ℕ) → i + 4 ≤ length s → drop i s ≡ get_or s i 0 ∷ get_or s (i + 1) 0 ∷ get_or s (i + 2) 0 ∷ get_or s (i + 3) 0 ∷ drop (i + 4) s
four_bytes s i h =
    let a : drop i s ≡ get_or s i 0 ∷ drop (i + 1) s = byte_at s i (omega arith) in
    let b : drop (i + 1) s ≡ get_or s (i + 1) 0 ∷ drop (i + 1 + 1) s = byte_at s (i + 1) (omega arith) in
    let c : drop (i + 2) s ≡ get_or s (i + 2) 0 ∷ drop (i + 2 + 1) s = byte_at s (i + 2) (omega arith) in
    let d : drop (i + 3) s ≡ get_or s (i + 3) 0 ∷ drop (i + 3 + 1) s = byte_at s (i + 3) (omega arith) in
    let e : i + 1 + 1 ≡ i + 2 = omega arith in
    let f : i + 2 + 1 ≡ i + 3 = omega arith in
    let g : i + 3 + 1 ≡ i + 4 = omega arith in
    rw (a, b, e, c, f, d, g)

four-at : (s : List ℕ) (i : ℕ) → i + 4 ≤ length s → take 4 (drop i s) ≡ get_or s i 0 ∷ get_or s (i + 1) 0 ∷ get_or s (i + 2) 0 ∷ get_or s (i + 3) 0 ∷ []
four-at s i h = ap (take 4) (four_bytes s i h)

-- The four bytes behind the minus, if there is one.
behind_minus : (s : List ℕ) (at : ℕ) → at + 5 ≤ length s → (m : Bool) → let i = at + bool_byte m in take 4 (cond m (drop (at + 1) s) (get_or s at 0 ∷ drop (at + 1) s)) ≡ get_or s i 0 ∷ get_or s (i + 1) 0 ∷ get_or s (i + 2) 0 ∷ get_or s (i + 3) 0 ∷ []
behind_minus s at h true = four-at s (at + 1) (omega arith)
behind_minus s at h false = let e : at + 0 ≡ at = omega arith in rw e (ap (take 4) (sym (byte_at s at (omega arith))) ∙ four-at s at (omega arith))

-- The number at a place, by the bytes that the code reads.
pub number-at : (s : List ℕ) (at : ℕ) → at + 5 ≤ length s → {r : Option (NumberAt ℤ)} → (let m = eqb (get_or s at 0) 45 in let i = at + bool_byte m in r ≡ leading_number m (get_or s i 0 ∷ get_or s (i + 1) 0 ∷ get_or s (i + 2) 0 ∷ get_or s (i + 3) 0 ∷ [])) → r ≡ number_at (drop at s)
number-at s at h e =
    let m = eqb (get_or s at 0) 45 in
    e
    ∙ sym (ap number_at (byte_at s at (omega arith))
    ∙ number-reads (get_or s at 0) (drop (at + 1) s)
    ∙ ap (leading_number m) (behind_minus s at h m))
