-- Lines of none of the forms: those of over 32 bytes, and those that begin with a zero byte.
use Prim.Native.Nat.{ℕ, suc, ◌<◌}
use mathlib.Core.Path.{◌≡◌, refl}
use mathlib.Core.List.{List, [], ◌∷◌, ◌++◌}
use lib.ListN.{length, replicate}
use lib.Dec.{ltb}
use borrow.Author.Tests.{lt-ltb}
use Rattle.parsing.specs.Grammar.{other, is_byte, letter_of, with_first, fields, form_of_fields, form_of}
use Rattle.integers.proofs.Cases.{by_cond}

-- Of a line of over 32 bytes it matters no more what they are.
pub long_line : (bs : List ℕ) → 32 < length bs → form_of bs ≡ other
unfolding form_of
long_line bs h = rw (lt-ltb 32 (length bs) h)

-- A first field that begins with a zero byte is no letter.
zero_first : (fs : List (List ℕ)) → form_of_fields (with_first 0 fs) ≡ other
unfolding with_first form_of_fields letter_of is_byte
zero_first [] = refl
zero_first ([] ∷ []) = refl
zero_first ((b ∷ f) ∷ []) = refl
zero_first ([] ∷ x ∷ []) = refl
zero_first ((b ∷ f) ∷ x ∷ []) = refl
zero_first ([] ∷ x ∷ y ∷ []) = refl
zero_first ((b ∷ f) ∷ x ∷ y ∷ []) = refl
zero_first (f ∷ x ∷ y ∷ z ∷ fs) = refl

-- No form has a zero byte in front: zeros stand for bytes that are gone.
pub zeros_line : (k : ℕ) (bs : List ℕ) → form_of (replicate (suc k) 0 ++ bs) ≡ other
unfolding form_of fields
zeros_line k bs = by_cond (λ f. f ≡ other) (ltb 32 (suc (length (replicate k 0 ++ bs)))) (λ e. refl) (λ e. zero_first (fields (replicate k 0 ++ bs)))
