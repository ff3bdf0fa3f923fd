-- An answer follows from its number and its value. So where a reading tells both, no two answers have the same reading.
use Rattle.std.proofs.Common.{◌≡◌, ℕ, false, cond, eqb, ap, ◌∙◌}
use Rattle.std.specs.Prelude.{Result, Ok, Err}
use Rattle.refusals.specs.Numbers.{number_of}

abbrev pub answer_of : {T R : Type 0} → (ℕ → R) → ℕ → T → Result T R
answer_of refusal n t = cond (eqb n 0) (Ok t) (Err (refusal n))

-- No refusal has the number 0, and each follows from its number.
pub record ToldApart {R : Type 0} (number : R → ℕ) (refusal : ℕ → R) : Type 0 where
  pub back : (r : R) → refusal (number r) ≡ r
  pub some_number : (r : R) → eqb (number r) 0 ≡ false

-- `value` is what an accepted answer holds, and anything where it is refused.
pub answer_back : {T R : Type 0} → {number : R → ℕ} → {refusal : ℕ → R} → ToldApart number refusal → (value : Result T R → T) → ((t : T) → value (Ok t) ≡ t) →
    (a : Result T R) → answer_of refusal (number_of number a) (value a) ≡ a
answer_back told value same (Ok t) = ap Ok (same t)
answer_back {T} {R} {number} {refusal} told value same (Err r) =
    ap (λ b. cond b (Ok (value (Err r))) (Err (refusal (number r)))) (told.some_number r) ∙ ap Err (told.back r)
