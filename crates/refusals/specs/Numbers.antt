-- The number that an answer tells: 0 where it has a value, else that of the refusal.
use Rattle.std.specs.Prelude.{ℕ, Result, Ok, Err}

abbrev pub number_of : {T R : Type 0} → (R → ℕ) → Result T R → ℕ
number_of number (Ok t) = 0
number_of number (Err r) = number r
