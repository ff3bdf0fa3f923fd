-- What is written where the program stops before its end is less than all of the text.
use Prim.Native.Nat.{ℕ, ◌+◌, ◌<◌}
use mathlib.Core.Path.{refl, sym, ap, ◌∙◌}
use mathlib.Core.List.{List, [], ◌∷◌}
use native.Mathlib.Omega.{arith}
use lib.ListN.{length, length-append}
use Rattle.std.specs.Prelude.{Some}
use Rattle.plots.specs.Front.{AppendsFront}

pub front_is_short : (before after text : List ℕ) → AppendsFront (Some before) (Some after) text → length after < length before + length text
front_is_short before after text (front, rest, grown, whole, some) = omega (arith, ap length grown ∙ length-append before front, ap length (sym whole) ∙ length-append front rest, some)

-- Of two bytes, none or one may be written.
none-of-two : AppendsFront (Some []) (Some []) (83 ∷ 10 ∷ [])
none-of-two = ([], 83 ∷ 10 ∷ [], refl, refl, omega arith)

one-of-two : AppendsFront (Some []) (Some (83 ∷ [])) (83 ∷ 10 ∷ [])
one-of-two = (83 ∷ [], 10 ∷ [], refl, refl, omega arith)

two-of-two : AppendsFront (Some []) (Some (83 ∷ 10 ∷ [])) (83 ∷ 10 ∷ []) → ⊥
two-of-two f = let short = front_is_short [] (83 ∷ 10 ∷ []) (83 ∷ 10 ∷ []) f in omega arith
