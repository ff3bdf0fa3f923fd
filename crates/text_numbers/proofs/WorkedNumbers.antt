-- Numbers worked by computation, on both sides of each limit. A minus is 45, a digit d 48 + d, a tab 9.
use mathlib.Core.Path.{◌≡◌, refl}
use mathlib.Core.Bool.{true, false}
use mathlib.Core.List.{List, [], ◌∷◌, map}
use Prim.Native.Nat.{ℕ}
use lib.IntN.{ℤ, pos, negsuc}
use Rattle.std.specs.Prelude.{Option, None, Some}
use lib.ListN.{replicate}
use Rattle.text_numbers.specs.Numbers.{all_digits, value_from, leading_zero, is_natural, number, malformed, negative_of, natural_of, number_of}
use Rattle.text_numbers.specs.LeadingNumber.{leading_digits, sized, leading_number}
use Rattle.text_numbers.specs.declared.NumberAt.{NumberAt}

-- 0; 10; 9999; -1; -9999.
worked : map number_of ((48 ∷ []) ∷ (49 ∷ 48 ∷ []) ∷ (57 ∷ 57 ∷ 57 ∷ 57 ∷ []) ∷ (45 ∷ 49 ∷ []) ∷ (45 ∷ 57 ∷ 57 ∷ 57 ∷ 57 ∷ []) ∷ []) ≡ number (pos 0) ∷ number (pos 10) ∷ number (pos 9999) ∷ number (negsuc 0) ∷ number (negsuc 9998) ∷ []
unfolding number_of negative_of natural_of is_natural all_digits leading_zero value_from
worked = refl

-- No byte; a minus alone; -0; 00; 01; -01; 10000; -10000; +1; 1 and a space; --1; the bytes before and after the digits.
none : List (List ℕ)
none =
    []
    ∷ (45 ∷ [])
    ∷ (45 ∷ 48 ∷ [])
    ∷ (48 ∷ 48 ∷ [])
    ∷ (48 ∷ 49 ∷ [])
    ∷ (45 ∷ 48 ∷ 49 ∷ [])
    ∷ (49 ∷ 48 ∷ 48 ∷ 48 ∷ 48 ∷ [])
    ∷ (45 ∷ 49 ∷ 48 ∷ 48 ∷ 48 ∷ 48 ∷ [])
    ∷ (43 ∷ 49 ∷ [])
    ∷ (49 ∷ 32 ∷ [])
    ∷ (45 ∷ 45 ∷ 49 ∷ [])
    ∷ (47 ∷ [])
    ∷ (58 ∷ [])
    ∷ []

no_numbers : map number_of none ≡ replicate 13 malformed
unfolding none number_of negative_of natural_of is_natural all_digits leading_zero value_from
no_numbers = refl

-- 12 before a tab, behind no minus and behind one; four digits; 0 behind a minus; a tab.
found : List (Option (NumberAt ℤ))
found = Some (record { value = pos 12; size = 2 }) ∷ Some (record { value = negsuc 11; size = 3 }) ∷ Some (record { value = pos 1234; size = 4 }) ∷ None ∷ None ∷ []

leading :
    leading_number false (49 ∷ 50 ∷ 9 ∷ 51 ∷ [])
    ∷ leading_number true (49 ∷ 50 ∷ 9 ∷ 51 ∷ [])
    ∷ leading_number false (49 ∷ 50 ∷ 51 ∷ 52 ∷ [])
    ∷ leading_number true (48 ∷ 9 ∷ 49 ∷ 50 ∷ [])
    ∷ leading_number false (9 ∷ 49 ∷ 50 ∷ 51 ∷ [])
    ∷ [] ≡ found
unfolding found leading_number sized leading_digits negative_of natural_of is_natural all_digits leading_zero value_from
leading = refl
