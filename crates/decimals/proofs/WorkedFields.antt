-- Fields worked by computation, and both sides of the room that one asks for. A tab is 9, a minus 45, a digit d 48 + d.
use mathlib.Core.Path.{◌≡◌, refl, ap}
use mathlib.Core.List.{[], ◌∷◌, map}
use native.Mathlib.Omega.{arith}
use lib.IntN.{pos, negsuc}
use lib.ListN.{length, replicate}
use Rattle.decimals.specs.Decimal.{digits, decimal, signed, field}
use Rattle.decimals.specs.private.Digits.{last_digits}
use Rattle.decimals.specs.Buffer.{field_room, if_room}
use Rattle.decimals.proofs.DigitLaws.{decimal_pieces}

-- 0; 10; -1.
fields : map field (pos 0 ∷ pos 10 ∷ negsuc 0 ∷ []) ≡ (9 ∷ 48 ∷ []) ∷ (9 ∷ 49 ∷ 48 ∷ []) ∷ (9 ∷ 45 ∷ 49 ∷ []) ∷ []
unfolding signed decimal digits
fields = refl

-- The least number of 64 bits, -9223372036854775808.
least : field (negsuc 9223372036854775807) ≡ 9 ∷ 45 ∷ 57 ∷ 50 ∷ 50 ∷ 51 ∷ 51 ∷ 55 ∷ 50 ∷ 48 ∷ 51 ∷ 54 ∷ 56 ∷ 53 ∷ 52 ∷ 55 ∷ 55 ∷ 53 ∷ 56 ∷ 48 ∷ 56 ∷ []
unfolding signed decimal digits last_digits
least = ap (λ text. 9 ∷ 45 ∷ text) (decimal_pieces 18 9223372036854775808 (omega arith))

-- The greatest without a sign, 2^64 - 1.
greatest_length : length (decimal 18446744073709551615) ≡ 20
unfolding decimal digits last_digits
greatest_length = ap length (decimal_pieces 19 18446744073709551615 (omega arith))

-- From place 1 on, 21 bytes are room enough; 20 are not.
room_enough : if_room field_room (replicate 22 0) 1 (field (pos 0)) ≡ 9 ∷ 48 ∷ []
unfolding signed decimal digits
room_enough = refl

room_short : if_room field_room (replicate 21 0) 1 (field (pos 0)) ≡ []
unfolding signed decimal digits
room_short = refl
