-- Document 02, CR 9, and the refusals 33 and 1: the point of a fix, and the outcome of the call that gives it.
use Rattle.std.specs.Prelude.{ℕ, Bool, ◌||◌, cond, pos}
use Rattle.receiver.specs.declared.Fix.{Fix}
use Rattle.receiver.specs.Floats.{not_finite, rounded}
use Rattle.outline.specs.declared.Position.{Position}
use Rattle.outline.specs.ListCall.{outside}

-- The point that a fix becomes: east and north, each rounded to a whole number, halves up.
abbrev pub fix_point : Fix → Position
fix_point f = record { x = rounded f.east; y = rounded f.north }

-- Refusal 33 of a fix: either float is infinite or not a number.
unfoldable pub fix_not_finite : Fix → Bool
fix_not_finite f = not_finite f.east || not_finite f.north

-- What the call on a fix answers: number 0 and its point, else the refusal's number and zeros.
pub record FixOutcome : Type 0 where
  pub number : ℕ
  pub point : Position

abbrev pub no_point : ℕ → FixOutcome
no_point n = record { number = n; point = record { x = pos 0; y = pos 0 } }

-- Order: 33, 1.
unfoldable pub fix_point_call : Fix → FixOutcome
fix_point_call f =
    cond (fix_not_finite f) (no_point 33)
    (cond (outside (fix_point f)) (no_point 1)
    (record { number = 0; point = fix_point f }))
