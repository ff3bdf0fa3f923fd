-- What an answer of the code says in the papers' terms.
use Rattle.std.specs.Prelude.{ℕ, Result, Ok, Err}
use Rattle.outline.specs.declared.Position.{Position}
use Rattle.outline.specs.FixCall.{FixOutcome, no_point}
use Rattle.fixes.specs.declared.FixRefusal.{FixRefusal}
use Rattle.fixes.specs.declared.FixRefusal.TheVariants.{NotFinite, OutsideLimits}

abbrev pub fix_number : FixRefusal → ℕ
fix_number NotFinite = 33
fix_number OutsideLimits = 1

-- Each case of the answer, with its number and point. Two answers never read alike (proofs/ReadingLaw).
abbrev pub reading : Result Position FixRefusal → FixOutcome
reading (Ok p) = record { number = 0; point = p }
reading (Err r) = no_point (fix_number r)
