-- The whole reading is one to one as far as a caller can tell: two answers with the same reading have the same figures or the same refusal, and hand back lists that
-- lie at the same place with the same numbers.
use mathlib.Core.Path.{◌≡◌, ap}
use Rattle.comparison.proofs.ReadingLaws.{reading_one_to_one}
use Rattle.lent_comparison.specs.WholeAnswer.{whole_reading}
use Rattle.lent_comparison.specs.declared.Comparison.{Comparison}

pub record SameToACaller (c d : Comparison) : Type 0 where
  pub answers : c.answer ≡ d.answer
  pub places : c.longer.ref_ptr ≡ d.longer.ref_ptr
  pub numbers : c.longer.now ≡ d.longer.now

pub whole_reading_one_to_one : (c d : Comparison) → whole_reading c ≡ whole_reading d → SameToACaller c d
whole_reading_one_to_one c d e =
    record {
      answers = reading_one_to_one c.answer d.answer (ap (λ o. o.figures) e);
      places = ap (λ o. o.part.place) e;
      numbers = ap (λ o. o.part.numbers) e;
    }
