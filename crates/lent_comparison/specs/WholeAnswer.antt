-- The whole answer of a comparison in document 02's terms (CR 5): the figures, and where the part handed back lies, with its numbers.
use Rattle.two_walks.specs.Comparison.{ComparisonOutcome, lent}
use Rattle.comparison.specs.Answer.{reading}
use Rattle.lent_comparison.specs.declared.Comparison.{Comparison}

abbrev pub whole_reading : Comparison → ComparisonOutcome
whole_reading c = record { figures = reading c.answer; part = lent c.longer }
