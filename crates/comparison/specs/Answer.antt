-- The answer of the call for the figures in document 02's terms (CR 5): the number of the refusal, and the figures, all 0 with every refusal.
use Rattle.std.specs.Prelude.{Result, Ok, Err}
use Rattle.outline_answers.specs.declared.OutlineRefusal.{OutlineRefusal}
use Rattle.outline_answers.specs.ListAnswer.{list_number}
use Rattle.two_walks.specs.declared.Figures.{Figures}
use Rattle.two_walks.specs.Comparison.{FiguresOutcome, no_figures}

abbrev pub reading : Result Figures OutlineRefusal → FiguresOutcome
reading (Ok f) = record { number = 0; figures = f }
reading (Err r) = record { number = list_number r; figures = no_figures }
