-- What end hands back, by what it tells and leaves or why it refuses.
use Rattle.std.specs.Prelude.{Result, Ok, Err}
use Rattle.outline.specs.declared.Walk.{Walk}
use Rattle.outline.specs.declared.Sheet.{Sheet}
use Rattle.outline.specs.WalkCalls.{closed}
use Rattle.outline_answers.specs.declared.Ended.{Ended}
use Rattle.outline_answers.specs.declared.EndRefusal.{EndRefusal}
use Rattle.outline_answers.specs.declared.EndReply.{EndReply}

-- The walk and the sheet handed in come back with every refusal.
abbrev pub end_replied : Walk → Sheet → Result (Ended × Sheet) EndRefusal → EndReply
end_replied w s (Ok told) = record { answer = Ok told.0; walk = closed; sheet = told.1 }
end_replied w s (Err r) = record { answer = Err r; walk = w; sheet = s }
