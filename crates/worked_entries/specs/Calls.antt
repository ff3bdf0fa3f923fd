-- The calls of a walk that the rows of document 02, CR 9 tell, and what each answers and leaves.
use Rattle.std.specs.Prelude.{ℕ, Float, Result, Ok, Err}
use Rattle.refusals.specs.Numbers.{number_of}
use Rattle.receiver.specs.Floats.{plus_zero}
use Rattle.outline.specs.EdgeSums.{zeros}
use Rattle.outline.specs.declared.Totals.{Totals}
use Rattle.outline.specs.declared.Sheet.{Sheet}
use Rattle.outline.specs.WalkCalls.{WalkOutcome, EndOutcome, begin_call, end_call}
use Rattle.outline.specs.EntryCalls.{entry_call}
use Rattle.outline_answers.specs.WalkAnswers.{entry_number, begin_number, end_number}
use Rattle.outline_answers.specs.declared.Ended.{Ended}
use Rattle.worked_entries.specs.declared.calls.Call.{Call}
use Rattle.worked_entries.specs.declared.calls.Call.TheVariants.{Entry, Begin, End}
use Rattle.worked_entries.specs.declared.calls.CallRefusal.{CallRefusal}
use Rattle.worked_entries.specs.declared.calls.CallRefusal.TheVariants as refusal
use Rattle.worked_entries.specs.declared.calls.Held.{Held}
use Rattle.worked_entries.specs.declared.calls.Told.{Told}

-- The number of a call's refusal is that of the entry's, the begin's or the end's.
abbrev pub call_number : CallRefusal → ℕ
call_number (refusal.Entry r) = entry_number r
call_number (refusal.Begin r) = begin_number r
call_number (refusal.End r) = end_number r

abbrev pub told_totals : Result Ended CallRefusal → Totals
told_totals (Ok e) = e.totals
told_totals (Err r) = zeros

abbrev pub told_outage : Result Ended CallRefusal → Float
told_outage (Ok e) = e.outage
told_outage (Err r) = plus_zero

-- What the code tells of a call, in the terms of an end.
abbrev pub told_reading : Told → EndOutcome
told_reading t = record { number = number_of call_number t.answer; totals = told_totals t.answer; outage = told_outage t.answer; walk = t.left.walk; sheet = t.left.sheet }

-- A call that answers no totals and leaves the sheet as it is.
abbrev pub beside_sheet : WalkOutcome → Sheet → EndOutcome
beside_sheet o s = record { number = o.number; totals = zeros; outage = plus_zero; walk = o.walk; sheet = s }

-- Each call on a walk and a sheet.
abbrev pub carried_out : Call → Held → EndOutcome
carried_out (Entry e) h = beside_sheet (entry_call h.walk e) h.sheet
carried_out (Begin k) h = beside_sheet (begin_call h.walk k) h.sheet
carried_out End h = end_call h.walk h.sheet
