-- The replies of begin, abandon, point, entry and end in the terms of document 01 ("Turned back because of the input", ".. of the state") and 02: the answer's number, 0 where
-- it accepts, and what the call leaves; with end the totals and the longest outage, which are zeros and plus zero with every refusal.
use Rattle.std.specs.Prelude.{ℕ, Float, Result, Ok, Err}
use Rattle.refusals.specs.Numbers.{number_of}
use Rattle.receiver.specs.Floats.{plus_zero}
use Rattle.outline.specs.declared.Totals.{Totals}
use Rattle.outline.specs.EdgeSums.{zeros}
use Rattle.outline.specs.WalkCalls.{WalkOutcome, EndOutcome}
use Rattle.outline_answers.specs.declared.WalkReply.{WalkReply}
use Rattle.outline_answers.specs.declared.PointRefusal.{PointRefusal}
use Rattle.outline_answers.specs.declared.PointRefusal.TheVariants as point
use Rattle.outline_answers.specs.declared.EntryRefusal.{EntryRefusal}
use Rattle.outline_answers.specs.declared.EntryRefusal.TheVariants as entry
use Rattle.outline_answers.specs.declared.Ended.{Ended}
use Rattle.outline_answers.specs.declared.EndRefusal.{EndRefusal}
use Rattle.outline_answers.specs.declared.EndRefusal.TheVariants as end
use Rattle.outline_answers.specs.declared.EndReply.{EndReply}
use Rattle.outline_answers.specs.declared.BeginRefusal.{BeginRefusal}
use Rattle.outline_answers.specs.declared.BeginRefusal.TheVariants as begin
use Rattle.outline_answers.specs.declared.AbandonRefusal.{AbandonRefusal}
use Rattle.outline_answers.specs.declared.AbandonRefusal.TheVariants as abandon

-- ---- a call that leaves the sheet alone, by the numbers of its refusals

abbrev pub walk_reading : {R : Type 0} → (R → ℕ) → WalkReply R → WalkOutcome
walk_reading number r = record { number = number_of number r.answer; walk = r.walk }

-- ---- begin

abbrev pub begin_number : BeginRefusal → ℕ
begin_number begin.Impossible = 28
begin_number begin.AlreadyOpen = 22

abbrev pub begin_reading : WalkReply BeginRefusal → WalkOutcome
begin_reading r = walk_reading begin_number r

-- ---- abandon

abbrev pub abandon_number : AbandonRefusal → ℕ
abandon_number abandon.Impossible = 28
abandon_number abandon.NotOpen = 21

abbrev pub abandon_reading : WalkReply AbandonRefusal → WalkOutcome
abandon_reading r = walk_reading abandon_number r

-- ---- point

abbrev pub point_number : PointRefusal → ℕ
point_number point.Impossible = 28
point_number point.NotOpen = 21
point_number point.OutsideLimits = 1
point_number point.Full = 23

abbrev pub point_reading : WalkReply PointRefusal → WalkOutcome
point_reading r = walk_reading point_number r

-- ---- an entry: 33 and 34 are of document 02, CR 9

abbrev pub entry_number : EntryRefusal → ℕ
entry_number entry.Impossible = 28
entry_number entry.NotOpen = 21
entry_number entry.NotFinite = 33
entry_number entry.BelowZero = 34
entry_number entry.OutsideLimits = 1
entry_number entry.Full = 23

abbrev pub entry_reading : WalkReply EntryRefusal → WalkOutcome
entry_reading r = walk_reading entry_number r

-- ---- end: 32 is of document 02, CR 3

abbrev pub end_number : EndRefusal → ℕ
end_number end.Impossible = 28
end_number end.NotOpen = 21
end_number end.TooFewPoints = 24
end_number end.ZeroArea = 32
end_number end.SheetFull = 25
end_number end.SheetExceeded = 26

abbrev pub end_totals : Result Ended EndRefusal → Totals
end_totals (Ok e) = e.totals
end_totals (Err r) = zeros

abbrev pub end_outage : Result Ended EndRefusal → Float
end_outage (Ok e) = e.outage
end_outage (Err r) = plus_zero

abbrev pub end_reading : EndReply → EndOutcome
end_reading r = record { number = number_of end_number r.answer; totals = end_totals r.answer; outage = end_outage r.answer; walk = r.walk; sheet = r.sheet }
