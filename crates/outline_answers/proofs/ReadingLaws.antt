-- The readings are one to one: a reply of each call follows from its number and its values. So no two replies have the same reading. And each refusal has the number that
-- its name stands for.
use mathlib.Core.Path.{◌≡◌, refl, sym, ◌∙◌, ap}
use mathlib.Core.Bool.{cond}
use mathlib.Core.List.{[], ◌∷◌, map}
use Prim.Native.Nat.{ℕ}
use lib.Dec.{eqb}
use lib.Ieee.{Float}
use lib.ListN.{replicate}
use Rattle.std.specs.Prelude.{Result, Ok, Err}
use Rattle.refusals.specs.Numbers.{number_of}
use Rattle.refusals.proofs.AnswerLaws.{answer_of, ToldApart, answer_back}
use Rattle.receiver.specs.Floats.{plus_zero}
use Rattle.outline.specs.declared.Totals.{Totals}
use Rattle.outline.specs.EdgeSums.{zeros}
use Rattle.outline_answers.specs.declared.OutlineRefusal.{OutlineRefusal}
use Rattle.outline_answers.specs.declared.OutlineRefusal.TheVariants as outline
use Rattle.outline_answers.specs.declared.WalkReply.{WalkReply}
use Rattle.outline_answers.specs.declared.PointRefusal.{PointRefusal}
use Rattle.outline_answers.specs.declared.PointRefusal.TheVariants as point
use Rattle.outline_answers.specs.declared.EntryRefusal.{EntryRefusal}
use Rattle.outline_answers.specs.declared.EntryRefusal.TheVariants as entry
use Rattle.outline_answers.specs.declared.Ended.{Ended}
use Rattle.outline_answers.specs.declared.EndRefusal.{EndRefusal}
use Rattle.outline_answers.specs.declared.EndRefusal.TheVariants as end
use Rattle.outline_answers.specs.declared.EndReply.{EndReply}
use Rattle.outline_answers.specs.declared.BeginRefusal.{BeginRefusal}
use Rattle.outline_answers.specs.declared.BeginRefusal.TheVariants as begin
use Rattle.outline_answers.specs.declared.AbandonRefusal.{AbandonRefusal}
use Rattle.outline_answers.specs.declared.AbandonRefusal.TheVariants as abandon
use Rattle.outline_answers.specs.ListAnswer.{reading}
use Rattle.outline_answers.specs.WalkAnswers.{walk_reading, begin_number, begin_reading, abandon_number, abandon_reading, point_number, point_reading, entry_number, entry_reading, end_number, end_totals, end_outage, end_reading}

-- ---- a call that leaves the sheet alone: its reply follows from number and walk where each refusal follows from its number, and none has 0

walk_back : {R : Type 0} → {number : R → ℕ} → {refusal : ℕ → R} → ToldApart number refusal → (r s : WalkReply R) → walk_reading number r ≡ walk_reading number s → r ≡ s
walk_back {R} {number} {refusal} told r s e = λ i. record { answer = (sym (answer_back told (λ a. tt) (λ t. refl) r.answer) ∙ ap (λ o. answer_of refusal o.number tt) e ∙ answer_back told (λ a. tt) (λ t. refl) s.answer) i; walk = (e i).walk }

-- ---- begin

abbrev begin_of : ℕ → BeginRefusal
begin_of n = cond (eqb n 28) begin.Impossible begin.AlreadyOpen

begin_told : ToldApart begin_number begin_of
begin_told = record { back = elim [ begin.Impossible ↦ refl | begin.AlreadyOpen ↦ refl ]; some_number = elim [ begin.Impossible ↦ refl | begin.AlreadyOpen ↦ refl ] }

pub begin_reading_one_to_one : (r s : WalkReply BeginRefusal) → begin_reading r ≡ begin_reading s → r ≡ s
begin_reading_one_to_one r s e = walk_back begin_told r s e

-- ---- abandon

abbrev abandon_of : ℕ → AbandonRefusal
abandon_of n = cond (eqb n 28) abandon.Impossible abandon.NotOpen

abandon_told : ToldApart abandon_number abandon_of
abandon_told = record { back = elim [ abandon.Impossible ↦ refl | abandon.NotOpen ↦ refl ]; some_number = elim [ abandon.Impossible ↦ refl | abandon.NotOpen ↦ refl ] }

pub abandon_reading_one_to_one : (r s : WalkReply AbandonRefusal) → abandon_reading r ≡ abandon_reading s → r ≡ s
abandon_reading_one_to_one r s e = walk_back abandon_told r s e

-- ---- the call on a whole list

abbrev list_of : ℕ → OutlineRefusal
list_of n = cond (eqb n 2) outline.WrongLength outline.OutsideLimits

abbrev outline_of : ℕ → Totals → Result Totals OutlineRefusal
outline_of n t = answer_of list_of n t

outline_back : (a : Result Totals OutlineRefusal) → outline_of (reading a).number (reading a).totals ≡ a
outline_back (Ok t) = refl
outline_back (Err outline.WrongLength) = refl
outline_back (Err outline.OutsideLimits) = refl

pub reading_one_to_one : (a b : Result Totals OutlineRefusal) → reading a ≡ reading b → a ≡ b
reading_one_to_one a b e = sym (outline_back a) ∙ ap (λ r. outline_of r.number r.totals) e ∙ outline_back b

-- ---- point

abbrev point_of : ℕ → PointRefusal
point_of n = cond (eqb n 28) point.Impossible (cond (eqb n 21) point.NotOpen (cond (eqb n 1) point.OutsideLimits point.Full))

point_told : ToldApart point_number point_of
point_told = record { back = elim [ point.Impossible ↦ refl | point.NotOpen ↦ refl | point.OutsideLimits ↦ refl | point.Full ↦ refl ]; some_number = elim [ point.Impossible ↦ refl | point.NotOpen ↦ refl | point.OutsideLimits ↦ refl | point.Full ↦ refl ] }

pub point_reading_one_to_one : (r s : WalkReply PointRefusal) → point_reading r ≡ point_reading s → r ≡ s
point_reading_one_to_one r s e = walk_back point_told r s e

-- ---- an entry

abbrev entry_of : ℕ → EntryRefusal
entry_of n = cond (eqb n 28) entry.Impossible (cond (eqb n 21) entry.NotOpen (cond (eqb n 33) entry.NotFinite (cond (eqb n 34) entry.BelowZero (cond (eqb n 1) entry.OutsideLimits entry.Full))))

entry_told : ToldApart entry_number entry_of
entry_told = record { back = elim [ entry.Impossible ↦ refl | entry.NotOpen ↦ refl | entry.NotFinite ↦ refl | entry.BelowZero ↦ refl | entry.OutsideLimits ↦ refl | entry.Full ↦ refl ]; some_number = elim [ entry.Impossible ↦ refl | entry.NotOpen ↦ refl | entry.NotFinite ↦ refl | entry.BelowZero ↦ refl | entry.OutsideLimits ↦ refl | entry.Full ↦ refl ] }

pub entry_reading_one_to_one : (r s : WalkReply EntryRefusal) → entry_reading r ≡ entry_reading s → r ≡ s
entry_reading_one_to_one r s e = walk_back entry_told r s e

-- ---- end

abbrev end_of : ℕ → EndRefusal
end_of n = cond (eqb n 28) end.Impossible (cond (eqb n 21) end.NotOpen (cond (eqb n 24) end.TooFewPoints (cond (eqb n 32) end.ZeroArea (cond (eqb n 25) end.SheetFull end.SheetExceeded))))

abbrev ended_of : ℕ → Totals → Float → Result Ended EndRefusal
ended_of n t o = answer_of end_of n (record { totals = t; outage = o })

end_back : (a : Result Ended EndRefusal) → ended_of (number_of end_number a) (end_totals a) (end_outage a) ≡ a
end_back (Ok e) = refl
end_back (Err end.Impossible) = refl
end_back (Err end.NotOpen) = refl
end_back (Err end.TooFewPoints) = refl
end_back (Err end.ZeroArea) = refl
end_back (Err end.SheetFull) = refl
end_back (Err end.SheetExceeded) = refl

pub end_reading_one_to_one : (r s : EndReply) → end_reading r ≡ end_reading s → r ≡ s
end_reading_one_to_one r s e = λ i. record { answer = (sym (end_back r.answer) ∙ ap (λ o. ended_of o.number o.totals o.outage) e ∙ end_back s.answer) i; walk = (e i).walk; sheet = (e i).sheet }

-- Every refused end reads zeros and plus zero.
refused-ends : map {B = Totals × Float} (λ r. (end_totals (Err r), end_outage (Err r))) (end.Impossible ∷ end.NotOpen ∷ end.TooFewPoints ∷ end.ZeroArea ∷ end.SheetFull ∷ end.SheetExceeded ∷ []) ≡ replicate 6 (zeros, plus_zero)
refused-ends = refl

-- ---- the numbers by the names of the refusals

record Numbered : Type 0 where
  list : map (λ r. (reading (Err r)).number) (outline.OutsideLimits ∷ outline.WrongLength ∷ []) ≡ 1 ∷ 2 ∷ []
  begun : map begin_number (begin.Impossible ∷ begin.AlreadyOpen ∷ []) ≡ 28 ∷ 22 ∷ []
  abandoned : map abandon_number (abandon.Impossible ∷ abandon.NotOpen ∷ []) ≡ 28 ∷ 21 ∷ []
  pointed : map point_number (point.Impossible ∷ point.NotOpen ∷ point.OutsideLimits ∷ point.Full ∷ []) ≡ 28 ∷ 21 ∷ 1 ∷ 23 ∷ []
  entered : map entry_number (entry.Impossible ∷ entry.NotOpen ∷ entry.NotFinite ∷ entry.BelowZero ∷ entry.OutsideLimits ∷ entry.Full ∷ []) ≡ 28 ∷ 21 ∷ 33 ∷ 34 ∷ 1 ∷ 23 ∷ []
  ended : map end_number (end.Impossible ∷ end.NotOpen ∷ end.TooFewPoints ∷ end.ZeroArea ∷ end.SheetFull ∷ end.SheetExceeded ∷ []) ≡ 28 ∷ 21 ∷ 24 ∷ 32 ∷ 25 ∷ 26 ∷ []

numbered : Numbered
numbered = record { list = refl; begun = refl; abandoned = refl; pointed = refl; entered = refl; ended = refl }
