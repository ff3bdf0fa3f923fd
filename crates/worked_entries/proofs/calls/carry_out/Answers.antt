-- `worked_entries::calls::carry_out` meets its contract: the number is that of the call's own refusal.
use mathlib.Core.Path.{◌≡◌, refl, sym, ◌∙◌, ap}
use Prim.Native.Nat.{ℕ}
use Rattle.std.specs.Prelude.{Result, Ok, Err, MatchResult, IsErrAnd}
use Rattle.refusals.specs.Numbers.{number_of}
use Rattle.outline_answers.specs.WalkAnswers.{entry_number, begin_number}
use Rattle.worked_entries.specs.declared.calls.CallRefusal.{CallRefusal}
use Rattle.worked_entries.specs.declared.calls.CallRefusal.TheVariants as refusal
use Rattle.worked_entries.specs.Calls.{call_number, beside_sheet, carried_out}
use Rattle.worked_entries.proofs.calls.carry_out.Goals as goal

renumbered : {R : Type 0} (number : R → ℕ) (of : R → CallRefusal) → ((r : R) → call_number (of r) ≡ number r) → (a : Result (Unit {0}) R) (b : Result (Unit {0}) CallRefusal) →
    MatchResult a (λ x. b ≡ Ok x) (λ r. IsErrAnd b (λ d. d ≡ of r)) → number_of call_number b ≡ number_of number a
renumbered number of each (Ok x) b h = ap (number_of call_number) h
renumbered number of each (Err r) (Ok x) h = absurd h
renumbered number of each (Err r) (Err d) h = ap call_number h ∙ each r

pub returns-in-Entry : goal.returns-in-Entry
returns-in-Entry c =
    let held = c.args.held in
    let reply = c.entry-reply.result in
    c.beside_sheet.ensures
    ∙ (λ i. beside_sheet (record { number = renumbered entry_number refusal.Entry (λ r. refl) reply.answer c.map_err-answer.result c.map_err-answer.ensures.cases i; walk = reply.walk }) held.sheet)
    ∙ ap (λ o. beside_sheet o held.sheet) c.entry-reply.ensures ∙ ap (λ call. carried_out call held) (sym c.in-Entry.is)

pub returns-in-Begin : goal.returns-in-Begin
returns-in-Begin c =
    let held = c.args.held in
    let reply = c.begin-reply.result in
    c.beside_sheet-in-Begin.ensures
    ∙ (λ i. beside_sheet (record { number = renumbered begin_number refusal.Begin (λ r. refl) reply.answer c.map_err-answer-in-Begin.result c.map_err-answer-in-Begin.ensures.cases i; walk = reply.walk }) held.sheet)
    ∙ ap (λ o. beside_sheet o held.sheet) c.begin-reply.ensures ∙ ap (λ call. carried_out call held) (sym c.in-Begin.is)
