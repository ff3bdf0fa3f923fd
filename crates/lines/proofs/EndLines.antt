-- The two cases of an end: the outline's line where its answer accepts, else a refusal with the answer's number.
use Prim.Native.Nat.{ℕ, ◌<◌}
use mathlib.Core.Path.{◌≡◌, refl, sym, ap, ◌∙◌, subst}
use mathlib.Core.List.{List}
use native.Mathlib.Omega.{arith}
use borrow.Author.Tests.{ne_eqb}
use Rattle.std.specs.Prelude.{Result, Ok, Err}
use Rattle.outline.specs.declared.Walk.{Walk}
use Rattle.outline.specs.declared.Sheet.{Sheet}
use Rattle.outline.specs.WalkCalls.{EndOutcome}
use Rattle.outline_answers.specs.declared.Ended.{Ended}
use Rattle.outline_answers.specs.declared.EndRefusal.{EndRefusal}
use Rattle.outline_answers.specs.declared.EndRefusal.TheVariants.{Impossible, NotOpen, TooFewPoints, ZeroArea, SheetFull, SheetExceeded}
use Rattle.outline_answers.specs.WalkAnswers.{end_number, end_reading}
use Rattle.printing.specs.Output.{outline_line, refusal_line}
use Rattle.decimals.specs.Buffer.{Written}
use Rattle.printing.specs.Buffer.{fitting}
use Rattle.text_program.specs.Program.{carried_end}
use Rattle.lines.specs.LineOutcome.{Finished}

-- No refusal has the number 0.
end_told : (r : EndRefusal) → 0 < end_number r
end_told Impossible = omega arith
end_told NotOpen = omega arith
end_told TooFewPoints = omega arith
end_told ZeroArea = omega arith
end_told SheetFull = omega arith
end_told SheetExceeded = omega arith

module _ {before after : List ℕ} {at filled : ℕ} (line points : ℕ) (answer : Result Ended EndRefusal) {walk : Walk} {sheet : Sheet} {r : EndOutcome} (e : end_reading (record { answer = answer; walk = walk; sheet = sheet }) ≡ r) where
  pub accepted_end : (t : Ended) → answer ≡ Ok t → Written before at (fitting before at (outline_line sheet.count points t.totals)) after filled → Finished (carried_end line points r) before at after (record { walk = walk; sheet = sheet; filled = filled })
  unfolding carried_end
  accepted_end t f w = subst (λ q. Finished (carried_end line points q) before at after (record { walk = walk; sheet = sheet; filled = filled })) (ap (λ a. end_reading (record { answer = a; walk = walk; sheet = sheet })) (sym f) ∙ e) (record { walk = refl; sheet = refl; text = w })

  pub refused_end : (q : EndRefusal) → answer ≡ Err q → Written before at (fitting before at (refusal_line line (end_number q))) after filled → Finished (carried_end line points r) before at after (record { walk = walk; sheet = sheet; filled = filled })
  unfolding carried_end
  refused_end q f w = subst (λ q. Finished (carried_end line points q) before at after (record { walk = walk; sheet = sheet; filled = filled })) (ap (λ a. end_reading (record { answer = a; walk = walk; sheet = sheet })) (sym f) ∙ e) (record { walk = refl; sheet = refl; text = rw (ne_eqb (end_number q) 0 (λ z. let h = end_told q in omega arith)) w })
