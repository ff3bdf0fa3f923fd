-- The two cases of a line that is no end: nothing where its answer accepts, else a refusal with its number.
use Prim.Native.Nat.{ℕ, ◌<◌}
use mathlib.Core.Path.{◌≡◌, refl}
use mathlib.Core.List.{List}
use native.Mathlib.Omega.{arith}
use borrow.Author.Tests.{ne_eqb}
use Rattle.std.specs.Prelude.{Result, Ok, Err}
use Rattle.outline.specs.declared.Walk.{Walk}
use Rattle.outline.specs.declared.Sheet.{Sheet}
use Rattle.outline_answers.specs.declared.BeginRefusal.{BeginRefusal}
use Rattle.outline_answers.specs.declared.BeginRefusal.TheVariants as begin
use Rattle.outline_answers.specs.declared.AbandonRefusal.{AbandonRefusal}
use Rattle.outline_answers.specs.declared.AbandonRefusal.TheVariants as abandon
use Rattle.outline_answers.specs.declared.PointRefusal.{PointRefusal}
use Rattle.outline_answers.specs.declared.PointRefusal.TheVariants as point
use Rattle.outline_answers.specs.WalkAnswers.{walk_reading, begin_number, abandon_number, point_number}
use Rattle.printing.specs.Output.{refusal_line}
use Rattle.printing.specs.Buffer.{fitting}
use Rattle.printing.proofs.NothingWritten.{nothing_written}
use Rattle.decimals.specs.Buffer.{Written}
use Rattle.text_program.specs.Program.{carried_walk}
use Rattle.lines.specs.LineOutcome.{Finished}

-- No refusal has the number 0, which tells that there is none.

pub begin_told : (r : BeginRefusal) → 0 < begin_number r
begin_told begin.Impossible = omega arith
begin_told begin.AlreadyOpen = omega arith

pub abandon_told : (r : AbandonRefusal) → 0 < abandon_number r
abandon_told abandon.Impossible = omega arith
abandon_told abandon.NotOpen = omega arith

pub point_told : (r : PointRefusal) → 0 < point_number r
point_told point.Impossible = omega arith
point_told point.NotOpen = omega arith
point_told point.OutsideLimits = omega arith
point_told point.Full = omega arith

module _ {R : Type 0} (number : R → ℕ) (line : ℕ) (before : List ℕ) (at : ℕ) (answer : Result (Unit {0}) R) (walk : Walk) (sheet : Sheet) where
  pub accepted_line : answer ≡ Ok tt → Finished (carried_walk line (walk_reading number (record { answer = answer; walk = walk })) sheet) before at before (record { walk = walk; sheet = sheet; filled = at })
  unfolding carried_walk
  accepted_line e = record { walk = refl; sheet = refl; text = rw e (nothing_written before at) }

  pub refused_line : {after : List ℕ} {filled : ℕ} (r : R) → answer ≡ Err r → 0 < number r → Written before at (fitting before at (refusal_line line (number r))) after filled → Finished (carried_walk line (walk_reading number (record { answer = answer; walk = walk })) sheet) before at after (record { walk = walk; sheet = sheet; filled = filled })
  unfolding carried_walk
  refused_line r e h w = record { walk = refl; sheet = refl; text = rw (e, ne_eqb (number r) 0 (λ z. omega arith)) w }
