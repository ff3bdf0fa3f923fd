-- `comparison_replies::compare_walks_reply` meets its contract: the number, the figures and the part told are those of the two calls.
use mathlib.Core.Path.{◌≡◌, refl, ap, ◌∙◌}
use mathlib.Core.Bool.{Bool, true, false, cond}
use mathlib.Core.List.{List, [], ◌∷◌}
use borrow.Author.Rules.{rules}
use lib.Dec.{ltb}
use lib.IntN.{ℤ, pos}
use lib.ListN.{length}
use mir.Facts.{to_z_pos}
use mir.Syntax.{w64}
use mir.Val.{bool_byte, to_z}
use Rattle.integers.proofs.SizedNumbers.{i64}
use Rattle.outline.proofs.TotalsLaws.{totals_equal}
use Rattle.replies.specs.Reply.{reply}
use Rattle.std.specs.Prelude.{Result, Ok, Err}
use Rattle.std.specs.Result.{result_unwrap_or}
use Rattle.refusals.specs.Numbers.{number_of}
use Rattle.outline_answers.specs.declared.OutlineRefusal.{OutlineRefusal}
use Rattle.outline_answers.specs.ListAnswer.{list_number}
use Rattle.comparison.specs.Answer.{reading}
use Rattle.two_walks.specs.declared.Figures.{Figures}
use Rattle.two_walks.specs.Comparison.{FiguresOutcome, Part, Lent, lent, no_figures, figures_call, part_of, handed_back}
use Rattle.comparison_replies.specs.ComparisonReply.{comparison_reply}
use Rattle.comparison_replies.proofs.PartLaw.{of_second_lem}
use Rattle.comparison_replies.proofs.compare_walks_reply.Goals as goal

-- The list handed back is the part of the definition, and is told by how many numbers it has.
numbers_are : (first second : Lent) {part : Lent} → part ≡ handed_back first second → part.numbers ≡ (part_of first.numbers second.numbers).numbers
unfolding handed_back
numbers_are first second e = ap (λ l. l.numbers) e

told_part : (first second numbers : List ℤ) → numbers ≡ (part_of first second).numbers → ◌≡◌ {A = Part} (record { of_second = ltb (length first) (length numbers); numbers = numbers }) (part_of first second)
told_part first second numbers e = (λ i. record { of_second = ltb (length first) (length (e i)); numbers = e i }) ∙ (λ i. record { of_second = of_second_lem first second i; numbers = (part_of first second).numbers })

-- The number and the figures that an answer tells.
told : (answer : Result Figures OutlineRefusal) → ◌≡◌ {A = FiguresOutcome} (record { number = number_of list_number answer; figures = result_unwrap_or answer no_figures }) (reading answer)
told (Ok f) = refl
told (Err r) = refl

as_number : (second : Bool) → pos (bool_byte second) ≡ cond second (pos 1) (pos 0)
as_number true = refl
as_number false = refl

pub returns : goal.returns
returns c =
    let first = c.args.first.now in
    let second = c.args.second.now in
    let buffer = c.args.out.now in
    let numbers = c.longer_walk-part.result.now in
    let f = c.unwrap_or-f.result in
    let figures : FiguresOutcome = record { number = c.number.result; figures = f } in
    let part : Part = record { of_second = ltb (length first) (length numbers); numbers = numbers } in
    -- each number as the array holds it
    let differences-held : record { a2 = i64 f.differences.a2; x6 = i64 f.differences.x6; y6 = i64 f.differences.y6; xx12 = i64 f.differences.xx12; xy24 = i64 f.differences.xy24; yy12 = i64 f.differences.yy12 } ≡ f.differences = totals_equal (search rules) (search rules) (search rules) (search rules) (search rules) (search rules) in
    let forward-held : to_z w64 f.forward ≡ pos f.forward = to_z_pos w64 (search rules) in
    let backward-held : to_z w64 f.backward ≡ pos f.backward = to_z_pos w64 (search rules) in
    let list_back : i64 c.from.result ≡ c.from.result = search rules in
    let list_held : i64 c.from.result ≡ cond part.of_second (pos 1) (pos 0) = list_back ∙ c.from.ensures ∙ as_number part.of_second in
    let length-held : to_z w64 (length numbers) ≡ pos (length numbers) = to_z_pos w64 (search rules) in
    let figures_is : figures ≡ figures_call first second = (λ i. record { number = c.number.ensures i; figures = c.unwrap_or-f.ensures i }) ∙ told c.walk_figures-answer.result ∙ c.walk_figures-answer.ensures in
    let part_is : part ≡ part_of first second = told_part first second numbers (numbers_are (lent c.args.first) (lent c.args.second) c.longer_walk-part.ensures) in
    c.put_values.ensures
    ∙ (λ i.
    let d = differences-held i in
    reply figures.number (d.a2 ∷ d.x6 ∷ d.y6 ∷ d.xx12 ∷ d.xy24 ∷ d.yy12 ∷ forward-held i ∷ backward-held i ∷ list_held i ∷ length-held i ∷ []) buffer)
    ∙ (λ i. comparison_reply (figures_is i) (part_is i) buffer)
