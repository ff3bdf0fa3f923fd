-- `letter_form` tells the letters apart: each return is what the form of a line of that byte computes to.
use mathlib.Core.Path.{◌≡◌, sym, ap, ◌∙◌}
use native.Mathlib.Omega.{arith}
use Rattle.parsing.specs.Grammar.{Form, fields, with_first, is_byte, letter_of, form_of_fields, form_of}
use Rattle.parsing.specs.ReadForm.{formed}
use Rattle.parsing.proofs.FrontLaws.{formed-other}
use Rattle.parsing.proofs.Fronts.{no_letter}
use Rattle.parsing.proofs.form.letter_form.Goals as goal

pub returns-in-66 : goal.returns-in-66
unfolding formed form_of form_of_fields fields with_first letter_of is_byte
returns-in-66 c = rw c.in-66.is

pub returns-in-69 : goal.returns-in-69
unfolding formed form_of form_of_fields fields with_first letter_of is_byte
returns-in-69 c = rw c.in-69.is

pub returns-in-65 : goal.returns-in-65
unfolding formed form_of form_of_fields fields with_first letter_of is_byte
returns-in-65 c = rw c.in-65.is

pub returns-in_default : goal.returns-in_default
returns-in_default c =
    let no_b : c.args.b ≡ 66 → ⊥ = λ e. omega arith in
    let no_e : c.args.b ≡ 69 → ⊥ = λ e. omega arith in
    let no_a : c.args.b ≡ 65 → ⊥ = λ e. omega arith in
    sym (ap (λ (f : Form). formed f 2) (no_letter c.args.b no_b no_e no_a) ∙ formed-other 2)
