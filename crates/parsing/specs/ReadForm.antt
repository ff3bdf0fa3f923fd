-- The form of the line at a place of a chunk, in the terms of `Grammar`, and what each answer of `line_form` says in those terms.
use Rattle.std.specs.Prelude.{ℕ, ◌+◌, List, take, drop, Option, None, Some}
use Rattle.newlines.specs.LineLength.{line_length}
use Rattle.parsing.specs.Grammar.{Form, begin, end, abandon, point, other, form_of}
use Rattle.parsing.specs.declared.LineForm.{LineForm}
use Rattle.parsing.specs.declared.LineForm.TheVariants.{Begin, End, Abandon, Point}
use Rattle.parsing.specs.declared.Line.{Line}

-- A form, and the place where the next line begins: 0 where there is no form.
pub record Front : Type 0 where
  pub form : Form
  pub next : ℕ

abbrev pub no_form : Front
no_form = record { form = other; next = 0 }

unfoldable pub formed : Form → ℕ → Front
formed (begin kind) next = record { form = begin kind; next = next }
formed end next = record { form = end; next = next }
formed abandon next = record { form = abandon; next = next }
formed (point x y) next = record { form = point x y; next = next }
formed other next = no_form

-- The line from `at` on, ended by the first newline or by the end of s. The next one begins past that newline, or past the one that would stand there.
unfoldable pub form_at : List ℕ → ℕ → Front
form_at s at = let bs = drop at s in formed (form_of (take (line_length bs) bs)) (at + line_length bs + 1)

abbrev pub asked : LineForm → Form
asked (Begin kind) = begin kind
asked End = end
asked Abandon = abandon
asked (Point x y) = point x y

abbrev pub reading : Option Line → Front
reading (Some line) = record { form = asked line.form; next = line.next }
reading None = no_form
