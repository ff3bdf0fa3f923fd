-- What a form that is read says of the line: the form of its bytes, and where the next line begins.
use Prim.Native.Nat.{ℕ, ◌+◌}
use mathlib.Core.Path.{◌≡◌, refl, sym, ap, ◌∙◌}
use mathlib.Core.List.{List}
use lib.ListN.{take, drop}
use Rattle.std.specs.Prelude.{Option, Some}
use Rattle.parsing.specs.declared.Line.{Line}
use Rattle.parsing.specs.declared.LineForm.{LineForm}
use Rattle.parsing.specs.declared.LineForm.TheVariants.{Begin, End, Abandon, Point}
use Rattle.parsing.specs.Grammar.{Form, begin, end, abandon, point, other, form_of}
use Rattle.newlines.specs.LineLength.{line_length}
use Rattle.parsing.specs.ReadForm.{formed, form_at, asked, reading}

own_form : (f : Form) (next : ℕ) → (formed f next).form ≡ f
unfolding formed
own_form (begin kind) next = refl
own_form end next = refl
own_form abandon next = refl
own_form (point x y) next = refl
own_form other next = refl

has_next : (form : LineForm) (next : ℕ) → (formed (asked form) next).next ≡ next
unfolding formed
has_next (Begin kind) next = refl
has_next End next = refl
has_next Abandon next = refl
has_next (Point x y) next = refl

module _ (s : List ℕ) (at : ℕ) (form : Option Line) (read : reading form ≡ form_at s at) where
  pub same_form : (reading form).form ≡ form_of (take (line_length (drop at s)) (drop at s))
  unfolding form_at
  same_form = ap (λ r. r.form) read ∙ own_form (form_of (take (line_length (drop at s)) (drop at s))) (at + line_length (drop at s) + 1)

  -- A line that has a form tells where the next one begins.
  pub next_line : (line : Line) → form ≡ Some line → line.next ≡ at + line_length (drop at s) + 1
  unfolding form_at
  next_line line e =
      let n = at + line_length (drop at s) + 1 in
      ap (λ f. (reading f).next) (sym e)
      ∙ ap (λ r. r.next) read
      ∙ ap (λ f. (formed f n).next) (sym same_form)
      ∙ ap (λ f. (formed (reading f).form n).next) e
      ∙ has_next line.form n
