-- Two answers of `line_form` that read the same are the same, since the reading gives the answer back: no other reply keeps the promise.
use mathlib.Core.Path.{◌≡◌, refl, sym, ◌∙◌, ap}
use Prim.Native.Nat.{ℕ}
use Rattle.parsing.specs.Grammar.{Form, begin, end, abandon, point, other}
use Rattle.parsing.specs.ReadForm.{Front, asked, reading}
use Rattle.std.specs.Prelude.{Option, None, Some}
use Rattle.parsing.specs.declared.Line.{Line}
use Rattle.parsing.specs.declared.LineForm.{LineForm}
use Rattle.parsing.specs.declared.LineForm.TheVariants.{Begin, End, Abandon, Point}

answer : Form → ℕ → Option Line
answer (begin kind) next = Some (record { form = Begin kind; next = next })
answer end next = Some (record { form = End; next = next })
answer abandon next = Some (record { form = Abandon; next = next })
answer (point x y) next = Some (record { form = Point x y; next = next })
answer other next = None

answer_of_reading : (p : Option Line) → answer (reading p).form (reading p).next ≡ p
unfolding answer
answer_of_reading None = refl
answer_of_reading (Some line) = go line.form line.next
  where
    go : (form : LineForm) (next : ℕ) → answer (asked form) next ≡ Some (record { form = form; next = next })
    go (Begin kind) n = refl
    go End n = refl
    go Abandon n = refl
    go (Point x y) n = refl

pub reading_one_to_one : (p q : Option Line) → reading p ≡ reading q → p ≡ q
reading_one_to_one p q e = sym (answer_of_reading p) ∙ ap (λ (f : Front). answer f.form f.next) e ∙ answer_of_reading q
