-- A line that has a form is read as that form with the place of the next line.
use Prim.Native.Nat.{ℕ}
use mathlib.Core.Path.{◌≡◌, refl}
use Rattle.parsing.specs.ReadForm.{Front, formed, asked}
use Rattle.parsing.specs.declared.LineForm.{LineForm}
use Rattle.parsing.specs.declared.LineForm.TheVariants.{Begin, End, Abandon, Point}

pub asked_formed : (form : LineForm) (next : ℕ) → ◌≡◌ {A = Front} (record { form = asked form; next = next }) (formed (asked form) next)
unfolding formed
asked_formed (Begin kind) next = refl
asked_formed End next = refl
asked_formed Abandon next = refl
asked_formed (Point x y) next = refl
