-- Tests that code and definition write differently.
use mathlib.Core.Path.{◌≡◌, refl}
use mathlib.Core.Bool.{Bool, true, false, not}
use Prim.Native.Nat.{ℕ, ◌≤◌, ◌<◌}
use lib.Dec.{leb, ltb}
use borrow.Author.Tests.{leb-true, leb-false, lt-ltb, le-ltb}

-- An order turned round: a is below b where b is not at most a.
pub ltb_not_leb : (a b : ℕ) → ltb a b ≡ not (leb b a)
ltb_not_leb a b = go (leb b a) (leb-true b a) (leb-false b a)
  where
    go : (t : Bool) → (t ≡ true → b ≤ a) → (t ≡ false → a < b) → ltb a b ≡ not t
    go true f g = le-ltb a b (f refl)
    go false f g = lt-ltb a b (g refl)
