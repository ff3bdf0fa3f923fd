-- Cases of a test.
use Prim.Native.Nat.{ℕ, ◌+◌, ◌-◌, ◌≤◌}
use mathlib.Core.Path.{◌≡◌, refl, sym}
use mathlib.Core.Bool.{Bool, true, false, ◌&&◌, ◌||◌, cond}
use native.Mathlib.Omega.{arith}
use borrow.Author.Tests.{lt-ltb, le-ltb, ltb-true, ltb-false}
use lib.Dec.{ltb}

-- What holds of both branches, each where the test goes that way, holds of the whole.
pub by_cond : {A : Type 0} (P : A → Type 0) (t : Bool) {yes no : A} → (t ≡ true → P yes) → (t ≡ false → P no) → P (cond t yes no)
by_cond P true h k = h refl
by_cond P false h k = k refl

-- The same for two tests joined.
pub by_or : {A : Type 0} (P : A → Type 0) (t u : Bool) {yes no : A} → (t ≡ true → P yes) → (t ≡ false → u ≡ true → P yes) → (t ≡ false → u ≡ false → P no) → P (cond (t || u) yes no)
by_or P true u h k l = h refl
by_or P false true h k l = k refl refl
by_or P false false h k l = l refl refl

pub by_and : {A : Type 0} (P : A → Type 0) (t u : Bool) {yes no : A} → (t ≡ true → u ≡ true → P yes) → (t ≡ false → P no) → (t ≡ true → u ≡ false → P no) → P (cond (t && u) yes no)
by_and P true true h k l = h refl refl
by_and P true false h k l = l refl refl
by_and P false u h k l = k refl

-- Two tests alike: what is equal in both branches is equal.
pub both_cond : {A B : Type 0} (f : A → B) (t : Bool) {a b c d : A} → (t ≡ true → f a ≡ f c) → (t ≡ false → f b ≡ f d) → f (cond t a b) ≡ f (cond t c d)
both_cond f true h k = h refl
both_cond f false h k = k refl

-- A difference compared in place of a sum, which could wrap.
pub difference_test : (a b m : ℕ) → b ≤ a → ltb (a - b) m ≡ ltb a (m + b)
difference_test a b m h = go (ltb (a - b) m) refl
  where
    go : (t : Bool) → ltb (a - b) m ≡ t → t ≡ ltb a (m + b)
    go true e = sym (lt-ltb a (m + b) (omega (arith, ltb-true (a - b) m e)))
    go false e = sym (le-ltb a (m + b) (omega (arith, ltb-false (a - b) m e)))
