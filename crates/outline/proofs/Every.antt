-- Lists whose every element has a property.
use mathlib.Core.Path.{refl, sym, subst}
use mathlib.Core.List.Memᴰ
use mathlib.Core.List.{List, [], ◌∷◌, ◌++◌, map, reverse, reverse-cons, Memᴰ}
use mathlib.Core.Logic.{inl, inr}
use Prim.Native.Nat.{ℕ, zero, suc, ◌<◌}
use native.Mathlib.Nat.{not-suc-le-zero, le_of_suc-le-suc}
use lib.ListN.{length, get_or, take, drop, set}

module _ {A : Type 0} (P : A → Type 0) where
  abbrev pub All : List A → Type 0
  All [] = Unit {0}
  All (a ∷ l) = P a × All l

  pub all_append : (k l : List A) → All k → All l → All (k ++ l)
  all_append [] l h g = g
  all_append (a ∷ k) l h g = (h.0, all_append k l h.1 g)

  pub all_front : (k l : List A) → All (k ++ l) → All k
  all_front [] l h = tt
  all_front (a ∷ k) l h = (h.0, all_front k l h.1)

  pub all_back : (k l : List A) → All (k ++ l) → All l
  all_back [] l h = h
  all_back (a ∷ k) l h = all_back k l h.1

  pub all_take : (n : ℕ) (l : List A) → All l → All (take n l)
  all_take zero l h = tt
  all_take (suc n) [] h = tt
  all_take (suc n) (a ∷ l) h = (h.0, all_take n l h.1)

  pub all_drop : (n : ℕ) (l : List A) → All l → All (drop n l)
  all_drop zero l h = h
  all_drop (suc n) [] h = tt
  all_drop (suc n) (a ∷ l) h = all_drop n l h.1

  pub all_reverse : (l : List A) → All l → All (reverse l)
  all_reverse [] h = tt
  all_reverse (a ∷ l) h = subst All (sym (reverse-cons a l)) (all_append (reverse l) (a ∷ []) (all_reverse l h.1) (h.0, tt))

  pub all_set : (l : List A) (k : ℕ) (a : A) → All l → P a → All (set l k a)
  all_set [] k a h p = tt
  all_set (b ∷ l) zero a h p = (p, h.1)
  all_set (b ∷ l) (suc k) a h p = (h.0, all_set l k a h.1 p)

  pub all_unset : (l : List A) (k : ℕ) (a d : A) → All (set l k a) → P (get_or l k d) → All l
  all_unset [] k a d h p = tt
  all_unset (b ∷ l) zero a d h p = (p, h.1)
  all_unset (b ∷ l) (suc k) a d h p = (h.0, all_unset l k a d h.1 p)

  pub all_at : (l : List A) (k : ℕ) (d : A) → All l → k < length l → P (get_or l k d)
  all_at [] k d h i = absurd (not-suc-le-zero i)
  all_at (a ∷ l) zero d h i = h.0
  all_at (a ∷ l) (suc k) d h i = all_at l k d h.1 (le_of_suc-le-suc i)

  pub all_of : (l : List A) → ((a : A) → Memᴰ a l → P a) → All l
  all_of [] f = tt
  all_of (a ∷ l) f = (f a (Memᴰ.head refl), all_of l (λ b m. f b (Memᴰ.tail m)))

  pub all_member : (l : List A) → All l → (a : A) → Memᴰ a l → P a
  all_member [] h a m = absurd (Memᴰ.not-nil m)
  all_member (b ∷ l) h a m = elim (Memᴰ.cases_cons m) [ inl e ↦ subst P (sym e) h.0 | inr k ↦ all_member l h.1 a k ]

-- What every element has, its image has.
pub all_map : {A B : Type 0} (P : A → Type 0) (Q : B → Type 0) (f : A → B) → ((a : A) → P a → Q (f a)) → (l : List A) → All P l → All Q (map f l)
all_map P Q f g [] h = tt
all_map P Q f g (a ∷ l) h = (g a h.0, all_map P Q f g l h.1)

pub map_all : {A B : Type 0} (Q : B → Type 0) (f : A → B) (l : List A) → All Q (map f l) → All (λ a. Q (f a)) l
map_all Q f [] h = tt
map_all Q f (a ∷ l) h = (h.0, map_all Q f l h.1)
