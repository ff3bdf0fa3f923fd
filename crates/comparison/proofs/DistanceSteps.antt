-- What the code on distances computes with 32-bit numbers, as the definition's natural numbers.
use mathlib.Core.Path.{◌≡◌, refl, sym, ap, ap₂, ◌∙◌}
use mathlib.Core.List.{List, map}
use Prim.Native.Nat.{ℕ, ◌+◌, ◌*◌, ◌<◌, min, max}
use native.Mathlib.Omega.{arith}
use borrow.Author.Tests.{ltb-true, ltb-false}
use lib.Dec.{ltb}
use lib.IntN.{ℤ, pos, negsuc, nat_abs, ◌+ℤ◌, ◌-ℤ◌, ◌*ℤ◌}
use lib.ListN.{length, get_or, take}
use Rattle.std.specs.Int.{int_min, int_max}
use Rattle.integers.proofs.Cases.{by_cond}
use Rattle.outline.specs.declared.Position.{Position}
use Rattle.outline.specs.WalkCalls.{origin}
use Rattle.two_walks.specs.Distances.{squared_distance, least_of, greatest_of}
use Rattle.two_walks.proofs.Steps.{least_first, least_next, greatest_next}

-- A square is the square of the size.
square-size : (z : ℤ) → z *ℤ z ≡ pos (nat_abs z * nat_abs z)
square-size (pos n) = refl
square-size (negsuc n) = refl

pub distance_is : (p q : Position) → (p.x -ℤ q.x) *ℤ (p.x -ℤ q.x) +ℤ (p.y -ℤ q.y) *ℤ (p.y -ℤ q.y) ≡ pos (squared_distance p q)
unfolding squared_distance
distance_is p q = ap₂ (λ a b. a +ℤ b) (square-size (p.x -ℤ q.x)) (square-size (p.y -ℤ q.y))

-- The lesser and the greater of two natural numbers, as the library compares them signed.
lesser_is : {a b : ℤ} (m n : ℕ) → a ≡ pos m → b ≡ pos n → int_min a b ≡ pos (min m n)
lesser_is m n e f =
    ap₂ int_min e f
    ∙ by_cond (λ z. z ≡ pos (min m n)) (ltb n m) (λ t. ap pos (omega (arith, ltb-true n m t))) (λ t. ap pos (omega (arith, ltb-false n m t)))

greater_is : {a b : ℤ} (m n : ℕ) → a ≡ pos m → b ≡ pos n → int_max a b ≡ pos (max m n)
greater_is m n e f =
    ap₂ int_max e f
    ∙ by_cond (λ z. z ≡ pos (max m n)) (ltb n m) (λ t. ap pos (omega (arith, ltb-true n m t))) (λ t. ap pos (omega (arith, ltb-false n m t)))

-- ---- one point after another

-- The distance to the first point,
pub nearest-first : (ps : List Position) (p : Position) {q : Position} {r : ℤ} → 0 < length ps → q ≡ get_or ps 0 origin → r ≡ pos (squared_distance p q) → r ≡ pos (least_of (map (squared_distance p) (take 1 ps)))
nearest-first ps p h e f = rw (f, e) (ap pos (sym (least_first (squared_distance p) ps origin h)))

-- and the least of those to the points before and of that to point k.
pub nearest-next : (ps : List Position) (p : Position) (k : ℕ) {q : Position} {a b r : ℤ} → 0 < k → k < length ps → q ≡ get_or ps k origin → a ≡ pos (least_of (map (squared_distance p) (take k ps))) → b ≡ pos (squared_distance p q) → r ≡ int_min a b → r ≡ pos (least_of (map (squared_distance p) (take (k + 1) ps)))
nearest-next ps p k {q} h l e f g r =
    r
    ∙ lesser_is (least_of (map (squared_distance p) (take k ps))) (squared_distance p q) f g
    ∙ rw e (ap pos (sym (least_next (squared_distance p) ps k origin h l)))

-- Of the points before and of point k, the greatest of the distances that f gives.
pub farthest-next : (f : Position → ℕ) (ps : List Position) (k : ℕ) {p : Position} {a b r : ℤ} → k < length ps → p ≡ get_or ps k origin → a ≡ pos (greatest_of (map f (take k ps))) → b ≡ pos (f p) → r ≡ int_max a b → r ≡ pos (greatest_of (map f (take (k + 1) ps)))
farthest-next f ps k {p} l e g h r =
    r
    ∙ greater_is (greatest_of (map f (take k ps))) (f p) g h
    ∙ rw e (ap pos (sym (greatest_next f ps k origin l)))
