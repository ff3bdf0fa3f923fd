-- The order `lt` of the logic's floats: it is transitive, and binary32 has one float at each place above zero.
use Prim.Native.Nat.{ℕ, ◌+◌, ◌*◌, ◌^◌, ◌<◌}
use mathlib.Core.Path.{◌≡◌, refl, sym, ap, ◌∙◌}
use mathlib.Core.Bool.{Bool, true, false, true≢false, false≢true}
use native.Mathlib.Nat.{le_antisymm, le_of_eq, le_of_lt, lt_of_not-le, not-le_of_lt, mul-pos, mul_right_comm}
use native.Mathlib.Omega.{arith}
use borrow.Author.Tests.{ltb-true, ltb-false, lt-ltb, le-ltb}
use lib.IntN.{ℤ}
use lib.Dec.{T}
use lib.Ieee.{Float, nan, inf, fin, Format, binary32, low, up, down, below, lt, fits, of_bits, to_bits}
use lib.Ieee.Fits.{down_pos}
use lib.Ieee.Positive.{first_pos, through}
use lib.Ieee.Nearest.{div_same}
use lib.Ieee.Bits.{of_bits-to_bits}
use Rattle.integers.proofs.Flags.{and_right}
use Rattle.receiver.specs.Floats.{plus_zero}

-- Where n times one number is above something, n times any number above zero is above zero.
times_pos : (n u m v : ℕ) → 0 < v → m < n * u → 0 < n * v
times_pos n u m v w h = mul-pos (first_pos n u (omega arith)) w

-- Three fractions: a / p < b / q < c / r.
less_through : (a b c p q r : ℕ) → 0 < r → a * q < b * p → b * r < c * q → a * r < c * p
less_through a b c p q r R h k = lt_of_not-le λ l. not-le_of_lt h (through b c a q r p R (le_of_lt k) l)

-- The same of three fractions with signs.
below_trans : (s t u : Bool) (a b c p q r : ℕ) → 0 < p → 0 < r → below s (a * q) t (b * p) ≡ true → below t (b * r) u (c * q) ≡ true → below s (a * r) u (c * p) ≡ true
below_trans false false false a b c p q r P R h k = lt-ltb (a * r) (c * p) (less_through a b c p q r R (ltb-true (a * q) (b * p) h) (ltb-true (b * r) (c * q) k))
below_trans false false true a b c p q r P R h k = k
below_trans false true u a b c p q r P R h k = absurd (false≢true h)
below_trans true false false a b c p q r P R h k = lt-ltb 0 (a * r + c * p) (omega (arith, times_pos c q (b * r) p P (ltb-true (b * r) (c * q) k)))
below_trans true false true a b c p q r P R h k = absurd (false≢true k)
below_trans true true false a b c p q r P R h k = lt-ltb 0 (a * r + c * p) (omega (arith, times_pos a q (b * p) r R (ltb-true (b * p) (a * q) h)))
below_trans true true true a b c p q r P R h k = lt-ltb (c * p) (a * r) (less_through c b a r q p P (ltb-true (c * q) (b * r) k) (ltb-true (b * p) (a * q) h))

-- Nothing lies above plus infinity.
none_above : (z : Float) → lt (inf false) z ≡ true → ⊥
unfolding lt
none_above nan h = false≢true h
none_above (inf t) h = false≢true h
none_above (fin t n d) h = false≢true h

-- Of any three floats, also such as no format holds: where x is less than y, and y than z, x is less than z.
pub lt_trans : (x y z : Float) → lt x y ≡ true → lt y z ≡ true → lt x z ≡ true
unfolding lt
lt_trans nan y z h k = absurd (false≢true h)
lt_trans (inf s) nan z h k = absurd (false≢true h)
lt_trans (inf s) (inf true) z h k = absurd (false≢true (and_right s false h))
lt_trans (inf s) (inf false) z h k = absurd (none_above z k)
lt_trans (inf s) (fin t n d) nan h k = k
lt_trans (inf s) (fin t n d) (inf u) h k = rw h k
lt_trans (inf s) (fin t n d) (fin u l g) h k = h
lt_trans (fin s m e) nan z h k = absurd (false≢true h)
lt_trans (fin s m e) (inf true) z h k = absurd (false≢true h)
lt_trans (fin s m e) (inf false) z h k = absurd (none_above z k)
lt_trans (fin s m e) (fin t n d) nan h k = k
lt_trans (fin s m e) (fin t n d) (inf u) h k = k
lt_trans (fin s m e) (fin t n d) (fin u l g) h k = below_trans s t u (m * up e) (n * up d) (l * up g) (down e) (down d) (down g) (down_pos e) (down_pos g) h k

-- No float is less than itself.
pub lt_irrefl : (x : Float) → lt x x ≡ false
unfolding lt
lt_irrefl nan = refl
lt_irrefl (inf true) = refl
lt_irrefl (inf false) = refl
lt_irrefl (fin true m e) = le-ltb (m * up e * down e) (m * up e * down e) (le_of_eq refl)
lt_irrefl (fin false m e) = le-ltb (m * up e * down e) (m * up e * down e) (le_of_eq refl)

-- Where x is less than y and not less than z, y is not less than z.
pub no_less : (x y z : Float) → lt x y ≡ true → lt x z ≡ false → lt y z ≡ false
no_less x y z h k = go (lt y z) refl
  where
    go : (t : Bool) → lt y z ≡ t → t ≡ false
    go true e = sym (lt_trans x y z h e) ∙ k
    go false e = refl

-- A float's bits go by its sign and its value.
same_bits : (f : Format) (s : Bool) (m : ℕ) (e : ℤ) (n : ℕ) (d : ℤ) → m * up e * down d ≡ n * up d * down e → to_bits f (fin s m e) ≡ to_bits f (fin s n d)
unfolding to_bits
same_bits f s m e n d h = rw (div_same (m * up e * 2 ^ low f) (down e) (n * up d * 2 ^ low f) (down d) (down_pos e) (down_pos d)
    (mul_right_comm (m * up e) (2 ^ low f) (down d) ∙ ap (λ v. v * 2 ^ low f) h ∙ mul_right_comm (n * up d) (down e) (2 ^ low f)))

-- Two floats of binary32 above zero, neither less than the other, are one float.
pub same_place : (x y : Float) → T (fits binary32 x) → T (fits binary32 y) → lt plus_zero x ≡ true → lt plus_zero y ≡ true → lt x y ≡ false → lt y x ≡ false → x ≡ y
unfolding lt
same_place nan y p q a b h k = absurd (false≢true a)
same_place (inf true) y p q a b h k = absurd (false≢true a)
same_place (inf false) nan p q a b h k = absurd (false≢true b)
same_place (inf false) (inf true) p q a b h k = absurd (false≢true b)
same_place (inf false) (inf false) p q a b h k = refl
same_place (inf false) (fin t n d) p q a b h k = absurd (true≢false k)
same_place (fin true m e) y p q a b h k = absurd (false≢true a)
same_place (fin false m e) nan p q a b h k = absurd (false≢true b)
same_place (fin false m e) (inf true) p q a b h k = absurd (false≢true b)
same_place (fin false m e) (inf false) p q a b h k = absurd (true≢false h)
same_place (fin false m e) (fin true n d) p q a b h k = absurd (false≢true b)
same_place (fin false m e) (fin false n d) p q a b h k =
    sym (of_bits-to_bits binary32 (fin false m e) p)
    ∙ ap (of_bits binary32) (same_bits binary32 false m e n d (le_antisymm (ltb-false (n * up d * down e) (m * up e * down d) k) (ltb-false (m * up e * down d) (n * up d * down e) h)))
    ∙ of_bits-to_bits binary32 (fin false n d) q
