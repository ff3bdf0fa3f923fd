-- Sizes: which lists the call on a whole list accepts, and how large the sums of the six terms get.
use mathlib.Core.Path.{◌≡◌, refl, sym, ap}
use mathlib.Core.Bool.{Bool, true, false, ◌||◌, cond}
use mathlib.Core.List.{List, [], ◌∷◌, ◌++◌}
use mathlib.Core.Logic.{◌≢◌}
use Prim.Native.Nat.{ℕ, ◌*◌, ◌%◌, ◌<◌, ◌≤◌, zero-le}
use native.Mathlib.Omega.{arith}
use lib.Dec.{T, leb, ltb, eqb}
use lib.ListN.{length, get_or, take, length-append}
use lib.Seq.{length-take-le}
use lib.IntN.{ℤ, nat_abs}
use borrow.Author.Tests.{ltb-false, le-ltb, eqb-false, ne_eqb}
use Rattle.integers.proofs.Ring.{Quote, quote}
use Rattle.integers.proofs.Order.{nat_abs_add}
use Rattle.integers.proofs.Bounds.{bound, within}
use Rattle.integers.proofs.SignedCode.{Code, both, size, steps}
use Rattle.integers.proofs.SizedNumbers.{Sized, sized, numbers as sized_numbers, bounds, at_most}
use Rattle.outline.specs.declared.Position.{Position}
use Rattle.outline.specs.declared.Totals.{Totals}
use Rattle.outline.specs.declared.Sizes.{Sizes}
use Rattle.outline.specs.EdgeSums.{Term, a2, x6, y6, xx12, xy24, yy12, six, open_edges, edges, sum_over, totals_over, outline_totals, over, exceed, outline_bounds}
use Rattle.outline.specs.ListCall.{accepted, refused, points, numbers, beyond, any_beyond, any_outside, wrong_length, list_call}
use Rattle.outline.specs.MapCall.{total_limits}
use Rattle.outline.specs.WalkCalls.{origin, share}
use Rattle.outline.specs.private.Fit.{Fit}
use Rattle.integers.proofs.Flags.{or_left, or_right, neither, none_of_six}
use Rattle.outline.proofs.Every.{All, all_append, all_at, all_take}
use Rattle.outline.proofs.EdgeSumLaws.{coordinates, path, around}
use Rattle.outline.proofs.IndexLaws.{points-numbers, length-numbers}

-- ---- the limits as orders

-- Both coordinates are from -n to n.
abbrev pub InsideOf : ℕ → Position → Type 0
InsideOf n p = (nat_abs p.x ≤ n) × (nat_abs p.y ≤ n)

-- Both are from -2,000 to 2,000.
abbrev pub Inside : Position → Type 0
Inside p = InsideOf 2000 p

pub not_over : (n : ℕ) (z : ℤ) → nat_abs z ≤ n → over n z ≡ false
unfolding over
not_over n z h = le-ltb n (nat_abs z) h

pub over_not : (n : ℕ) (z : ℤ) → over n z ≡ false → nat_abs z ≤ n
unfolding over
over_not n z e = ltb-false n (nat_abs z) e

-- A number that is tested not to be over its bound, with this bound.
abbrev pub tested : (n : ℕ) (z : ℤ) → over n z ≡ false → Sized
tested n z h = sized z (over_not n z h)

-- A value that signed code makes of such numbers is not over K, where a computed test says so.
pub never_over : (l : List Sized) (K : ℕ) {z : ℤ} (k : Code (sized_numbers l) z) → T (both (leb (size (bounds l) k) K) (steps (bounds l) k)) → over K z ≡ false
never_over l K {z} k t = not_over K z (at_most l k t)

pub beyond_not : {n : ℕ} (p : Position) → beyond n p ≡ false → InsideOf n p
unfolding beyond
beyond_not {n} p e = (over_not n p.x (or_left (over n p.x) (over n p.y) e), over_not n p.y (or_right (over n p.x) (over n p.y) e))

pub not_beyond : {n : ℕ} (p : Position) → InsideOf n p → beyond n p ≡ false
unfolding beyond
not_beyond {n} p h = neither (not_over n p.x h.0) (not_over n p.y h.1)

pub all_inside : (n : ℕ) (ps : List Position) → any_beyond n ps ≡ false → All (InsideOf n) ps
unfolding any_beyond
all_inside n [] e = tt
all_inside n (p ∷ ps) e = (beyond_not p (or_left (beyond n p) (any_beyond n ps) e), all_inside n ps (or_right (beyond n p) (any_beyond n ps) e))

pub none-beyond : (n : ℕ) (ps : List Position) → All (InsideOf n) ps → any_beyond n ps ≡ false
unfolding any_beyond
none-beyond n [] h = refl
none-beyond n (p ∷ ps) h = neither (not_beyond p h.0) (none-beyond n ps h.1)

-- Each point of a list that has none outside, by its index.
pub point_inside : (n : ℕ) (ps : List Position) (k : ℕ) {p : Position} → any_beyond n ps ≡ false → k < length ps → p ≡ get_or ps k origin → beyond n p ≡ false
point_inside n ps k e h f = rw f (not_beyond (get_or ps k origin) (all_at (InsideOf n) ps k origin (all_inside n ps e) h))

-- ---- what the list call accepts

-- 3 to 1,024 points, every one in P.
pub record OutlineIn (P : Position → Type 0) (ps : List Position) : Type 0 where
  pub enough : 3 ≤ length ps
  pub few : length ps ≤ 1024
  pub inside : All P ps

-- 3 to 1,024 points within the limits.
abbrev pub Outline : List Position → Type 0
Outline ps = OutlineIn Inside ps

-- An even number of numbers, whose points are an outline.
pub record OutlineList (zs : List ℤ) : Type 0 where
  pub even : length zs % 2 ≢ 1
  pub outline : Outline (points zs)

-- The list call accepts outlines only, with their totals,
pub accepts_only_outlines : (zs : List ℤ) (t : Totals) → list_call zs ≡ accepted t → OutlineList zs × (t ≡ outline_totals (points zs))
unfolding list_call wrong_length
accepts_only_outlines zs t e = go (eqb (length zs % 2) 1) (ltb (length (points zs)) 3) (ltb 1024 (length (points zs))) (any_outside (points zs)) refl refl refl refl e
  where
    go : (a b c d : Bool) → eqb (length zs % 2) 1 ≡ a → ltb (length (points zs)) 3 ≡ b → ltb 1024 (length (points zs)) ≡ c → any_outside (points zs) ≡ d → cond (a || b || c) (refused 2) (cond d (refused 1) (accepted (outline_totals (points zs)))) ≡ accepted t → OutlineList zs × (t ≡ outline_totals (points zs))
    go true b c d f g h k e = absurd (omega (arith, ap (λ r. r.number) e))
    go false true c d f g h k e = absurd (omega (arith, ap (λ r. r.number) e))
    go false false true d f g h k e = absurd (omega (arith, ap (λ r. r.number) e))
    go false false false true f g h k e = absurd (omega (arith, ap (λ r. r.number) e))
    go false false false false f g h k e = (
      record {
        even = eqb-false (length zs % 2) 1 f;
        outline = record { enough = ltb-false (length (points zs)) 3 g; few = ltb-false 1024 (length (points zs)) h; inside = all_inside 2000 (points zs) k };
      },
      sym (ap (λ r. r.totals) e),
    )

-- and every outline.
pub accepts_outlines : (zs : List ℤ) → OutlineList zs → list_call zs ≡ accepted (outline_totals (points zs))
unfolding list_call wrong_length
accepts_outlines zs o = rw (ne_eqb (length zs % 2) 1 o.even, le-ltb (length (points zs)) 3 o.outline.enough, le-ltb 1024 (length (points zs)) o.outline.few, none-beyond 2000 (points zs) o.outline.inside)

-- The same for a list of points.
pub accepts-points : (ps : List Position) → Outline ps → list_call (numbers ps) ≡ accepted (outline_totals ps)
accepts-points ps o = rw (points-numbers ps) at (accepts_outlines (numbers ps) (record { even = rw (length-numbers ps) (λ e. omega arith); outline = rw (points-numbers ps) o }))

-- ---- sizes of sums

-- No edge between points within n adds more than K.
abbrev pub SmallWithin : ℕ → Term → ℕ → Type 0
SmallWithin n t K = (a b : Position) → InsideOf n a → InsideOf n b → nat_abs (t a b) ≤ K

-- No edge within the limits does.
abbrev pub Small : Term → ℕ → Type 0
Small t K = SmallWithin 2000 t K

pub path_small : {n : ℕ} (t : Term) (K : ℕ) → SmallWithin n t K → (a : Position) (ps : List Position) → InsideOf n a → All (InsideOf n) ps → nat_abs (path t (a ∷ ps)) ≤ length ps * K
unfolding open_edges sum_over
path_small t K s a [] h hs = zero-le
path_small t K s a (b ∷ ps) h hs = omega (arith, nat_abs_add (t a b) (path t (b ∷ ps)), s a b h hs.0, path_small t K s b ps hs.0 hs.1)

pub open_small : {n : ℕ} (ps : List Position) → All (InsideOf n) ps → (t : Term) (K : ℕ) → SmallWithin n t K → nat_abs (path t ps) ≤ length ps * K
unfolding open_edges sum_over
open_small [] h t K s = zero-le
open_small (a ∷ ps) h t K s = omega (arith, path_small t K s a ps h.0 h.1)

pub around_small : {n : ℕ} (ps : List Position) → All (InsideOf n) ps → (t : Term) (K : ℕ) → SmallWithin n t K → nat_abs (around t ps) ≤ length ps * K
unfolding edges sum_over
around_small [] hs t K s = zero-le
around_small {n} (a ∷ ps) hs t K s = omega (arith, ap (λ m. m * K) (length-append ps (a ∷ [])), path_small t K s a (ps ++ a ∷ []) hs.0 (all_append (InsideOf n) ps (a ∷ []) hs.1 (hs.0, tt)))

-- An edge's term, by its polynomial: a computed test.
pub small : {n : ℕ} (t : Term) {K : ℕ} (a b : Position) → InsideOf n a → InsideOf n b → (q : Quote (coordinates a b) (t a b)) → T (leb (bound (n ∷ n ∷ n ∷ n ∷ []) q) K) → nat_abs (t a b) ≤ K
small {n} t a b h k q w = within (coordinates a b) (n ∷ n ∷ n ∷ n ∷ []) (h.0, (h.1, (k.0, (k.1, tt)))) (t a b) q w

pub fit_exceed : (b : Sizes) (t : Totals) → Fit b t → exceed b t ≡ false
unfolding exceed
fit_exceed b t f = rw (not_over b.a2 t.a2 f.a2, not_over b.x6 t.x6 f.x6, not_over b.y6 t.y6 f.y6, not_over b.xx12 t.xx12 f.xx12, not_over b.xy24 t.xy24 f.xy24, not_over b.yy12 t.yy12 f.yy12)

pub exceed_fit : (b : Sizes) (t : Totals) → exceed b t ≡ false → Fit b t
unfolding exceed
exceed_fit b t e =
    let n = none_of_six (over b.a2 t.a2) (over b.x6 t.x6) (over b.y6 t.y6) (over b.xx12 t.xx12) (over b.xy24 t.xy24) (over b.yy12 t.yy12) e in
    record {
      a2 = over_not b.a2 t.a2 n.0;
      x6 = over_not b.x6 t.x6 n.1;
      y6 = over_not b.y6 t.y6 n.2;
      xx12 = over_not b.xx12 t.xx12 n.3;
      xy24 = over_not b.xy24 t.xy24 n.4;
      yy12 = over_not b.yy12 t.yy12 n.5;
    }

-- An edge adds at most 1/1,024 of the outline bound: what is at most n edges' worth for every term is so for the six.
pub six_fit : (n : ℕ) (f : Term → ℤ) → ((t : Term) (K : ℕ) → Small t K → nat_abs (f t) ≤ n * K) → Fit (share n) (six f)
six_fit n f s =
    record {
      a2 = omega (arith, s a2 8_000_000 (λ a b h k. small a2 a b h k (search quote depth 12) tt));
      x6 = omega (arith, s x6 32_000_000_000 (λ a b h k. small x6 a b h k (search quote depth 12) tt));
      y6 = omega (arith, s y6 32_000_000_000 (λ a b h k. small y6 a b h k (search quote depth 12) tt));
      xx12 = omega (arith, s xx12 96_000_000_000_000 (λ a b h k. small xx12 a b h k (search quote depth 12) tt));
      xy24 = omega (arith, s xy24 192_000_000_000_000 (λ a b h k. small xy24 a b h k (search quote depth 12) tt));
      yy12 = omega (arith, s yy12 96_000_000_000_000 (λ a b h k. small yy12 a b h k (search quote depth 12) tt));
    }

pub share_fit : (n : ℕ) (t : Totals) → n ≤ 1024 → Fit (share n) t → Fit outline_bounds t
share_fit n t h f = record { a2 = omega arith; x6 = omega arith; y6 = omega arith; xx12 = omega arith; xy24 = omega arith; yy12 = omega arith }

-- The outline bounds lie within a sheet's limits.
pub limits_fit : (t : Totals) → Fit outline_bounds t → Fit total_limits t
limits_fit t f = omega arith

-- The open edges of points within the limits, and those of the first k of them.
pub open_fit : (ps : List Position) → All Inside ps → Fit (share (length ps)) (totals_over (open_edges ps))
open_fit ps h = six_fit (length ps) (λ t. path t ps) (open_small ps h)

pub first_fit : (k : ℕ) (ps : List Position) → k ≤ length ps → All Inside ps → Fit (share k) (totals_over (open_edges (take k ps)))
first_fit k ps n h = rw (length-take-le k ps n) at (open_fit (take k ps) (all_take Inside k ps h))

-- The totals of an outline are within the outline bounds,
pub outline_fit : (ps : List Position) → Outline ps → Fit outline_bounds (outline_totals ps)
outline_fit ps o = share_fit (length ps) (outline_totals ps) o.few (six_fit (length ps) (λ t. around t ps) (around_small ps o.inside))

-- and so are those that the list call answers.
pub accepted_fit : (zs : List ℤ) (t : Totals) → list_call zs ≡ accepted t → Fit outline_bounds t
accepted_fit zs t e = let o = accepts_only_outlines zs t e in rw o.1 (outline_fit (points zs) o.0.outline)

pub accepted_within : (zs : List ℤ) (t : Totals) → list_call zs ≡ accepted t → exceed outline_bounds t ≡ false
accepted_within zs t e = fit_exceed outline_bounds t (accepted_fit zs t e)
