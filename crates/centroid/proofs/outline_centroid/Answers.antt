-- `centroid::outline_centroid` meets its contract: each return is the case of the definition that its tests lead to.
use mathlib.Core.Path.{◌≡◌, sym, ◌∙◌, subst₂}
use mathlib.Core.Bool.{false}
use mathlib.Core.List.{List, [], ◌∷◌}
use Prim.Native.Nat.{◌≤◌}
use lib.Dec.{eqb}
use lib.IntN.{ℤ, pos, nat_abs, ◌*ℤ◌}
use Rattle.std.specs.Int.{int_signum}
use Rattle.integers.specs.Rounding.{round_half_up}
use Rattle.integers.proofs.Flags.{tells}
use Rattle.integers.proofs.SignedCode.{code}
use Rattle.integers.proofs.SizedNumbers.{i64, Sized, sized, fits, is_plain, called}
use Rattle.outline.specs.declared.Totals.{Totals}
use Rattle.outline.specs.EdgeSums.{exceed}
use Rattle.outline.specs.private.Fit.{Fit}
use Rattle.outline.specs.MapCall.{total_limit, total_limits}
use Rattle.outline.proofs.Limits.{exceed_fit}
use Rattle.limits.proofs.ZeroTest.{zero_size, nonzero_size}
use Rattle.centroid.specs.Centroid.{outline_centroid_call, signed_by}
use Rattle.centroid.specs.private.Quotient.{QuotientBounds}
use Rattle.centroid.proofs.Limits.{sign_small, sign_turns, size_turns, quotient_bounds}
use Rattle.centroid.proofs.outline_centroid.Goals as goal

-- Neither 11 nor 27 comes, so N and D are what the code computes by the sign s and the size d of the area.
module _ (t : Totals) (inside : exceed total_limits t ≡ false) (some : eqb (nat_abs t.a2) 0 ≡ false) {s d : ℤ} (sign : s ≡ int_signum (i64 t.a2)) (size : d ≡ pos (nat_abs (i64 t.a2))) where
  fit : Fit total_limits t
  fit = exceed_fit total_limits t inside

  read : i64 t.a2 ≡ t.a2
  read = is_plain (sized t.a2 fit.a2 ∷ []) (search code depth 40) tt

  one : nat_abs s ≤ 1
  one = rw sign (sign_small (i64 t.a2))

  area : nat_abs d ≤ total_limit
  area = rw (size, read) fit.a2

  abbrev operands : List Sized
  operands = sized s one ∷ sized d area ∷ sized t.x6 fit.x6 ∷ sized t.y6 fit.y6 ∷ []

  above : i64 (pos 3 *ℤ i64 d) ≡ signed_by t.a2 (pos 3 *ℤ t.a2)
  above = is_plain operands (search code depth 40) tt ∙ rw (size, read) (size_turns t.a2)

  x6_turned : i64 (i64 s *ℤ i64 t.x6) ≡ signed_by t.a2 t.x6
  x6_turned = is_plain operands (search code depth 40) tt ∙ rw (sign, read) (sign_turns t.a2 t.x6 some)

  y6_turned : i64 (i64 s *ℤ i64 t.y6) ≡ signed_by t.a2 t.y6
  y6_turned = is_plain operands (search code depth 40) tt ∙ rw (sign, read) (sign_turns t.a2 t.y6 some)

  bounds : (n : ℤ) {n' : ℤ} → nat_abs n ≤ total_limit → n' ≡ signed_by t.a2 n → QuotientBounds n' (i64 (pos 3 *ℤ i64 d))
  bounds n h e = subst₂ QuotientBounds (sym e) (sym above) (quotient_bounds n t.a2 h fit.a2 some)

-- ---- the answers

pub returns-then-outside_limits : goal.returns-then-outside_limits
unfolding outline_centroid_call
returns-then-outside_limits c = rw (tells c.outside_limits.ensures c.if-outside_limits.true)

pub returns-then-t-eq0 : goal.returns-then-t-eq0
unfolding outline_centroid_call
returns-then-t-eq0 c =
    let t = c.args.t in
    let inside : exceed total_limits t ≡ false = tells c.outside_limits.ensures c.if-outside_limits.false in
    let read : i64 t.a2 ≡ t.a2 = is_plain (sized t.a2 (exceed_fit total_limits t inside).a2 ∷ []) (search code depth 40) tt in
    rw (inside, zero_size t.a2 read c.if-t-eq0.true)

pub abs-d-requires : goal.abs-d-requires
abs-d-requires c =
    let t = c.args.t in
    fits (sized t.a2 (exceed_fit total_limits t (tells c.outside_limits.ensures c.if-outside_limits.false)).a2 ∷ []) (search code depth 40) tt

pub overflow_mul-d : goal.overflow_mul-d
overflow_mul-d c =
    let t = c.args.t in
    fits (operands t (tells c.outside_limits.ensures c.if-outside_limits.false) (nonzero_size t.a2 c.if-t-eq0.false) c.signum-sign.ensures.value c.abs-d.ensures.value) (search code depth 40) tt

pub overflow_mul-sign : goal.overflow_mul-sign
overflow_mul-sign c =
    let t = c.args.t in
    fits (operands t (tells c.outside_limits.ensures c.if-outside_limits.false) (nonzero_size t.a2 c.if-t-eq0.false) c.signum-sign.ensures.value c.abs-d.ensures.value) (search code depth 40) tt

pub overflow_mul-sign-2 : goal.overflow_mul-sign-2
overflow_mul-sign-2 c =
    let t = c.args.t in
    fits (operands t (tells c.outside_limits.ensures c.if-outside_limits.false) (nonzero_size t.a2 c.if-t-eq0.false) c.signum-sign.ensures.value c.abs-d.ensures.value) (search code depth 40) tt

pub nearest-requires : goal.nearest-requires
nearest-requires c =
    let t = c.args.t in
    let inside = tells c.outside_limits.ensures c.if-outside_limits.false in
    let some = nonzero_size t.a2 c.if-t-eq0.false in
    bounds t inside some c.signum-sign.ensures.value c.abs-d.ensures.value t.x6 (exceed_fit total_limits t inside).x6 (x6_turned t inside some c.signum-sign.ensures.value c.abs-d.ensures.value)

pub nearest-requires-2 : goal.nearest-requires-2
nearest-requires-2 c =
    let t = c.args.t in
    let inside = tells c.outside_limits.ensures c.if-outside_limits.false in
    let some = nonzero_size t.a2 c.if-t-eq0.false in
    bounds t inside some c.signum-sign.ensures.value c.abs-d.ensures.value t.y6 (exceed_fit total_limits t inside).y6 (y6_turned t inside some c.signum-sign.ensures.value c.abs-d.ensures.value)

pub returns : goal.returns
unfolding outline_centroid_call
returns c =
    let t = c.args.t in
    let inside : exceed total_limits t ≡ false = tells c.outside_limits.ensures c.if-outside_limits.false in
    let some : eqb (nat_abs t.a2) 0 ≡ false = nonzero_size t.a2 c.if-t-eq0.false in
    let sign = c.signum-sign.ensures.value in
    let size = c.abs-d.ensures.value in
    let d = above t inside some sign size in
    let x = called (λ i. round_half_up (x6_turned t inside some sign size i) (d i)) c.nearest.type_inv c.nearest.ensures in
    let y = called (λ i. round_half_up (y6_turned t inside some sign size i) (d i)) c.nearest-2.type_inv c.nearest-2.ensures in
    rw (inside, some) (λ i. record { number = 0; x = x i; y = y i })
