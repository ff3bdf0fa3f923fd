-- How long the lines of the output can get: none is longer than `line_room`, where the counts are of 32 bits and the totals of 64.
use Prim.Native.Nat.{ℕ, zero, suc, ◌+◌, ◌*◌, ◌^◌, ◌≤◌, ◌<◌}
use native.Mathlib.Omega.{arith}
use lib.ListN.{length, length-append}
use lib.IntN.{ℤ, pos, negsuc, neg_ℤ, nat_abs, ◌+ℤ◌}
use lib.Signed.{lt_z}
use lib.Dec.{eqb}
use Rattle.integers.proofs.Order.{pp, nn, pp_neg, nn_neg, sum_parts, nat_abs_neg}
use mir.Syntax.{w64}
use mir.Val.{SFits}
use Rattle.integers.proofs.SignedCode.{sfits_nat_abs}
use Rattle.outline.specs.declared.Totals.{Totals}
use Rattle.outline.specs.declared.Sizes.{Sizes}
use Rattle.outline.specs.declared.Sheet.{Sheet}
use Rattle.outline.specs.EdgeSums.{exceed}
use Rattle.outline.specs.MapCall.{total_limit, total_limits}
use Rattle.outline.specs.private.Fit.{Fit}
use Rattle.outline.proofs.Limits.{exceed_fit}
use Rattle.integers.specs.Rounding.{rounds_to, first_rounded, round_half_up}
use Rattle.centroid.specs.Centroid.{CentroidOutcome, centred, signed_by, outline_centroid_call}
use Rattle.decimals.proofs.FieldLaws.{natural_length, field-length}
use Rattle.printing.specs.Output.{totals_text, centre_text, outline_line, refusal_line, sheet_line}
use Rattle.printing.specs.Buffer.{line_room}
use Rattle.integers.proofs.Cases.{by_cond}

-- ---- totals

-- The greatest size of a signed number of 64 bits, for each of the six.
abbrev pub wide : Sizes
wide = record { a2 = 2 ^ 63; x6 = 2 ^ 63; y6 = 2 ^ 63; xx12 = 2 ^ 63; xy24 = 2 ^ 63; yy12 = 2 ^ 63 }

pub fit_wide : (t : Totals) → SFits w64 t.a2 → SFits w64 t.x6 → SFits w64 t.y6 → SFits w64 t.xx12 → SFits w64 t.xy24 → SFits w64 t.yy12 → Fit wide t
fit_wide t a b c d e f = record { a2 = sfits_nat_abs a; x6 = sfits_nat_abs b; y6 = sfits_nat_abs c; xx12 = sfits_nat_abs d; xy24 = sfits_nat_abs e; yy12 = sfits_nat_abs f }

-- Six numbers of 19 digits.
pub totals-length : (t : Totals) → Fit wide t → length (totals_text t) ≤ 126
unfolding totals_text
totals-length t w = simp length-append (omega (arith, field-length 18 t.a2 (omega (arith, w.a2)), field-length 18 t.x6 (omega (arith, w.x6)), field-length 18 t.y6 (omega (arith, w.y6)), field-length 18 t.xx12 (omega (arith, w.xx12)), field-length 18 t.xy24 (omega (arith, w.xy24)), field-length 18 t.yy12 (omega (arith, w.yy12))))

-- ---- centres

-- From -n to n is at most n in size.
between : (n : ℕ) (k : ℤ) → nn k ≤ n + pp k → pp k ≤ n + nn k → nat_abs k ≤ n
between n (pos a) h l = omega arith
between n (negsuc a) h l = omega arith

-- A centre is looked for from -n to n only.
first-size : (n : ℕ) (num d k : ℤ) (count : ℕ) → nn k ≤ n + pp k → pp k + count ≤ suc n + nn k → nat_abs (first_rounded num d k count) ≤ n
unfolding first_rounded
first-size n num d k zero h l = omega arith
first-size n num d k (suc count) h l =
    by_cond (λ z. nat_abs z ≤ n) (rounds_to num d k)
    (λ e. between n k h (omega arith))
    (λ e. first-size n num d (k +ℤ pos 1) count (omega (arith, sum_parts k (pos 1))) (omega (arith, sum_parts k (pos 1))))

-- So a centre is no greater than its N.
centre-size : (n d : ℤ) → nat_abs (round_half_up n d) ≤ nat_abs n
unfolding round_half_up
centre-size n d = let a = pos (nat_abs n) in first-size (nat_abs n) n d (neg_ℤ a) (suc (2 * nat_abs n)) (omega (arith, nn_neg a)) (omega (arith, pp_neg a, nn_neg a))

centred-length : (nx ny d : ℤ) → nat_abs nx ≤ total_limit → nat_abs ny ≤ total_limit → length (centre_text (centred nx ny d)) ≤ 42
unfolding centre_text
centred-length nx ny d h k = simp length-append (omega (arith, field-length 18 (round_half_up nx d) (omega (arith, centre-size nx d)), field-length 18 (round_half_up ny d) (omega (arith, centre-size ny d))))

signed-size : (a z : ℤ) → nat_abs z ≤ total_limit → nat_abs (signed_by a z) ≤ total_limit
unfolding signed_by
signed-size a z h = by_cond (λ k. nat_abs k ≤ total_limit) (lt_z a (pos 0)) (λ e. omega (arith, nat_abs_neg z)) (λ e. h)

-- Two numbers of 19 digits, for any totals: 11 leaves no centre where a total is too great.
pub centre-length : (t : Totals) → length (centre_text (outline_centroid_call t)) ≤ 42
unfolding centre_text outline_centroid_call
centre-length t =
    by_cond Short (exceed total_limits t) (λ e. omega arith) (λ e.
    by_cond Short (eqb (nat_abs t.a2) 0) (λ f. omega arith) (λ f.
    let w = exceed_fit total_limits t e in
    centred-length _ _ _ (signed-size t.a2 t.x6 w.x6) (signed-size t.a2 t.y6 w.y6)))
  where
    Short : CentroidOutcome → Type 0
    Short c = length (centre_text c) ≤ 42

-- ---- lines

-- O, for counts below 2^32 and totals of 64 bits: just `line_room`.
pub outline-length : (count points : ℕ) (t : Totals) → count < 2 ^ 32 → points < 2 ^ 32 → Fit wide t → length (outline_line count points t) ≤ line_room
unfolding outline_line
outline-length count points t h k w = simp length-append (omega (arith, natural_length 9 count (omega arith), natural_length 9 points (omega arith), totals-length t w, centre-length t))

-- S, the same without the points.
pub sheet-length : (s : Sheet) → s.count < 2 ^ 32 → Fit wide s.totals → length (sheet_line s) ≤ line_room
unfolding sheet_line
sheet-length s h w = simp length-append (omega (arith, natural_length 9 s.count (omega arith), totals-length s.totals w, centre-length s.totals))

-- R, for any two numbers of 64 bits.
pub refusal_length : (line refusal : ℕ) → line < 2 ^ 64 → refusal < 2 ^ 64 → length (refusal_line line refusal) ≤ line_room
unfolding refusal_line
refusal_length line refusal h k = simp length-append (omega (arith, natural_length 19 line (omega arith), natural_length 19 refusal (omega arith)))
