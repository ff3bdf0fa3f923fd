-- Document 01, "Centre" and the refusals 11 and 27: the centre of six totals. Cells follow the outline rule (document 02, CR 2).
use Rattle.std.specs.Prelude.{ℕ, cond, eqb, ℤ, pos, neg_ℤ, nat_abs, ◌*ℤ◌}
use Rattle.std.specs.Int.Signed.{lt_z}
use Rattle.integers.specs.Rounding.{round_half_up}
use Rattle.outline.specs.declared.Totals.{Totals}
use Rattle.outline.specs.EdgeSums.{exceed}
use Rattle.outline.specs.MapCall.{total_limits}

-- ---- outcomes

-- What a call for a centre answers: number 0 and the centre where there is one, else the refusal's number and zeros.
pub record CentroidOutcome : Type 0 where
  pub number : ℕ
  pub x : ℤ
  pub y : ℤ

abbrev pub refused : ℕ → CentroidOutcome
refused n = record { number = n; x = pos 0; y = pos 0 }

-- The centre's x and y, each from its own N, over one D. In decimetres: the side of a cell counts as one.
abbrev pub centred : ℤ → ℤ → ℤ → CentroidOutcome
centred nx ny d = record { number = 0; x = round_half_up nx d; y = round_half_up ny d }

-- z, negated if A2 is negative.
unfoldable pub signed_by : ℤ → ℤ → ℤ
signed_by a2 z = cond (lt_z a2 (pos 0)) (neg_ℤ z) z

-- Refusal 11: a total is over its limit. Refusal 27: A2 is 0. Order: 11, 27.
-- Else the quotients of an outline, a sheet or cells: a first moment over three times the area total, signs turned so that the divisor is above 0.
unfoldable pub outline_centroid_call : Totals → CentroidOutcome
outline_centroid_call t =
    cond (exceed total_limits t) (refused 11)
    (cond (eqb (nat_abs t.a2) 0) (refused 27)
    (centred (signed_by t.a2 t.x6) (signed_by t.a2 t.y6) (signed_by t.a2 (pos 3 *ℤ t.a2))))
