-- Source document 002's edge terms, cleared of fractions. Around a closed outline they sum to the table's (proofs/OtherTermsLaw); on a walk that is
-- still open they do not, and there document 01's table decides. A2 and XY24 are the table's own.
use Rattle.std.specs.Prelude.{◌+ℤ◌, ◌-ℤ◌, ◌*ℤ◌}
use Rattle.outline.specs.EdgeSums.{Term}

-- (x² + x×p + p²)×(q − y)
abbrev pub x6_002 : Term
x6_002 a b = (a.x *ℤ a.x +ℤ a.x *ℤ b.x +ℤ b.x *ℤ b.x) *ℤ (b.y -ℤ a.y)

-- (x − p)×(y² + y×q + q²)
abbrev pub y6_002 : Term
y6_002 a b = (a.x -ℤ b.x) *ℤ (a.y *ℤ a.y +ℤ a.y *ℤ b.y +ℤ b.y *ℤ b.y)

-- (x³ + x²×p + x×p² + p³)×(q − y)
abbrev pub xx12_002 : Term
xx12_002 a b = (a.x *ℤ a.x *ℤ a.x +ℤ a.x *ℤ a.x *ℤ b.x +ℤ a.x *ℤ b.x *ℤ b.x +ℤ b.x *ℤ b.x *ℤ b.x) *ℤ (b.y -ℤ a.y)

-- (x − p)×(y³ + y²×q + y×q² + q³)
abbrev pub yy12_002 : Term
yy12_002 a b = (a.x -ℤ b.x) *ℤ (a.y *ℤ a.y *ℤ a.y +ℤ a.y *ℤ a.y *ℤ b.y +ℤ a.y *ℤ b.y *ℤ b.y +ℤ b.y *ℤ b.y *ℤ b.y)
