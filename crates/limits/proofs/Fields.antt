-- Six totals fit their type, so what the code reads of them is the numbers themselves.
use mir.Syntax.{w64}
use mir.Val.{SFits}
use Rattle.outline.specs.declared.Totals.{Totals}

pub record TotalsFit (t : Totals) : Type 0 where
  pub a2 : SFits w64 t.a2
  pub x6 : SFits w64 t.x6
  pub y6 : SFits w64 t.y6
  pub xx12 : SFits w64 t.xx12
  pub xy24 : SFits w64 t.xy24
  pub yy12 : SFits w64 t.yy12
