-- Document 02, CR 7: the composition of two maps. The six numbers of a map may be any whole numbers here.
use Rattle.std.specs.Prelude.{◌+ℤ◌, ◌*ℤ◌}
use Rattle.outline.specs.declared.AffineMap.{AffineMap}

-- First the one map, then the other: the second's u and v, with the first's u and v put in for x and y. So the second's coefficients act on the first's shifts too.
abbrev pub composed : AffineMap → AffineMap → AffineMap
composed first second =
    record {
      a = second.a *ℤ first.a +ℤ second.b *ℤ first.g;
      b = second.a *ℤ first.b +ℤ second.b *ℤ first.h;
      g = second.g *ℤ first.a +ℤ second.h *ℤ first.g;
      h = second.g *ℤ first.b +ℤ second.h *ℤ first.h;
      e = second.a *ℤ first.e +ℤ second.b *ℤ first.f +ℤ second.e;
      f = second.g *ℤ first.e +ℤ second.h *ℤ first.f +ℤ second.f;
    }
