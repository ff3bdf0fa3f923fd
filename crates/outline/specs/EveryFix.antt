-- Document 02, CR 9, as statements: every point within the limits is the point of a fix, so that every outline can be given by fixes. proofs/EveryFix has the proofs.
use Rattle.std.specs.Prelude.{◌≡◌, true, false, List, map, ℤ}
use Rattle.std.specs.Float.{binary32}
use Rattle.std.specs.Float.Ieee.{fits, of_int}
use Rattle.receiver.specs.declared.Fix.{Fix as FixOf}
use Rattle.receiver.specs.declared.Entry.TheVariants.{Fix}
use Rattle.outline.specs.declared.Position.{Position}
use Rattle.outline.specs.declared.Totals.{Totals}
use Rattle.outline.specs.declared.Kind.{Kind}
use Rattle.outline.specs.declared.Walk.{Walk}
use Rattle.outline.specs.ListCall.{accepted, points, outside, list_call}
use Rattle.outline.specs.FixCall.{fix_point, fix_not_finite}
use Rattle.outline.specs.CallLists.{Call, entry, ring_of}
use Rattle.outline.specs.EveryOutline.{Walkable, Ending}

-- The fix of a position: its coordinates as the kit converts them to floats (lib.Ieee).
abbrev pub fix_of : Position → FixOf
fix_of p = record { east = of_int binary32 p.x; north = of_int binary32 p.y }

-- What is claimed of a fix f and a position p.
pub record IsFixOf (p : Position) (f : FixOf) : Type 0 where
  -- Floats of 32 bits hold both,
  pub east : fits binary32 f.east ≡ true
  pub north : fits binary32 f.north ≡ true
  -- 33 does not refuse it,
  pub finite : fix_not_finite f ≡ false
  -- and its point is p.
  pub point : fix_point f ≡ p

abbrev pub EveryFix : Type 0
EveryFix =
    -- For every position
    (p : Position)
    -- that 1 does not refuse:
    → outside p ≡ false
    -- its fix is as claimed.
    → IsFixOf p (fix_of p)

abbrev pub as_fix : Position → Call
as_fix p = entry (Fix (fix_of p))

abbrev pub OutlineByFixes : Type 0
OutlineByFixes =
    -- For every list of numbers
    (zs : List ℤ)
    -- and the six totals
    (t : Totals)
    -- with which the list call accepts it;
    → list_call zs ≡ accepted t
    -- for either kind
    → (k : Kind)
    -- and every walk
    → (w : Walk)
    -- marked closed:
    → w.is_open ≡ false
    -- begin and the fixes of the list's points are accepted and make the ring of these points, and the end is as claimed of every outline.
    → (let g = ring_of k (points zs) in Walkable w k (map as_fix (points zs)) g × Ending g t)
