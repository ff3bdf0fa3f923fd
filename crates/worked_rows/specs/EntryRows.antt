-- Document 02, CR 9, as rows: walks made by the entries of a receiver, each ended on a new sheet.
use Rattle.std.specs.Prelude.{ℕ, ◌≡◌, List, [], ◌∷◌, map, pos, replicate, Float}
use Rattle.std.specs.Float.{binary32}
use Rattle.std.specs.Float.Ieee.{of_bits}
use Rattle.receiver.specs.declared.Entry.{Entry}
use Rattle.receiver.specs.declared.Entry.TheVariants.{Fix, Outage}
use Rattle.outline.specs.declared.Kind.{Kind}
use Rattle.outline.specs.declared.Kind.TheVariants.{Island, Hole}
use Rattle.outline.specs.declared.Totals.{Totals}
use Rattle.outline.specs.EdgeSums.{zeros, negated}
use Rattle.outline.specs.WalkCalls.{closed, new_sheet, EndOutcome, end_call}
use Rattle.outline.specs.CallLists.{Call, begin, entry, after, from}
use Rattle.outline.specs.EveryOutline.{answers}
use Rattle.worked_rows.specs.Rows.{totals}

-- The entries that are given to a walk just begun; the number that each answers; and what the end then answers: number, totals and longest outage.
pub record EntryRow : Type 0 where
  pub kind : Kind
  pub entries : List Entry
  pub numbers : List ℕ
  pub ended : ℕ
  pub totals : Totals
  pub outage : Float

abbrev calls_of : EntryRow → List Call
calls_of r = begin r.kind ∷ map entry r.entries

abbrev end_of : EntryRow → EndOutcome
end_of r = end_call (after (from closed) (calls_of r)).walk new_sheet

-- The definitions give the row's figures. Begin answers 0.
pub record Holds (r : EntryRow) : Type 0 where
  pub numbers : answers closed (calls_of r) ≡ 0 ∷ r.numbers
  pub ended : (end_of r).number ≡ r.ended
  pub totals : (end_of r).totals ≡ r.totals
  pub outage : (end_of r).outage ≡ r.outage

-- ---- what is asked: floats by their bits

abbrev fix : ℕ → ℕ → Entry
fix east north = Fix (record { east = of_bits binary32 east; north = of_bits binary32 north })

abbrev outage : ℕ → Entry
outage seconds = Outage (of_bits binary32 seconds)

-- The rectangle, with outages of 3, 1, 3 and 2.5 seconds: one before the first fix, two between fixes, one behind the last.
abbrev pub with_outages : List Entry
with_outages =
    outage 0x4040_0000
    ∷ fix 0x4000_0000 0x0000_0000
    ∷ outage 0x3f80_0000
    ∷ fix 0x4120_0000 0x4080_0000
    ∷ fix 0x4100_0000 0x4100_0000
    ∷ outage 0x4040_0000
    ∷ fix 0x0000_0000 0x4080_0000
    ∷ outage 0x4020_0000
    ∷ []

-- The rectangle, each coordinate to be rounded: (1.5, -0.5) (9.5, 4.25) (7.75, 8) (-0.25, 3.5).
abbrev pub to_be_rounded : List Entry
to_be_rounded = fix 0x3fc0_0000 0xbf00_0000 ∷ fix 0x4118_0000 0x4088_0000 ∷ fix 0x40f8_0000 0x4100_0000 ∷ fix 0xbe80_0000 0x4060_0000 ∷ []

-- A triangle, and entries that are refused: an infinity, not a number, an infinite outage, one that is not a number, one of -1 second. Minus zero is accepted, twice, and keeps plus zero.
abbrev pub with_refused : List Entry
with_refused =
    fix 0x8000_0000 0x0000_0000
    ∷ fix 0x7f80_0000 0x0000_0000
    ∷ fix 0x0000_0000 0x7fc0_0000
    ∷ outage 0xff80_0000
    ∷ outage 0x7fc0_0000
    ∷ outage 0xbf80_0000
    ∷ outage 0x8000_0000
    ∷ fix 0x3f80_0000 0x0000_0000
    ∷ outage 0x8000_0000
    ∷ fix 0x0000_0000 0x3f80_0000
    ∷ []

-- Two fixes, and an outage: the end is refused.
abbrev pub too_few : List Entry
too_few = fix 0x3f80_0000 0x0000_0000 ∷ outage 0x4040_0000 ∷ fix 0x0000_0000 0x3f80_0000 ∷ []

-- ---- the rows

abbrev pub entry_rows : List EntryRow
entry_rows =
    record {
      kind = Hole;
      entries = with_outages;
      numbers = replicate 8 0;
      ended = 0;
      totals = negated (totals (pos 80) (pos 1200) (pos 960) (pos 14720) (pos 21120) (pos 8960));
      outage = of_bits binary32 0x4040_0000;
    }
    ∷ record {
      kind = Island;
      entries = to_be_rounded;
      numbers = replicate 4 0;
      ended = 0;
      totals = totals (pos 80) (pos 1200) (pos 960) (pos 14720) (pos 21120) (pos 8960);
      outage = of_bits binary32 0;
    }
    ∷ record {
      kind = Island;
      entries = with_refused;
      numbers = 0 ∷ 33 ∷ 33 ∷ 33 ∷ 33 ∷ 34 ∷ 0 ∷ 0 ∷ 0 ∷ 0 ∷ [];
      ended = 0;
      totals = totals (pos 1) (pos 1) (pos 1) (pos 1) (pos 1) (pos 1);
      outage = of_bits binary32 0;
    }
    ∷ record { kind = Island; entries = too_few; numbers = replicate 3 0; ended = 24; totals = zeros; outage = of_bits binary32 0 }
    ∷ []
