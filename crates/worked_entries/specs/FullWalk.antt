-- A walk of 1,024 points, by fixes.
use Rattle.std.specs.Prelude.{ℕ, zero, suc}
use Rattle.receiver.specs.declared.Entry.TheVariants.{Fix}
use Rattle.outline.specs.declared.Kind.TheVariants.{Island}
use Rattle.outline.specs.declared.Walk.{Walk}
use Rattle.outline.specs.WalkCalls.{closed, begin_call}
use Rattle.outline.specs.EntryCalls.{entry_call}
use Rattle.worked_entries.specs.BitFloats.{fix_of}

-- The walk that a fix leaves, with the bits of its east and of its north.
abbrev pub after_fix : Walk → ℕ → ℕ → Walk
after_fix w east north = (entry_call w (Fix (fix_of east north))).walk

-- One round of the square with corners ±2,000, anticlockwise: the bits of 2,000 and of -2,000.
abbrev pub after_round : Walk → Walk
after_round w = after_fix (after_fix (after_fix (after_fix w 0x44FA0000 0xC4FA0000) 0x44FA0000 0x44FA0000) 0xC4FA0000 0x44FA0000) 0xC4FA0000 0xC4FA0000

-- The walk after n rounds.
unfoldable pub after_rounds : ℕ → Walk → Walk
after_rounds zero w = w
after_rounds (suc n) w = after_round (after_rounds n w)

-- An island of 256 rounds.
unfoldable pub full_walk : Walk
full_walk = after_rounds 256 (begin_call closed Island).walk
