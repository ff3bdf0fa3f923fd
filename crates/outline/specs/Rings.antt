-- Document 02, CR 3: what the kind of a ring settles, as statements. proofs/Rings has the proofs.
use Rattle.std.specs.Prelude.{◌≡◌, true, ℕ}
use Rattle.outline.specs.declared.Walk.{Walk}
use Rattle.outline.specs.declared.Sheet.{Sheet}
use Rattle.outline.specs.Pieces.{start_at, Direction, walked}
use Rattle.outline.specs.WalkCalls.{has_sign, EndOutcome, end_call}
use Rattle.outline.specs.CallLists.{Walking, reached}

abbrev pub SignByKind : Type 0
SignByKind =
    -- For every walk, also one handed in that no calls have made,
    (w : Walk)
    -- and every sheet
    (s : Sheet)
    -- with which its end is accepted:
    → (end_call w s).number ≡ 0
    -- the A2 that it answers is above 0 for an island and below 0 for a hole.
    → has_sign w.kind (end_call w s).totals.a2 ≡ true

-- Two ends that answer the same number and totals, and leave the same sheet. The longest outage is each walk's own.
pub record SameEnd (a b : EndOutcome) : Type 0 where
  pub number : a.number ≡ b.number
  pub totals : a.totals ≡ b.totals
  pub sheet : a.sheet ≡ b.sheet

abbrev pub WalkedBack : Type 0
WalkedBack =
    -- For every walk that calls from one marked closed have made
    (first : Walking)
    -- and left open, with points or without,
    → (reached first).walk.is_open ≡ true
    -- and every other such walk
    → (second : Walking)
    → (reached second).walk.is_open ≡ true
    -- of the same kind:
    → (reached second).ring.kind ≡ (reached first).ring.kind
    -- if, for some start
    → (start : ℕ)
    -- and either direction,
    → (direction : Direction)
    -- the second's points are the first's, so walked and started,
    → (reached second).ring.points ≡ start_at start (walked direction (reached first).ring.points)
    -- then with every sheet
    → (s : Sheet)
    -- both ends answer the same number and totals, refused or not, and leave the same sheet.
    → SameEnd (end_call (reached first).walk s) (end_call (reached second).walk s)
