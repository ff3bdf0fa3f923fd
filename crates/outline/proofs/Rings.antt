-- Document 02, CR 3: the sign of an accepted end's area goes by the kind, and a ring walked the other way, or from another of its points, ends as it did.
use mathlib.Core.Path.{◌≡◌, refl, sym, ◌∙◌, ap, ap₂, subst}
use mathlib.Core.Bool.{Bool, true, false, not, ◌||◌, cond}
use Prim.Native.Nat.{ℕ, ◌≤◌}
use lib.Dec.{leb, ltb}
use lib.ListN.{length}
use lib.Ieee.{Float}
use borrow.Author.Tests.{ltb-false}
use Rattle.outline.specs.declared.Totals.{Totals}
use Rattle.outline.specs.declared.Walk.{Walk}
use Rattle.outline.specs.declared.Sheet.{Sheet}
use Rattle.outline.specs.EdgeSums.{plus, exceed}
use Rattle.outline.specs.ListCall.{numbers, list_call}
use Rattle.outline.specs.MapCall.{total_limits}
use Rattle.outline.specs.Pieces.{start_at, Direction, walked, directed}
use Rattle.outline.specs.WalkCalls.{has_sign, turned, closed_totals, added_totals, sheet_with, zero_area, impossible_walk, impossible_sheet, EndOutcome, refused_end, end_call}
use Rattle.outline.specs.CallLists.{Walking, reached}
use Rattle.outline.specs.WalkedOutline.{Closable}
use Rattle.outline.specs.EveryOutline.{ended_with}
use Rattle.outline.specs.Rings.{SignByKind, SameEnd, WalkedBack}
use Rattle.outline.proofs.IndexLaws.{points-numbers}
use Rattle.outline.proofs.CallCases.{by_tests, end_by, end-accepted}
use Rattle.outline.proofs.PlacedPieces.{walked-length, start-length}
use Rattle.outline.proofs.PiecesLaws.{no_cut_no_map}
use Rattle.outline.proofs.TurnedTotals.{sign_of_turned, turned-directed, directed-zero_area}
use Rattle.outline.proofs.WalkedOutline.{walked-outline}

-- ---- the sign

pub sign_by_kind : SignByKind
sign_by_kind w s z = let (h, e) = end-accepted w s z in ap (λ e. has_sign w.kind e.totals.a2) e ∙ sign_of_turned w.kind (closed_totals w) h.area

-- ---- the other way

-- Two walks of as many points; with 3 or more, both of zero area or neither; and where they have an area, with the same totals as added.
record Alike (w v : Walk) : Type 0 where
  count : w.count ≡ v.count
  area : 3 ≤ w.count → zero_area (closed_totals w) ≡ zero_area (closed_totals v)
  added : 3 ≤ w.count → zero_area (closed_totals w) ≡ false → added_totals w ≡ added_totals v

-- The ends of such walks answer the same: each test goes the same way for both.
module _ (w v : Walk) (s : Sheet) where
  both_refused : (n : ℕ) → SameEnd (refused_end n w s) (refused_end n v s)
  both_refused n = record { number = refl; totals = refl; sheet = refl }

  both_ended : (t u : Totals) (o p : Float) → t ≡ u → SameEnd (ended_with s t o) (ended_with s u p)
  both_ended t u o p e = record { number = refl; totals = e; sheet = ap (sheet_with s) e }

  same_test : {a b : Bool} {c d e f : EndOutcome} → a ≡ b → SameEnd c d → (a ≡ false → SameEnd e f) → SameEnd (cond a c e) (cond b d f)
  same_test {a} {c = c} {d} {e} {f} same refused goes_on = subst (λ b. SameEnd (cond a c e) (cond b d f)) same (go a goes_on)
    where
      go : (a : Bool) → (a ≡ false → SameEnd e f) → SameEnd (cond a c e) (cond a d f)
      go true k = refused
      go false k = k refl

  same_tests :
      {a b c d f g a' b' c' d' f' g' : Bool} →
      a ≡ a' →
      b ≡ b' →
      c ≡ c' →
      (c ≡ false → d ≡ d') →
      f ≡ f' →
      (c ≡ false → d ≡ false → g ≡ g') →
      (c ≡ false → d ≡ false → added_totals w ≡ added_totals v) →
      SameEnd (by_tests w s a b c d f g) (by_tests v s a' b' c' d' f' g')
  same_tests ea eb ec ed ef eg added =
      same_test ea (both_refused 28) (λ _.
      same_test eb (both_refused 21) (λ _.
      same_test ec (both_refused 24) (λ c.
      same_test (ed c) (both_refused 32) (λ d.
      same_test ef (both_refused 25) (λ _.
      same_test (eg c d) (both_refused 26) (λ _.
      both_ended (added_totals w) (added_totals v) w.outage v.outage (added c d)))))))

  same_end : impossible_walk w ≡ impossible_walk v → w.is_open ≡ v.is_open → Alike w v → SameEnd (end_call w s) (end_call v s)
  same_end possible is_open k =
      end_by w s (λ e. SameEnd e (end_call v s)) (λ a b c d f g ea eb ec ed ef eg.
      end_by v s (λ e. SameEnd (by_tests w s a b c d f g) e) (λ a' b' c' d' f' g' ea' eb' ec' ed' ef' eg'.
      let enough : c ≡ false → 3 ≤ w.count = λ h. ltb-false w.count 3 (ec ∙ h) in
      let added : c ≡ false → d ≡ false → added_totals w ≡ added_totals v = λ h z. k.added (enough h) (ed ∙ z) in
      same_tests
      (sym ea ∙ ap (λ b. b || impossible_sheet s) possible ∙ ea')
      (sym eb ∙ ap not is_open ∙ eb')
      (sym ec ∙ ap (λ n. ltb n 3) k.count ∙ ec')
      (λ h. sym ed ∙ k.area (enough h) ∙ ed')
      (sym ef ∙ ef')
      (λ h z. sym eg ∙ ap (λ t. exceed total_limits (plus s.totals t)) (added h z) ∙ eg')
      added))

module _ (first second : Walking) (start : ℕ) (direction : Direction) (same : (reached second).ring.points ≡ start_at start (walked direction (reached first).ring.points)) where
  -- Its totals with the closing edge are those of the first, their signs turned if walked backwards.
  back_totals : Closable (reached first).walk → Closable (reached second).walk → closed_totals (reached second).walk ≡ directed direction (closed_totals (reached first).walk)
  back_totals c d =
      let ps = (reached first).ring.points in
      let t = closed_totals (reached first).walk in
      let again = no_cut_no_map (numbers ps) t ((walked-outline first).list_call_agrees c) start direction in
      ap (λ a. a.totals) (sym ((walked-outline second).list_call_agrees d) ∙ ap (λ qs. list_call (numbers qs)) (same ∙ ap (λ ps. start_at start (walked direction ps)) (sym (points-numbers ps))) ∙ again)

  -- It has as many points.
  pub same_count : (reached first).walk.is_open ≡ true → (reached second).walk.is_open ≡ true → (reached first).walk.count ≡ (reached second).walk.count
  same_count open-first open-second =
      ap (λ (w : Walk). w.count) ((walked-outline first).is_walk open-first)
      ∙ sym (ap length same ∙ start-length start (walked direction (reached first).ring.points) ∙ walked-length direction (reached first).ring.points)
      ∙ sym (ap (λ (w : Walk). w.count) ((walked-outline second).is_walk open-second))

  alike : (reached first).walk.is_open ≡ true → (reached second).walk.is_open ≡ true → (reached second).ring.kind ≡ (reached first).ring.kind → Alike (reached first).walk (reached second).walk
  alike open-first open-second kind = record { count = count; area = area; added = added }
    where
      w : Walk
      w = (reached first).walk

      v : Walk
      v = (reached second).walk

      count : w.count ≡ v.count
      count = same_count open-first open-second

      totals : 3 ≤ w.count → closed_totals v ≡ directed direction (closed_totals w)
      totals n = back_totals (record { is_open = open-first; enough = n }) (record { is_open = open-second; enough = subst (λ c. 3 ≤ c) count n })

      area : 3 ≤ w.count → zero_area (closed_totals w) ≡ zero_area (closed_totals v)
      area n = sym (ap zero_area (totals n) ∙ directed-zero_area direction (closed_totals w))

      kinds : w.kind ≡ v.kind
      kinds = ap (λ (x : Walk). x.kind) ((walked-outline first).is_walk open-first) ∙ sym kind ∙ sym (ap (λ (x : Walk). x.kind) ((walked-outline second).is_walk open-second))

      added : 3 ≤ w.count → zero_area (closed_totals w) ≡ false → added_totals w ≡ added_totals v
      added n z = sym (turned-directed w.kind direction (closed_totals w) z) ∙ ap₂ turned kinds (sym (totals n))

pub walked_back : WalkedBack
walked_back first open-first second open-second kind start direction same s =
    same_end (reached first).walk (reached second).walk s ((walked-outline first).possible ∙ sym (walked-outline second).possible) (open-first ∙ sym open-second) (alike first second start direction same open-first open-second kind)
