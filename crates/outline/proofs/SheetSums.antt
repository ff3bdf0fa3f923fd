-- Demand 2 for sheets: a sheet holds the outlines that it has accepted since it was new, and nothing else; and 28 never refuses it.
use mathlib.Core.Path.{◌≡◌, refl, sym, ◌∙◌, ap₂, subst}
use mathlib.Core.Bool.{Bool, true, false, cond}
use mathlib.Core.List.{List, [], ◌∷◌, map}
use Prim.Native.Nat.{◌+◌}
use native.Mathlib.Omega.{arith}
use lib.Dec.{eqb}
use lib.ListN.{length}
use borrow.Author.Tests.{le-ltb, eqb-true, ne_eqb}
use Rattle.outline.specs.declared.Totals.{Totals}
use Rattle.outline.specs.declared.Walk.{Walk}
use Rattle.outline.specs.declared.Sheet.{Sheet}
use Rattle.outline.specs.EdgeSums.{plus, over, exceed}
use Rattle.outline.specs.Pieces.{sum_of}
use Rattle.outline.specs.WalkCalls.{new_sheet, added_totals, sheet_with, impossible_sheet, EndOutcome, end_call}
use Rattle.outline.specs.CallLists.{Ring, ring_totals, sheet_after, added_by, Walking, reached, rings_on}
use Rattle.outline.specs.SheetSums.{HoldsSums, SheetSums, WalkedSheetSums}
use Rattle.integers.proofs.Flags.{neither}
use Rattle.outline.proofs.CallCases as Case
use Rattle.outline.proofs.TotalsLaws.{plus_assoc, plus-zeros, zeros-plus}
use Rattle.outline.proofs.WalkedOutline.{walked-outline}

-- ---- a list of ends

-- What the sheet s has become, ts being the totals that the accepted ends added.
record Grown (s : Sheet) (ts : List Totals) (left : Sheet) : Type 0 where
  count : left.count ≡ s.count + length ts
  totals : left.totals ≡ plus s.totals (sum_of ts)
  possible : impossible_sheet left ≡ false

one_more : (s : Sheet) (t : Totals) (ts : List Totals) (left : Sheet) → Grown (sheet_with s t) ts left → Grown s (t ∷ ts) left
unfolding sum_of
one_more s t ts left g = record { count = omega (arith, g.count); totals = g.totals ∙ plus_assoc s.totals t (sum_of ts); possible = g.possible }

grown : (ws : List Walk) (s : Sheet) → impossible_sheet s ≡ false → Grown s (added_by s ws) (sheet_after s ws)
unfolding sheet_after added_by sum_of impossible_sheet
grown [] s m = record { count = omega arith; totals = sym (plus-zeros s.totals); possible = m }
grown (w ∷ ws) s m = go (λ r k. grown ws r k) (end_call w s) (Case.end_case w s)
  where
    go : ((r : Sheet) → impossible_sheet r ≡ false → Grown r (added_by r ws) (sheet_after r ws)) → (e : EndOutcome) → Case.EndCase w s e → Grown s (cond (eqb e.number 0) (e.totals ∷ added_by e.sheet ws) (added_by e.sheet ws)) (sheet_after e.sheet ws)
    go rest e (Case.refused n k) = rw (ne_eqb n 0 k.refusal.not_0) (rest s m)
    go rest e (Case.accepted k) =
        let added = sheet_with s (added_totals w) in
        let possible = neither (le-ltb 64 (s.count + 1) (omega (arith, k.room))) k.within in
        one_more s (added_totals w) (added_by added ws) (sheet_after added ws) (rest added possible)

-- ---- the theorem

pub sheet-sums : SheetSums
unfolding impossible_sheet exceed over
sheet-sums ws =
    let g = grown ws new_sheet refl in
    record { count = omega (arith, g.count); totals = g.totals ∙ zeros-plus (sum_of (added_by new_sheet ws)); possible = g.possible }

-- ---- walked outlines

-- What the end of a ring adds is the totals of its points, turned by its kind.
added_rings : (ks : List Walking) (s : Sheet) → added_by s (map (λ k. (reached k).walk) ks) ≡ map ring_totals (rings_on s (map reached ks))
unfolding added_by rings_on
added_rings [] s = refl
added_rings (k ∷ ks) s = go (rings_on e.sheet (map reached ks)) (added_rings ks e.sheet) (eqb e.number 0) refl
  where
    e : EndOutcome
    e = end_call (reached k).walk s

    go : {ts : List Totals} (gs : List Ring) → ts ≡ map ring_totals gs → (b : Bool) → eqb e.number 0 ≡ b → cond b (e.totals ∷ ts) ts ≡ map ring_totals (cond b ((reached k).ring ∷ gs) gs)
    go gs rest true h = ap₂ {C = List Totals} (λ t ts. t ∷ ts) ((walked-outline k).answered s (eqb-true e.number 0 h)) rest
    go gs rest false h = rest

pub walked-sheet-sums : WalkedSheetSums
walked-sheet-sums ks = subst (HoldsSums (sheet_after new_sheet (map (λ k. (reached k).walk) ks))) (added_rings ks new_sheet) (sheet-sums (map (λ k. (reached k).walk) ks))
