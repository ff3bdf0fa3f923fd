-- Document 02, CR 10: refusals, and the laws of a start, of the opposite order and of one cut: specs/ThirdLaws. The last three are cases of the theorem on a whole list of cuts.
use mathlib.Core.Path.{◌≡◌, refl, sym, ◌∙◌, ap, subst}
use mathlib.Core.Bool.{Bool, true, false, cond, false≢true}
use mathlib.Core.List.Memᴰ
use mathlib.Core.List.{[], ◌∷◌}
use native.Mathlib.Omega.{arith}
use lib.IntN.{+ℤ_idr}
use Rattle.outline.specs.EdgeSums.{outline_totals}
use Rattle.outline.specs.ListCall.{accepted, refused, points, any_beyond, any_outside, wrong_length, list_call}
use Rattle.outline.specs.Pieces.{kept, others, cut_all, pieces_of, start_at, forwards, walked, placed}
use Rattle.outline.proofs.CutPieces.{two_pieces}
use Rattle.outline.proofs.PiecesLaws.{first-start}
use Rattle.third_order.specs.declared.ThirdTotals.{ThirdTotals}
use Rattle.third_order.specs.ThirdTerms.{third_totals, no_thirds, plus_thirds}
use Rattle.third_order.specs.ThirdCall.{accepted_thirds, refused_thirds, third_call}
use Rattle.third_order.specs.ThirdPieces.{thirds_of, sum_of_thirds, directed_thirds, ThirdsAddUp}
use Rattle.third_order.specs.ThirdLaws.{Refusing, ThirdRefusals, ThirdStarts, ThirdCut}
use Rattle.third_order.proofs.ThirdPieces.{third_pieces_add_up}

-- ---- refusals

pub third_refusals : ThirdRefusals
unfolding list_call third_call
third_refusals zs = go (wrong_length zs) (any_outside (points zs)) (any_beyond 500 (points zs))
  where
    go : (a b c : Bool) → Refusing (cond a (refused_thirds 2) (cond b (refused_thirds 1) (cond c (refused_thirds 35) (accepted_thirds (third_totals (points zs)))))) (cond a (refused 2) (cond b (refused 1) (accepted (outline_totals (points zs))))).number c
    go true b c = record { as_listed = λ n. refl; with_35 = (λ e. absurd (omega arith), λ h. absurd (omega (arith, h.0))); taken = (λ e. absurd (omega arith), λ h. absurd (omega (arith, h.0))); zeros = λ n. refl }
    go false true c = record { as_listed = λ n. refl; with_35 = (λ e. absurd (omega arith), λ h. absurd (omega (arith, h.0))); taken = (λ e. absurd (omega arith), λ h. absurd (omega (arith, h.0))); zeros = λ n. refl }
    go false false true = record { as_listed = λ n. absurd (n refl); with_35 = (λ e. (refl, refl), λ h. refl); taken = (λ e. absurd (omega arith), λ h. absurd (false≢true (sym h.1))); zeros = λ n. refl }
    go false false false = record { as_listed = λ n. absurd (n refl); with_35 = (λ e. absurd (omega arith), λ h. absurd (false≢true h.1)); taken = (λ e. (refl, refl), λ h. refl); zeros = λ n. absurd (n refl) }

-- ---- a start, the opposite order, a cut

plus_none : (t : ThirdTotals) → plus_thirds t no_thirds ≡ t
plus_none t = simp +ℤ_idr

pub third_starts : ThirdStarts
unfolding cut_all placed sum_of_thirds
third_starts zs t e s w =
    let r = third_pieces_add_up zs t e [] (λ k. s) w in
    let p = start_at s (walked w (points zs)) in
    r.accepts p (Memᴰ.head refl) ∙ ap accepted_thirds (sym (plus_none (thirds_of p)) ∙ r.sum)

pub third_cut : ThirdCut
unfolding sum_of_thirds directed_thirds
third_cut zs t e c can =
    let r = subst (ThirdsAddUp forwards t) (first-start (pieces_of (points zs) (c ∷ [])) ∙ two_pieces (points zs) c can) (third_pieces_add_up zs t e (c ∷ []) (λ k. 0) forwards) in
    record {
      kept-accepted = r.accepts (kept c (points zs)) (Memᴰ.head refl);
      others-accepted = r.accepts (others c (points zs)) (Memᴰ.tail (Memᴰ.head refl));
      sum = ap (plus_thirds (thirds_of (kept c (points zs)))) (sym (plus_none (thirds_of (others c (points zs))))) ∙ r.sum;
    }
