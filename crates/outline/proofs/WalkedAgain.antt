-- Demand 3's last sentence for walks: whoever walks an outline again, from another start, backwards or moved, gets the totals that the first walk and the map give.
use mathlib.Core.Path.{◌≡◌, refl, sym, ◌∙◌, ap}
use lib.IntN.{neg_ℤ-neg_ℤ}
use Rattle.outline.specs.declared.Totals.{Totals}
use Rattle.outline.specs.ListCall.{accepted, points, numbers, any_outside, list_call}
use Rattle.outline.specs.MapCall.{moved}
use Rattle.outline.specs.Pieces.{start_at, Direction, forwards, backwards, walked, directed}
use Rattle.outline.specs.WalkCalls.{closed_totals}
use Rattle.outline.specs.CallLists.{reached}
use Rattle.outline.specs.WalkedOutline.{WalkedAgain}
use Rattle.outline.proofs.IndexLaws.{points-numbers}
use Rattle.outline.proofs.PiecesLaws.{no_cut}
use Rattle.outline.proofs.WalkedOutline.{walked-outline}

directed_twice : (direction : Direction) (t : Totals) → directed direction (directed direction t) ≡ t
unfolding directed
directed_twice forwards t = refl
directed_twice backwards t = simp neg_ℤ-neg_ℤ

pub walked_again : WalkedAgain
walked_again first closable-first second closable-second start direction m allowed bounds e =
    let r = reached first in
    let ps = r.ring.points in
    let p = points-numbers ps in
    let one = no_cut (numbers ps) (closed_totals r.walk) ((walked-outline first).list_call_agrees closable-first) start direction m allowed (ap (λ ps. any_outside (moved m ps)) p ∙ bounds) in
    let taken : (reached second).ring.points ≡ moved m (start_at start (walked direction (points (numbers ps)))) = e ∙ ap (λ ps. moved m (start_at start (walked direction ps))) (sym p) in
    let again = sym ((walked-outline second).list_call_agrees closable-second) ∙ ap (λ ps. list_call (numbers ps)) taken ∙ one.list-accepts in
    one.map-accepts ∙ ap accepted (sym (directed_twice direction one.image) ∙ sym (ap (λ a. directed direction a.totals) again))
