-- `worked_plots::plots::doubled_square` meets its contract: the part of the array that is lent is the front of the square's numbers.
use mathlib.Core.Path.{◌≡◌, refl, sym, ap, ◌∙◌}
use native.Mathlib.Omega.{arith}
use lib.ListN.{take}
use lib.Seq.{length-take-le}
use Prim.Native.Nat.{◌*◌}
use Rattle.std.specs.Prelude.{Result, Ok, Err}
use Rattle.outline.specs.declared.Totals.{Totals}
use Rattle.outline.specs.ListCall.{list_call}
use Rattle.outline.specs.MapCall.{map_call}
use Rattle.outline_answers.specs.declared.OutlineRefusal.{OutlineRefusal}
use Rattle.outline_answers.specs.ListAnswer.{reading, totals_of}
use Rattle.worked_plots.specs.Plots.{doubling}
use Rattle.worked_plots.proofs.plots.doubled_square.Goals as goal

-- The totals that an answer tells are those of its reading.
told : (a : Result Totals OutlineRefusal) → totals_of a ≡ (reading a).totals
told (Ok t) = refl
told (Err r) = refl

pub slice_bounds-outline_totals-end : goal.slice_bounds-outline_totals-end
slice_bounds-outline_totals-end c = sym (length-take-le (c.args.rounds * 8) c.square_numbers-numbers.result (omega arith))

pub returns : goal.returns
returns c =
    let n = c.args.rounds * 8 in
    let listed = c.totals_of-totals.ensures ∙ told c.outline_totals.result ∙ ap (λ r. r.totals) (c.outline_totals.ensures ∙ ap (λ l. list_call (take n l)) c.square_numbers-numbers.ensures) in
    c.map_totals.ensures ∙ ap (map_call doubling) listed
