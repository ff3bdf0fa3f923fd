-- Document 02, CR 10: the definitions give the figures of every row of third moments, by computation.
use mathlib.Core.Path.{◌≡◌, refl}
use mathlib.Core.List.{List}
use lib.IntN.{ℤ}
use Rattle.outline.specs.EdgeSums.{open_edges, edges, sum_over, over}
use Rattle.outline.specs.ListCall.{points, numbers, beyond, any_beyond, wrong_length}
use Rattle.outline.proofs.Every.{All}
use Rattle.third_order.specs.ThirdCall.{ThirdOutcome, third_call}
use Rattle.worked_rows.specs.ThirdRows.{third_holds, third_rows}

pub third_rows_lem : All third_holds third_rows
unfolding open_edges edges sum_over over points numbers beyond any_beyond wrong_length third_call third_holds
third_rows_lem = (refl, (refl, (refl, (refl, (refl, (refl, (refl, (refl, (refl, (refl, (refl, (refl, tt))))))))))))

-- A row that holds tells the whole answer.
whole-answer : (zs : List ℤ) (answer : ThirdOutcome) → third_holds (record { list = zs; answer = answer }) → third_call zs ≡ answer
unfolding third_holds
whole-answer zs answer holds = holds
