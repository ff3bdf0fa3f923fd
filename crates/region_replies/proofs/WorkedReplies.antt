-- Replies worked by computation: where each value stands, what stays behind the values, the number of a short buffer.
use Prim.Native.Nat.{ℕ}
use mathlib.Core.Path.{◌≡◌, refl, ap}
use mathlib.Core.List.{[], ◌∷◌}
use lib.IntN.{pos}
use lib.ListN.{replicate}
use Rattle.cells.specs.RegionCall.{refused, region_call}
use Rattle.cells.proofs.RunLimits.{several_runs, accepted}
use Rattle.cells.proofs.WorkedIndices.{two_disordered, then_two_bad, lowest}
use Rattle.replies.specs.Reply.{reply}
use Rattle.region_replies.specs.RegionReply.{region_reply}

-- The index stands seventh: 0 where there are totals.
region : region_reply (record { number = 0; index = 0; totals = record { a2 = pos 1; x6 = pos 2; y6 = pos 3; xx12 = pos 4; xy24 = pos 5; yy12 = pos 6 } }) (replicate 8 (pos 9)) ≡ record { number = 0; buffer = pos 1 ∷ pos 2 ∷ pos 3 ∷ pos 4 ∷ pos 5 ∷ pos 6 ∷ pos 0 ∷ pos 9 ∷ [] }
unfolding reply
region = refl

-- Whatever is refused, and whichever run is at the index.
refused-region : (n i : ℕ) → region_reply (refused n i) (replicate 7 (pos 9)) ≡ record { number = n; buffer = pos 0 ∷ pos 0 ∷ pos 0 ∷ pos 0 ∷ pos 0 ∷ pos 0 ∷ pos i ∷ [] }
unfolding reply
refused-region n i = refl

short_for_region : region_reply (refused 6 3) (replicate 6 (pos 9)) ≡ record { number = 100; buffer = replicate 6 (pos 9) }
unfolding reply
short_for_region = refl

-- ---- the replies to whole lists of runs

accepted-runs : region_reply (region_call several_runs) (replicate 8 (pos 9)) ≡ record { number = 0; buffer = pos 10 ∷ pos 87 ∷ pos 81 ∷ pos 764 ∷ pos 666 ∷ pos 572 ∷ pos 0 ∷ pos 9 ∷ [] }
unfolding reply
accepted-runs = ap (λ o. region_reply o (replicate 8 (pos 9))) accepted.several_runs_lem

-- Runs 1 and 2 break 7.
out_of_order : region_reply (region_call two_disordered) (replicate 7 (pos 9)) ≡ record { number = 7; buffer = pos 0 ∷ pos 0 ∷ pos 0 ∷ pos 0 ∷ pos 0 ∷ pos 0 ∷ pos 1 ∷ [] }
unfolding reply
out_of_order = ap (λ o. region_reply o (replicate 7 (pos 9))) lowest.seven

-- And runs 3 and 4 break 6.
bad_runs : region_reply (region_call then_two_bad) (replicate 7 (pos 9)) ≡ record { number = 6; buffer = pos 0 ∷ pos 0 ∷ pos 0 ∷ pos 0 ∷ pos 0 ∷ pos 0 ∷ pos 3 ∷ [] }
unfolding reply
bad_runs = ap (λ o. region_reply o (replicate 7 (pos 9))) lowest.six
