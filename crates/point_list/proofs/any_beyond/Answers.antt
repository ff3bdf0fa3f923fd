-- `any_beyond`: at the end all numbers that have their pair are searched.
use mathlib.Core.Path.{◌≡◌}
use Prim.Native.Nat.{◌*◌, ◌/◌, ◌≤◌}
use native.Mathlib.Omega.{arith}
use lib.ListN.{length}
use Rattle.std.proofs.lemmas.Grind.{common_steps}
use Rattle.point_list.proofs.Pairs.{beyond_by_numbers}
use Rattle.point_list.proofs.any_beyond.Goals as goal

pub returns : goal.returns
returns c =
    let zs = c.args.points.now in
    let fits : length zs / 2 * 2 ≤ length zs = omega arith in
    let whole : c.loop-z.z-index ≡ length zs / 2 * 2 = grind (arith, common_steps) in
    rw (beyond_by_numbers c.args.limit zs, ← whole) c.loop-z.invariant
