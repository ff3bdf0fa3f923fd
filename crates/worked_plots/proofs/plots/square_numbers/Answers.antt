use mathlib.Core.Path.{◌≡◌, refl, sym, ap, ◌∙◌}
use Prim.Native.Nat.{◌%◌, ◌<◌}
use native.Mathlib.Numerals.{add-one}
use native.Mathlib.Omega.{arith}
use borrow.Author.Rules.{rules}
use lib.IntN.{pos}
use lib.ListN.{length, get_or, take, length-set}
use lib.Seq.{take-suc-set, take-length}
use mir.Syntax.{w32}
use mir.Val.{to_z, of_z}
use Rattle.worked_plots.specs.Plots.{square, round_square}
use Rattle.worked_plots.proofs.plots.square_numbers.Goals as goal

pub loop-i-init : goal.loop-i-init
unfolding round_square
loop-i-init c = record { long = refl; front = refl }

pub loop-i-preserved : goal.loop-i-preserved
unfolding round_square
loop-i-preserved c =
    let at = c.loop-i in
    let number = get_or square (at.i % 8) (pos 0) in
    let back : to_z w32 (of_z w32 number) ≡ number = search rules in
    let here : at.i < length at.numbers = omega arith in
    record { long = simp length-set at.invariant.long; front = rw (add-one, take-suc-set, back, at.invariant.front) }

pub returns : goal.returns
returns c =
    let at = c.loop-i in
    let all : at.i ≡ length at.numbers = omega arith in
    let whole : take at.i at.numbers ≡ at.numbers = rw all (take-length at.numbers) in
    sym whole ∙ at.invariant.front ∙ (ap round_square (omega arith))
