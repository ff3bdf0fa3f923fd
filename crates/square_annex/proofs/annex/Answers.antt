use Prim.Native.Nat.{ℕ, ◌+◌, ◌*◌, ◌≤◌}
use mathlib.Core.Path.{◌≡◌, refl, ap, ◌∙◌}
use native.Mathlib.Nat.{mul-le-mul}
use native.Mathlib.Numerals.{add-one}
use native.Mathlib.Omega.{arith}
use Rattle.column_sums.specs.SumsBelow.{square_sum}
use Rattle.column_sums.proofs.SumBounds.{square-sized}
use Rattle.decimals.proofs.BufferLaws.{none_written, then}
use Rattle.column_sums.specs.Annex.{entries_from, square_sums}
use Rattle.square_annex.specs.Printed.{lines_of}
use Rattle.square_annex.proofs.LineLaws.{one_line_more, lines-length}
use Rattle.square_annex.proofs.annex.Goals as goal

pub loop-k-init : goal.loop-k-init
unfolding square_sum lines_of entries_from
loop-k-init c = record { entry = refl; size = refl; lines = none_written c.args.out.now 0 }

pub put_line-at-requires : goal.put_line-at-requires
put_line-at-requires c = let l = c.loop-k in omega (arith, l.invariant.lines.end, lines-length 0 l.k (omega arith), c.requires)

-- The next square.
square : (k : ℕ) → k ≤ 1024 → k * k ≤ 1024 * 1024
square k h = mul-le-mul {n₁ = k} {m₁ = k} {n₂ = 1024} {m₂ = 1024} h h

pub overflow_mul-sum : goal.overflow_mul-sum
overflow_mul-sum c = record { fits = omega (arith, square c.loop-k.k (omega arith)) }

pub overflow_add-sum : goal.overflow_add-sum
overflow_add-sum c = let l = c.loop-k in record { fits = omega (arith, square l.k (omega arith), l.invariant.entry, square-sized l.k (omega arith) refl) }

pub loop-k-preserved : goal.loop-k-preserved
unfolding square_sum
loop-k-preserved c =
    let l = c.loop-k in
    let line = c.put_line-at in
    record {
      entry = rw add-one (ap (λ s. s + l.k * l.k) l.invariant.entry);
      size = line.auto.out ∙ l.invariant.size;
      lines = rw (add-one, one_line_more 0 l.k l.k (omega arith)) (then (omega arith) l.invariant.lines (rw l.invariant.entry at line.ensures));
    }

pub returns : goal.returns
unfolding square_sums
returns c =
    let l = c.loop-k in
    let all : l.k ≡ 1025 = omega arith in
    rw all at l.invariant.lines
