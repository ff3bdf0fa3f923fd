-- `masks::scan::next_run` meets its contract: the start is sought in all words, the end in those up to the end of the start's row.
use mathlib.Core.Path.{sym, ap, ◌∙◌}
use Prim.Native.Nat.{ℕ, ◌-◌}
use native.Mathlib.Omega.{arith}
use lib.ListN.{length, length-take}
use Rattle.word_runs.specs.private.WordList.{first_bit}
use Rattle.masks.proofs.NextRun.{positions_of, none_found, run_found, ends, ends_near}
use Rattle.masks.proofs.scan.next_run.Goals as goal

pub next_bit-start-requires : goal.next_bit-start-requires
next_bit-start-requires c = (positions_of _ c.args.mask.whole_rows).most

pub overflow_mul-words : goal.overflow_mul-words
overflow_mul-words c = record { fits = omega (arith, (positions_of _ c.args.mask.whole_rows).most) }

pub returns-then-words-start : goal.returns-then-words-start
returns-then-words-start c =
    let ws = c.args.mask.words.now in
    let all = (positions_of (length ws) c.args.mask.whole_rows).all in
    none_found ws c.args.at c.next_bit-start.result (c.next_bit-start.ensures ∙ ap (λ (n : ℕ). first_bit 1 ws (n - c.args.at) c.args.at) (sym all)) (omega (arith, all, c.if-words-start.true))

pub slice_bounds-next_bit-end : goal.slice_bounds-next_bit-end
slice_bounds-next_bit-end c = omega (arith, c.if-words-start.false, (positions_of _ c.args.mask.whole_rows).rows, length-take {A = ℕ})

pub next_bit-next-requires : goal.next_bit-next-requires
next_bit-next-requires c = omega (arith, (positions_of _ c.args.mask.whole_rows).most, length-take {A = ℕ})

-- Where the run ends.
pub overflow_cast-run : goal.overflow_cast-run
overflow_cast-run c = record { fits = omega (arith, c.if-words-start.false, (positions_of _ c.args.mask.whole_rows).most) }

pub overflow_sub-run : goal.overflow_sub-run
overflow_sub-run c =
    let ws = c.args.mask.words.now in
    let s = c.next_bit-start.result in
    let mask = positions_of (length ws) c.args.mask.whole_rows in
    omega (arith, ends ws s c.next_bit-next.result mask.rows (omega (arith, c.if-words-start.false)) c.next_bit-next.ensures, (ends_near ws s).0)

pub overflow_cast-run-3 : goal.overflow_cast-run-3
overflow_cast-run-3 c =
    let ws = c.args.mask.words.now in
    let s = c.next_bit-start.result in
    let mask = positions_of (length ws) c.args.mask.whole_rows in
    record { fits = omega (arith, ends ws s c.next_bit-next.result mask.rows (omega (arith, c.if-words-start.false)) c.next_bit-next.ensures, (ends_near ws s).1) }

pub returns : goal.returns
returns c =
    let ws = c.args.mask.words.now in
    let s = c.next_bit-start.result in
    let mask = positions_of (length ws) c.args.mask.whole_rows in
    run_found ws c.args.at s c.next_bit-next.result
    (c.next_bit-start.ensures ∙ ap (λ (n : ℕ). first_bit 1 ws (n - c.args.at) c.args.at) (sym mask.all))
    (omega (arith, mask.all, c.if-words-start.false))
    (ends ws s c.next_bit-next.result mask.rows (omega (arith, c.if-words-start.false)) c.next_bit-next.ensures)
