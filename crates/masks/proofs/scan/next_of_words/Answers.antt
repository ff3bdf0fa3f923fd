-- `masks::scan::next_of_words` meets its contract: a word is searched as a whole, and passed where nothing is found in it.
use mathlib.Core.Path.{◌≡◌, sym, ap, ◌∙◌}
use Prim.Native.Nat.{ℕ, ◌+◌, ◌-◌, ◌*◌}
use native.Mathlib.Omega.{arith}
use lib.ListN.{length}
use Rattle.word_runs.specs.Bits.{wanted}
use Rattle.word_runs.specs.private.WordList.{first_bit}
use Rattle.integers.proofs.Searches.{empty_search}
use Rattle.word_runs.proofs.WordSearch.{found_here, not_here}
use Rattle.masks.proofs.scan.next_of_words.Goals as goal

pub returns-in-Some : goal.returns-in-Some
returns-in-Some c =
    let ws = c.args.words.now in
    let k = c.loop-k.k in
    found_here ws (wanted c.args.set) k 0 (64 * k) (64 * length ws) (omega arith) (omega arith) (omega (arith, c.loop-k-test.true)) c.in-Some.place c.in-Some.ensures ∙ sym c.loop-k.invariant

pub loop-k-preserved : goal.loop-k-preserved
loop-k-preserved c =
    let ws = c.args.words.now in
    let k = c.loop-k.k in
    let next : k * 64 + 64 ≡ 64 * (k + 1) = omega arith in
    c.loop-k.invariant
    ∙ not_here ws (wanted c.args.set) k 0 (64 * k) (64 * length ws) (omega arith) (omega arith) (omega (arith, c.loop-k-test.true)) c.in_default.ensures
    ∙ ap (λ (n : ℕ). first_bit (wanted c.args.set) ws (64 * length ws - n) n) next

pub returns : goal.returns
returns c = sym (c.loop-k.invariant ∙ empty_search _ _ _ (omega arith) ∙ omega arith)
