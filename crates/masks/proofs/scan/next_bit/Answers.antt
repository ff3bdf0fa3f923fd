-- `masks::scan::next_bit` meets its contract: the rest of the first word, then whole words.
use mathlib.Core.Path.{◌≡◌, sym, ap, ◌∙◌}
use Prim.Native.Nat.{ℕ, ◌+◌, ◌-◌, ◌*◌, ◌/◌, ◌%◌}
use native.Mathlib.Omega.{arith}
use lib.ListN.{length}
use Rattle.word_runs.specs.Bits.{wanted}
use Rattle.word_runs.specs.private.WordList.{first_bit}
use Rattle.integers.proofs.Searches.{empty_search}
use Rattle.word_runs.proofs.WordSearch.{found_here, not_here}
use Rattle.masks.proofs.scan.next_bit.Goals as goal

pub returns-then-words-k : goal.returns-then-words-k
returns-then-words-k c = sym (empty_search _ _ _ (omega (arith, c.if-words-k.true)))

pub returns-in-Some : goal.returns-in-Some
returns-in-Some c =
    let from = c.args.from in
    found_here c.args.words.now (wanted c.args.set) (from / 64) (from % 64) from (64 * length c.args.words.now) (omega arith) (omega arith) (omega (arith, c.if-words-k.false)) c.in-Some.place c.in-Some.ensures

pub returns : goal.returns
returns c =
    let ws = c.args.words.now in
    let from = c.args.from in
    let next : 64 * (from / 64 + 1) ≡ from / 64 * 64 + 64 = omega arith in
    c.next_of_words.ensures
    ∙ ap (λ (n : ℕ). first_bit (wanted c.args.set) ws (64 * length ws - n) n) next
    ∙ sym (not_here ws (wanted c.args.set) (from / 64) (from % 64) from (64 * length ws) (omega arith) (omega arith) (omega (arith, c.if-words-k.false)) c.in_default.ensures)
