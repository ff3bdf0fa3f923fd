-- `masks::scan::next_of_words`: what is to be found from word k on is what was to be found at the start.
use mathlib.Core.Path.{◌≡◌}
use Prim.Native.Nat.{◌-◌, ◌*◌}
use lib.ListN.{length}
use Rattle.word_runs.specs.Bits.{wanted}
use Rattle.word_runs.specs.private.WordList.{first_bit}
use Rattle.masks.proofs.scan.next_of_words.Given as goal

abbrev pub invariant-loop-k : goal.invariant-loop-k
invariant-loop-k l = first_bit (wanted l.set) l.words (64 * length l.words - 64 * l.first) (64 * l.first) ≡ first_bit (wanted l.set) l.words (64 * length l.words - 64 * l.k) (64 * l.k)
