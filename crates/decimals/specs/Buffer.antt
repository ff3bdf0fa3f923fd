-- What a call that writes text into a buffer leaves: the whole buffer, and the place past the text. Ours; document 01 speaks of the text alone.
use Rattle.std.specs.Prelude.{ℕ, ◌+◌, ◌≡◌, cond, List, [], ◌++◌, ltb, length, take, drop}

-- The buffer with the text from `at` on; all else is as it was.
unfoldable pub overwritten : List ℕ → ℕ → List ℕ → List ℕ
overwritten buffer at text = take at buffer ++ text ++ drop (at + length text) buffer

-- What is written of a text: nothing where the buffer has less room than this from `at` on.
abbrev pub if_room : ℕ → List ℕ → ℕ → List ℕ → List ℕ
if_room room buffer at text = cond (ltb (length buffer) (at + room)) [] text

-- Room for a tab and a number of 64 bits: 20 digits, or a minus and 19.
abbrev pub field_room : ℕ
field_room = 21

-- The text is written from `at` on: the buffer afterwards, and the answer, the place past the text.
pub record Written (before : List ℕ) (at : ℕ) (text after : List ℕ) (answer : ℕ) : Type 0 where
  pub buffer : after ≡ overwritten before at text
  pub end : answer ≡ at + length text
