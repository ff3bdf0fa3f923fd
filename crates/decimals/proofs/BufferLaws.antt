-- Text written into a buffer: nothing, one byte, one text after another.
use Prim.Native.Nat.{ℕ, suc, ◌+◌, ◌≤◌, ◌<◌}
use mathlib.Core.Path.{◌≡◌, refl, sym, ap, ap₂, ◌∙◌}
use mathlib.Core.Bool.{Bool, true, false}
use mathlib.Core.List.{List, [], ◌∷◌, ◌++◌, append_assoc, append-nil}
use native.Mathlib.Omega.{arith}
use native.Mathlib.Numerals.{add-one}
use lib.Dec.{ltb}
use borrow.Author.Tests.{le-ltb, ltb-false}
use lib.ListN.{length, take, drop, set, length-append, length-drop, take-append-drop}
use lib.Seq.{length-take-le, append_snoc, set_split, take_at, drop_at, drop-drop}
use Rattle.decimals.specs.Buffer.{overwritten, if_room, Written}

-- Nothing written leaves the buffer as it was.
overwritten_nothing : (o : List ℕ) (at : ℕ) → overwritten o at [] ≡ o
unfolding overwritten
overwritten_nothing o at = let same : at + 0 ≡ at = omega arith in ap₂ (λ f n. f ++ drop n o) (append-nil (take at o)) same ∙ take-append-drop at o

pub none_written : (o : List ℕ) (at : ℕ) → Written o at [] o at
none_written o at = record { buffer = sym (overwritten_nothing o at); end = omega arith }

overwritten-length : (o : List ℕ) (at : ℕ) (x : List ℕ) → at + length x ≤ length o → length (overwritten o at x) ≡ length o
unfolding overwritten
overwritten-length o at x h = simp (length-append, length-drop) (omega (arith, length-take-le at o (omega arith)))

-- The buffer after a text, up to the end of the text and from a later place on.
module _ (o : List ℕ) (at : ℕ) (x : List ℕ) (h : at ≤ length o) where
  head_length : length (take at o ++ x) ≡ at + length x
  head_length = length-append (take at o) x ∙ ap (λ n. n + length x) (length-take-le at o h)

  take-overwritten : take (at + length x) (overwritten o at x) ≡ take at o ++ x
  unfolding overwritten
  take-overwritten = take_at (take at o ++ x) (drop (at + length x) o) (at + length x) head_length

  drop-overwritten : (n : ℕ) → drop (at + length x + n) (overwritten o at x) ≡ drop (at + length x + n) o
  unfolding overwritten
  drop-overwritten n =
      sym (drop-drop n (at + length x) (overwritten o at x))
      ∙ ap (λ l. drop n l) (drop_at (take at o ++ x) (drop (at + length x) o) (at + length x) head_length)
      ∙ drop-drop n (at + length x) o

  -- One text after the other is one text.
  overwritten_twice : (y : List ℕ) → overwritten (overwritten o at x) (at + length x) y ≡ overwritten o at (x ++ y)
  unfolding overwritten
  overwritten_twice y =
      let size : at + length x + length y ≡ at + length (x ++ y) = omega (arith, length-append x y) in
      ap₂ (λ f b. f ++ y ++ b) take-overwritten (drop-overwritten (length y)) ∙ ap₂ (λ f n. f ++ drop n o) (append_assoc (take at o) x y) size

pub then : {o p q x y : List ℕ} {at a b : ℕ} → at ≤ length o → Written o at x p a → Written p a y q b → Written o at (x ++ y) q b
then {o} {p} {q} {x} {y} {at} {a} {b} h v w =
    record {
      buffer = w.buffer ∙ ap₂ (λ l n. overwritten l n y) v.buffer v.end ∙ overwritten_twice o at x h y;
      end = omega (arith, length-append x y);
    }

-- A text at the front of a buffer is as many bytes of it.
pub in_front : {o x p : List ℕ} {n : ℕ} → Written o 0 x p n → take n p ≡ x
unfolding overwritten
in_front {o} {x} {n = n} w = ap (take n) w.buffer ∙ take_at x (drop (0 + length x) o) n (omega (arith, w.end))

-- One byte.
pub byte_written : (o : List ℕ) (at b : ℕ) → at < length o → Written o at (b ∷ []) (set o at b) (at + 1)
unfolding overwritten
byte_written o at b h = record { buffer = rw add-one (set_split o at b h ∙ sym (append_snoc (take at o) b (drop (suc at) o))); end = refl }

-- ---- a text, where there is room for it, and where there is not

module _ (room : ℕ) (o : List ℕ) (at : ℕ) {lacking : Bool} (e : lacking ≡ ltb (length o) (at + room)) where
  pub has_room : lacking ≡ false → at + room ≤ length o
  has_room f = ltb-false (length o) (at + room) (sym e ∙ f)

  pub not_written : (text : List ℕ) → lacking ≡ true → Written o at (if_room room o at text) o at
  not_written text t = rw (sym e ∙ t) (none_written o at)

  pub text_written : {p : List ℕ} {r : ℕ} (text : List ℕ) → lacking ≡ false → Written o at text p r → Written o at (if_room room o at text) p r
  text_written text f w = rw (sym e ∙ f) w

-- ---- texts one after another, where there is room for all

-- A text is written from `at` on, and this room is left behind it.
pub record SoFar (before : List ℕ) (at : ℕ) (text after : List ℕ) (answer room : ℕ) : Type 0 where
  pub written : Written before at text after answer
  pub size : length after ≡ length before
  pub left : answer + room ≤ length before

-- None is written yet.
pub none_yet : (o : List ℕ) (at room : ℕ) → at + room ≤ length o → SoFar o at [] o at room
none_yet o at room h = record { written = none_written o at; size = refl; left = h }

pub room_left : {o p x : List ℕ} {at a room : ℕ} → SoFar o at x p a room → a + room ≤ length p
room_left s = omega (arith, s.left, s.size)

-- The last is written.
pub and_last : {o p x : List ℕ} {at a room : ℕ} → SoFar o at x p a room → {y q : List ℕ} {b : ℕ} → Written p a y q b → Written o at (x ++ y) q b
and_last s w = then (omega (arith, s.left, s.written.end)) s.written w

module _ (most room : ℕ) {o p x : List ℕ} {at a : ℕ} (s : SoFar o at x p a (most + room)) where
  -- One more is written, of so many bytes at most,
  pub and_text : {y q : List ℕ} {b : ℕ} → length y ≤ most → Written p a y q b → SoFar o at (x ++ y) q b room
  and_text {y} {q} {b} h w =
      record {
        written = and_last s w;
        size = ap length w.buffer ∙ overwritten-length p a y (omega (arith, s.left, s.size)) ∙ s.size;
        left = omega (arith, s.left, w.end);
      }

  -- by a call that asks for room,
  pub and_if_room : (asked : ℕ) (y : List ℕ) {q : List ℕ} {b : ℕ} → asked ≤ most + room → length y ≤ most → Written p a (if_room asked p a y) q b → SoFar o at (x ++ y) q b room
  and_if_room asked y h l w = and_text l (rw (le-ltb (length p) (a + asked) (omega (arith, s.left, s.size))) at w)

-- or a byte.
pub and_byte : (room : ℕ) {o p x : List ℕ} {at a : ℕ} → SoFar o at x p a (1 + room) → (b : ℕ) → SoFar o at (x ++ b ∷ []) (set p a b) (a + 1) room
and_byte room {o} {p} {x} {at} {a} s b = and_text 1 room s (omega arith) (byte_written p a b (omega (arith, s.left, s.size)))

-- A byte, and a text behind it.
module _ (o : List ℕ) (at b : ℕ) (x : List ℕ) (h : at + length (b ∷ x) ≤ length o) where
  pub fits_behind : at + 1 + length x ≤ length (set o at b)
  fits_behind = room_left (and_byte (length x) (none_yet o at (1 + length x) (omega arith)) b)

  pub written_behind : {q : List ℕ} {r : ℕ} → Written (set o at b) (at + 1) x q r → Written o at (b ∷ x) q r
  written_behind w = then (omega arith) (byte_written o at b (omega arith)) w
