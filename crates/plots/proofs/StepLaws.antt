-- What no steps of the loop have: a write to another place than standard output, one that was not whole, a read that failed, or an end of the input where the last read gave bytes.
use Prim.Native.Nat.{ℕ}
use mathlib.Core.Path.{◌≡◌, refl}
use mathlib.Core.Bool.{Bool, true, false}
use mathlib.Core.List.{List, [], ◌∷◌}
use lib.Dec.{eqb}
use lib.IntN.{ℤ, pos}
use lib.ListN.{length, replicate}
use Rattle.outline.specs.declared.Sheet.{Sheet}
use Rattle.text_program.specs.declared.State.{State}
use Rattle.plots.specs.LoopSteps.{LoopSteps, none, called, received}

-- Where each write went, and what `write_all` answered.
abbrev pub writes : {last : Bool} {st : State} {s : Sheet} {buffer input out : List ℕ} → LoopSteps last st s buffer input out → List (ℤ × Bool)
writes none = []
writes (called room r descriptor text whole e d t w before) = (descriptor, whole) ∷ writes before
writes (received piece failed f before) = writes before

pub all_whole : {last : Bool} {st : State} {s : Sheet} {buffer input out : List ℕ} (steps : LoopSteps last st s buffer input out) → writes steps ≡ replicate (length (writes steps)) (pos 1, true)
all_whole none = refl
all_whole (called room r descriptor text whole e d t w before) = λ i. (d i, w i) ∷ all_whole before i
all_whole (received piece failed f before) = all_whole before

-- Whether each read failed.
abbrev pub failures : {last : Bool} {st : State} {s : Sheet} {buffer input out : List ℕ} → LoopSteps last st s buffer input out → List Bool
failures none = []
failures (called room r descriptor text whole e d t w before) = failures before
failures (received piece failed f before) = failed ∷ failures before

pub none_failed : {last : Bool} {st : State} {s : Sheet} {buffer input out : List ℕ} (steps : LoopSteps last st s buffer input out) → failures steps ≡ replicate (length (failures steps)) false
none_failed none = refl
none_failed (called room r descriptor text whole e d t w before) = none_failed before
none_failed (received piece failed f before) = λ i. f i ∷ none_failed before i

-- The piece that the last read gave; before the first read, one that is not empty.
abbrev pub last_read : {last : Bool} {st : State} {s : Sheet} {buffer input out : List ℕ} → LoopSteps last st s buffer input out → List ℕ
last_read none = 0 ∷ []
last_read (called room r descriptor text whole e d t w before) = last_read before
last_read (received piece failed f before) = piece

-- The end of the input was found where the last read gave no byte, and not before.
pub end_found : {last : Bool} {st : State} {s : Sheet} {buffer input out : List ℕ} (steps : LoopSteps last st s buffer input out) → last ≡ eqb (length (last_read steps)) 0
end_found none = refl
end_found (called room r descriptor text whole e d t w before) = end_found before
end_found (received piece failed f before) = refl
