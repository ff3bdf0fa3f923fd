-- What the program's loop has read and written so far: the steps of specs/LoopSteps are a run of text_program/Chunks, and each turn of the loop adds to them.
use Prim.Native.Nat.{ℕ, ◌+◌, ◌-◌, ◌≤◌}
use mathlib.Core.Path.{◌≡◌, refl, sym, ap, subst, ◌∙◌}
use mathlib.Core.Bool.{Bool, true, false, true≢false}
use mathlib.Core.List.{List, [], ◌++◌, append_assoc, append-nil}
use native.Mathlib.Omega.{arith}
use lib.Dec.{eqb}
use lib.IntN.{ℤ, pos}
use lib.ListN.{length, take, drop, length-append, length-drop}
use lib.Seq.{drop-drop, paste, take-add, length-take-le}
use borrow.Author.Tests.{eqb-true}
use Rattle.std.specs.Prelude.{Option, None, Some, IfSome}
use Rattle.std.specs.Io.KnownBytes.{Appends, Consumes, IsAtEnd}
use Rattle.std.proofs.lemmas.List.{drop-take}
use Rattle.std.proofs.lemmas.List.Edits.{take-paste}
use Rattle.std.proofs.KnownBytes.{Appends-nil, Appends-trans, Consumes-nil, Consumes-trans}
use Rattle.outline.specs.declared.Sheet.{Sheet}
use Rattle.outline.specs.WalkCalls.{new_sheet}
use Rattle.decimals.proofs.BufferLaws.{in_front}
use Rattle.text_program.specs.declared.State.{State}
use Rattle.text_program.specs.Program.{program}
use Rattle.text_program.specs.Stream.{start, feed_call}
use Rattle.text_program.specs.Chunks.{Place, Run, here, reads, feeds, remaining_at}
use Rattle.text_program.proofs.Chunks.{chunks, chunks_so_far}
use Rattle.stream.specs.declared.Fed.{Fed}
use Rattle.stream.specs.Feeding.{Feeds}
use Rattle.plots.specs.Front.{AppendsFront}
use Rattle.plots.specs.LoopSteps.{LoopSteps, none, called, received, AllWritten}
use Rattle.plots.proofs.StillToWrite.{still_some}

-- ---- steps are a run of text_program/Chunks

-- One run and then another.
then : {p q : Place} {st : State} {s : Sheet} {buffer unread out more : List ℕ} → Run p st s buffer unread out → Run q p.state p.sheet p.buffer p.unread more → Run q st s buffer unread (out ++ more)
then here next = next
then (reads piece run) next = reads piece (then run next)
then {more = more} (feeds {out = out} final room r end e run) next = rw (append_assoc r.output out more) (feeds final room r end e (then run next))

abbrev place : State → Sheet → List ℕ → List ℕ → Place
place st s buffer rest = record { state = st; sheet = s; buffer = buffer; unread = rest }

-- Whatever may still come; after the end of the input nothing does.
steps-run : {last : Bool} {st : State} {s : Sheet} {buffer input out : List ℕ} → LoopSteps last st s buffer input out → (rest : List ℕ) → (last ≡ true → rest ≡ []) → Run (place st s buffer rest) start new_sheet [] (input ++ rest) out
steps-run none rest end = here
steps-run (called {last} {st} {s} {buffer} {input} {out} room r descriptor text whole e d t w before) rest end =
    subst (λ l. Run (place r.state r.sheet (drop r.used buffer) rest) start new_sheet [] (input ++ rest) (out ++ l)) (append-nil r.output ∙ sym t) (then (steps-run before rest end) (feeds last room r end e here))
steps-run (received {st} {s} {buffer} {input} {out} piece failed f before) rest end =
    subst (Run (place st s (buffer ++ piece) rest) start new_sheet [] ((input ++ piece) ++ rest)) (append-nil out) (rw (append_assoc input piece rest) (then (steps-run before (piece ++ rest) (λ e. absurd (true≢false (sym e)))) (reads piece here)))

-- Some steps have led here. What the input had before them, and has now, is what they read; what the output had, and has, is what they wrote: where that is known.
pub record SoFar (unread₀ held₀ unread held : Option (List ℕ)) (last : Bool) (st : State) (s : Sheet) (buffer : List ℕ) : Type 0 where
  pub input : List ℕ
  pub out : List ℕ
  pub steps : LoopSteps last st s buffer input out
  pub taken : Consumes unread₀ unread input
  pub put : Appends held₀ held out
  pub end : last ≡ true → IsAtEnd unread

pub at-start : (unread held : Option (List ℕ)) → SoFar unread held unread held false start new_sheet []
at-start unread held = record { input = []; out = []; steps = none; taken = Consumes-nil unread; put = Appends-nil held; end = λ e. absurd (true≢false (sym e)) }

pub all_written : AllWritten
all_written last st s buffer input out steps w rest end = chunks (place st s buffer rest) (input ++ rest) out (steps-run steps rest end) w

-- Where the S line is written: what was written is the program's output for what was read, whatever may still come, and whatever is known of the two streams.
pub at_return : {unread₀ held₀ unread held : Option (List ℕ)} {last : Bool} {st : State} {s : Sheet} {buffer : List ℕ} (k : SoFar unread₀ held₀ unread held last st s buffer) → st.written ≡ true → (rest : List ℕ) → (last ≡ true → rest ≡ []) → k.out ≡ program (k.input ++ rest)
at_return {last = last} {st} {s} {buffer} k w = all_written last st s buffer k.input k.out k.steps w

-- Where it is known what the input had: what was written is the program's output for it.
pub finished : (unread₀ held₀ unread held : Option (List ℕ)) {last : Bool} {st : State} {s : Sheet} {buffer : List ℕ} (k : SoFar unread₀ held₀ unread held last st s buffer) → ((rest : List ℕ) → (last ≡ true → rest ≡ []) → k.out ≡ program (k.input ++ rest)) → IfSome unread₀ (λ bytes. Appends held₀ held (program bytes))
finished None held₀ unread held k all = tt
finished (Some bytes) held₀ None held k all = absurd k.taken
finished (Some bytes) held₀ (Some rest) held k all = subst (λ b. Appends held₀ held (program b)) (sym k.taken) (subst (Appends held₀ held) (all rest k.end) k.put)

-- Where it is not written: a front of that.
pub stopped : (unread₀ held₀ unread held : Option (List ℕ)) {last : Bool} {st : State} {s : Sheet} {buffer : List ℕ} → SoFar unread₀ held₀ unread held last st s buffer → st.written ≡ false → IfSome unread₀ (λ bytes. AppendsFront held₀ held (program bytes))
stopped None held₀ unread held k w = tt
stopped (Some bytes) held₀ None held k w = absurd k.taken
stopped (Some bytes) held₀ (Some rest) held {last} {st} {s} {buffer} k w =
    let p = place st s buffer rest in
    let all : k.out ++ remaining_at p ≡ program (k.input ++ rest) = chunks_so_far p (k.input ++ rest) k.out (steps-run k.steps rest k.end) in
    (k.out, remaining_at p, k.put, all ∙ ap program (sym k.taken), still_some st s (buffer ++ rest) w)

-- Where of what a call puts only a front is written: a front of that.
pub cut_short : (unread₀ held₀ unread held held' : Option (List ℕ)) {last : Bool} {st : State} {s : Sheet} {buffer : List ℕ} (room : ℕ) (text : List ℕ) → text ≡ (feed_call last st s buffer room).output → AppendsFront held held' text → SoFar unread₀ held₀ unread held last st s buffer → IfSome unread₀ (λ bytes. AppendsFront held₀ held' (program bytes))
cut_short None held₀ unread held held' room text t f k = tt
cut_short (Some bytes) held₀ None held held' room text t f k = absurd k.taken
cut_short (Some bytes) held₀ (Some rest) held held' {last} {st} {s} {buffer} room text t (front, behind, a, e, some) k =
    let r = feed_call last st s buffer room in
    let p = place r.state r.sheet (drop r.used buffer) rest in
    let left = remaining_at p in
    let all : (k.out ++ (r.output ++ [])) ++ left ≡ program (k.input ++ rest) = chunks_so_far p (k.input ++ rest) (k.out ++ (r.output ++ [])) (then (steps-run k.steps rest k.end) (feeds last room r k.end refl here)) in
    let put : front ++ behind ≡ r.output ++ [] = e ∙ t ∙ sym (append-nil r.output) in
    let joined : (k.out ++ front) ++ (behind ++ left) ≡ (k.out ++ (r.output ++ [])) ++ left =
    sym (append_assoc (k.out ++ front) behind left) ∙ ap (λ l. l ++ left) (append_assoc k.out front behind ∙ ap (λ l. k.out ++ l) put) in
    (k.out ++ front, behind ++ left, Appends-trans held₀ held held' k.out front k.put a, joined ∙ all ∙ ap program (sym k.taken), simp length-append (omega (arith, some)))

-- ---- the steps as the loop makes them, on the bytes of its buffer from `at` up to `have`

-- What a call has left of them,
pub left : (buf : List ℕ) (at have used : ℕ) → at + used ≤ have → drop used (take (have - at) (drop at buf)) ≡ take (have - (at + used)) (drop (at + used) buf)
left buf at have used h =
    let n = have - (at + used) in
    let sizes : have - at ≡ used + n = omega arith in
    ap (λ k. drop used (take k (drop at buf))) sizes ∙ drop-take used n (drop at buf) ∙ ap (take n) (drop-drop used at buf)

-- which is moved to the front.
pub moved : (buf after : List ℕ) (at have : ℕ) → have ≤ length buf → after ≡ paste buf 0 (drop at buf) (have - at) → take (have - at) after ≡ take (have - at) (drop at buf)
moved buf after at have h e =
    let n = have - at in
    let front : n ≡ 0 + n = omega arith in
    ap (λ b. take n b) e ∙ ap (λ k. take k (paste buf 0 (drop at buf) n)) front ∙ take-paste buf 0 (drop at buf) n (omega arith) (omega (arith, length-drop at buf))

-- A call on them, and a write of what it put at the front of `after`, the output's buffer.
pub after_write : (unread₀ held₀ unread held held' : Option (List ℕ)) (last : Bool) (st : State) (s : Sheet) (chunk before after : List ℕ) (r : Fed) (descriptor : ℤ) (text : List ℕ) (whole : Bool) → Feeds (feed_call last st s chunk (length before)) before after r → descriptor ≡ pos 1 → text ≡ take r.filled after → whole ≡ true → Appends held held' text → SoFar unread₀ held₀ unread held last st s chunk → SoFar unread₀ held₀ unread held' last r.state r.sheet (drop r.used chunk)
after_write unread₀ held₀ unread held held' last st s chunk before after r descriptor text whole f d t w a k =
    let call = feed_call last st s chunk (length before) in
    let size : r.filled ≡ length call.output = ap (λ (r : Fed). r.filled) f.answer in
    let written : text ≡ call.output = t ∙ in_front {n = r.filled} (record { buffer = f.buffer; end = omega (arith, size) }) in
    subst (λ (r : Fed). SoFar unread₀ held₀ unread held' last r.state r.sheet (drop r.used chunk)) (sym f.answer)
    (record { input = k.input; out = k.out ++ text; steps = called (length before) call descriptor text whole refl d written w k.steps; taken = k.taken; put = Appends-trans held₀ held held' k.out text k.put a; end = k.end })

-- A read that adds to them, at the front.
pub after_read : (unread₀ held₀ unread unread' held : Option (List ℕ)) (st : State) (s : Sheet) (bytes after : List ℕ) (have size : ℕ) (failed : Bool) → take have after ≡ bytes → have + size ≤ length after → failed ≡ false → Consumes unread unread' (take size (drop have after)) → (size ≡ 0 → IsAtEnd unread') → SoFar unread₀ held₀ unread held false st s bytes → SoFar unread₀ held₀ unread' held (eqb size 0) st s (take (have + size - 0) (drop 0 after))
after_read unread₀ held₀ unread unread' held st s bytes after have size failed t h f c z k =
    let piece = take size (drop have after) in
    let sum : have + size - 0 ≡ have + size = omega arith in
    let all : bytes ++ piece ≡ take (have + size - 0) after = ap (λ b. b ++ piece) (sym t) ∙ sym (take-add have size after) ∙ ap (λ i. take i after) (sym sum) in
    let sized : length piece ≡ size = length-take-le size (drop have after) (omega (arith, length-drop have after)) in
    subst (λ i. SoFar unread₀ held₀ unread' held (eqb i 0) st s (take (have + size - 0) after)) sized
    (subst (SoFar unread₀ held₀ unread' held (eqb (length piece) 0) st s) all
    (record { input = k.input ++ piece; out = k.out; steps = received piece failed f k.steps; taken = Consumes-trans unread₀ unread unread' k.input piece k.taken c; put = k.put; end = λ e. z (sym sized ∙ eqb-true (length piece) 0 e) }))
