-- The answer of a step, put together.
use Prim.Native.Nat.{ℕ, ◌+◌}
use mathlib.Core.Path.{◌≡◌, sym, ap, subst, ◌∙◌}
use mathlib.Core.Bool.{Bool}
use mathlib.Core.List.{List, []}
use lib.Dec.{leb}
use Rattle.outline.specs.declared.Sheet.{Sheet}
use Rattle.printing.specs.Buffer.{fitting}
use Rattle.decimals.specs.Buffer.{Written}
use Rattle.integers.proofs.Cases.{by_cond}
use Rattle.printing.proofs.NothingWritten.{nothing_written}
use Rattle.text_program.specs.declared.State.{State}
use Rattle.text_program.specs.Stream.{Step, part}
use Rattle.chunk_lines.specs.declared.Stepped.{Stepped}
use Rattle.chunk_lines.specs.Stepping.{Steps}

module _ (q : Step) {before after : List ℕ} {to : ℕ} where
  pub steps_to : {filled : ℕ} → Written before to (fitting before to q.output) after filled → Steps q before to after (record { state = q.state; sheet = q.sheet; used = q.used; filled = filled; more = q.more })
  steps_to w = record { answer = ap (λ n. record { state = q.state; sheet = q.sheet; used = q.used; filled = n; more = q.more }) w.end; buffer = w.buffer }

-- A step that writes nothing.
pub silently : {st : State} {s : Sheet} {used to : ℕ} {more : Bool} {before : List ℕ} {r : Stepped} → r ≡ record { state = st; sheet = s; used = used; filled = to; more = more } → Steps (record { output = []; used = used; state = st; sheet = s; more = more }) before to before r
silently {st} {s} {used} {to} {more} {before} e =
    let k = steps_to (record { output = []; used = used; state = st; sheet = s; more = more }) (nothing_written before to) in
    record { answer = e ∙ k.answer; buffer = k.buffer }

-- A step is what it is equal to.
pub same_step : {q p : Step} {before after : List ℕ} {to : ℕ} {r : Stepped} → q ≡ p → Steps p before to after r → Steps q before to after r
same_step {before = before} {after} {to} {r} e h = subst (λ p. Steps p before to after r) (sym e) h

-- Part of a line writes nothing.
pub partly : (st : State) (s : Sheet) (size : ℕ) {to : ℕ} {before : List ℕ} {r : Stepped} → (let q = part st s size in r ≡ record { state = q.state; sheet = q.sheet; used = q.used; filled = to; more = q.more }) → Steps (part st s size) before to before r
partly st s size {to} {before} {r} = by_cond (λ q. r ≡ record { state = q.state; sheet = q.sheet; used = q.used; filled = to; more = q.more } → Steps q before to before r) (leb (st.gone + size) 32) (λ t. silently) (λ t. silently)
