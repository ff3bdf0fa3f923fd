-- The line at the front of what is left of a chunk: what the code finds of it decides which way the step goes.
use Prim.Native.Nat.{ℕ, zero, suc, ◌+◌, min}
use mathlib.Core.Path.{◌≡◌, refl, sym, ap, ap₂, ◌∙◌}
use mathlib.Core.Bool.{Bool, true, false, not, ◌&&◌, ◌||◌, cond}
use mathlib.Core.List.{List, ◌++◌}
use native.Mathlib.Omega.{arith}
use lib.Dec.{leb, ltb}
use lib.ListN.{length, take, replicate}
use borrow.Author.Tests.{lt-ltb, le-ltb, leb-false, ltb-true, ltb-false}
use Rattle.integers.proofs.Flags.{both_failed}
use Rattle.outline.specs.declared.Sheet.{Sheet}
use Rattle.std.specs.Prelude.{Option, None, Some}
use Rattle.parsing.specs.declared.Line.{Line}
use Rattle.parsing.specs.Grammar.{form_of}
use Rattle.newlines.specs.LineLength.{line_length}
use Rattle.parsing.specs.ReadForm.{reading}
use Rattle.text_program.specs.declared.State.{State}
use Rattle.text_program.specs.Program.{carry_out}
use Rattle.text_program.specs.Stream.{carried_step, part, gone_bytes, line_step}
use Rattle.text_program.proofs.Forms.{zeros_line}
use Rattle.text_program.proofs.Lines.{line_size}
use Rattle.chunk_lines.specs.private.Counting.{Counts, ending_over}

-- A line of which bytes are gone has none of the forms; else its form is that of its bytes in the chunk.
form_with_gone : (st : State) (bs : List ℕ) (form : Option Line) → (reading form).form ≡ form_of bs → (reading (cond (ltb 0 st.gone) None form)).form ≡ form_of (gone_bytes st ++ bs)
form_with_gone st bs form e = go st.gone
  where
    go : (gone : ℕ) → (reading (cond (ltb 0 gone) None form)).form ≡ form_of (replicate gone 0 ++ bs)
    go zero = e
    go (suc k) = rw (lt-ltb 0 (suc k) (omega arith)) (sym (zeros_line k bs))

-- A line of n bytes has its newline among m bytes, or they are the last.
ends-here : (n m : ℕ) (final : Bool) → (ltb n m || final) ≡ not (ltb m (n + 1) && not final)
ends-here n m final = go (ltb n m) refl final
  where
    go : (t : Bool) → ltb n m ≡ t → (final : Bool) → (t || final) ≡ not (ltb m (n + 1) && not final)
    go true e final = rw (le-ltb m (n + 1) (omega (arith, ltb-true n m e)))
    go false e true = rw (lt-ltb m (n + 1) (omega (arith, ltb-false n m e)))
    go false e false = rw (lt-ltb m (n + 1) (omega (arith, ltb-false n m e)))

-- What the code has found of the line: its form, the bytes that it takes, how many are left of the chunk, and how many of these are the line's.
pub record Found (rest : List ℕ) (form : Option Line) (whole left size : ℕ) : Type 0 where
  pub is_form : (reading form).form ≡ form_of (take (line_length rest) rest)
  pub all_bytes : whole ≡ line_length rest + 1
  pub all_left : left ≡ length rest
  pub bytes-here : size ≡ min whole left

module _ (final : Bool) (st : State) (s : Sheet) {rest : List ℕ} {form : Option Line} {whole left size : ℕ} (k : Found rest form whole left size) where
  is_size : size ≡ line_size rest
  is_size = let plus_one : line_length rest + 1 ≡ suc (line_length rest) = omega arith in k.bytes-here ∙ ap₂ (λ m n. min m n) (k.all_bytes ∙ plus_one) k.all_left

  abbrev Reached : Bool → Type 0
  Reached t = (leb 1_000_000 st.lines || ltb 33_000_000 (st.bytes + st.gone + size)) ≡ t

  limit_test : {t : Bool} → Reached t → (leb 1_000_000 st.lines || ltb 33_000_000 (st.bytes + st.gone + line_size rest)) ≡ t
  limit_test e = ap (λ m. leb 1_000_000 st.lines || ltb 33_000_000 (st.bytes + st.gone + m)) (sym is_size) ∙ e

  -- 10.
  pub goes_too_far : Reached true → line_step final st s rest ≡ ending_over st s left
  unfolding line_step
  goes_too_far e = rw (limit_test e, k.all_left)

  module _ (near : Reached false) where
    -- The counters have room.
    pub counts : Counts st size
    counts =
        let (few, small) = both_failed (leb 1_000_000 st.lines) (ltb 33_000_000 (st.bytes + st.gone + size)) near in
        record { lines = leb-false 1_000_000 st.lines few; bytes = ltb-false 33_000_000 (st.bytes + st.gone + size) small }

    abbrev Unended : Bool → Type 0
    Unended t = (ltb left whole && not final) ≡ t

    whole_test : {t : Bool} → Unended t → (ltb (line_length rest) (length rest) || final) ≡ not t
    whole_test e = ends-here (line_length rest) (length rest) final ∙ ap not (ap₂ (λ m n. ltb m n && not final) (sym k.all_left) (sym k.all_bytes) ∙ e)

    -- The chunk ends before the line.
    pub goes_partly : Unended true → line_step final st s rest ≡ part st s size
    unfolding line_step
    goes_partly e = rw (limit_test near, whole_test e, is_size)

    -- The line is carried out.
    pub goes_whole : Unended false → line_step final st s rest ≡ carried_step st (carry_out (st.lines + 1) (reading (cond (ltb 0 st.gone) None form)).form st.walk s) size
    unfolding line_step
    goes_whole e = rw (limit_test near, whole_test e, is_size, form_with_gone st (take (line_length rest) rest) form k.is_form)
