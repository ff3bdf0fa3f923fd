-- Which way a step goes, by the code's tests.
use Prim.Native.Nat.{ℕ}
use mathlib.Core.Path.{◌≡◌, refl, ap₂, ◌∙◌}
use mathlib.Core.Bool.{Bool, true, false, not, ◌&&◌, ◌||◌, cond}
use mathlib.Core.List.{List}
use lib.Dec.{eqb, ltb}
use lib.ListN.{length}
use Rattle.integers.proofs.Flags.{both_failed}
use Rattle.outline.specs.declared.Sheet.{Sheet}
use Rattle.printing.specs.Buffer.{line_room}
use Rattle.text_program.specs.declared.State.{State}
use Rattle.text_program.specs.Stream.{Step, halted, closing, line_step, step}
use Rattle.stream.specs.private.RoomForLine.{step_with_room}

module _ (final : Bool) (st : State) (s : Sheet) (chunk : List ℕ) (room : ℕ) where
  -- The S line is written, or there is no room for a line.
  pub steps_no_more : st.written ≡ true → step_with_room final st s chunk room ≡ halted st s
  unfolding step_with_room step
  steps_no_more e = go (ltb room line_room)
    where
      go : (t : Bool) → cond t (halted st s) (step final st s chunk) ≡ halted st s
      go true = refl
      go false = rw e

  pub lacks_room : ltb room line_room ≡ true → step_with_room final st s chunk room ≡ halted st s
  unfolding step_with_room
  lacks_room e = rw e

  -- What a step does where S is not written and there is room.
  abbrev opening : Step
  opening = cond st.ended (closing st s) (cond (final && (eqb (length chunk) 0 && eqb st.gone 0)) (closing st s) (cond (not final && eqb (length chunk) 0) (halted st s) (line_step final st s chunk)))

  module _ (on : st.written ≡ false) (roomy : ltb room line_room ≡ false) where
    opened : step_with_room final st s chunk room ≡ opening
    unfolding step_with_room step
    opened =
        ap₂
        (λ r w. cond r (halted st s) (cond w (halted st s) (opening)))
        roomy
        on

    -- The S line is due.
    pub steps_to_close : (st.ended || (final && (eqb (length chunk) 0 && eqb st.gone 0))) ≡ true → step_with_room final st s chunk room ≡ closing st s
    steps_to_close e = opened ∙ go st.ended (final && (eqb (length chunk) 0 && eqb st.gone 0)) e
      where
        go : (a b : Bool) → (a || b) ≡ true → cond a (closing st s) (cond b (closing st s) (cond (not final && eqb (length chunk) 0) (halted st s) (line_step final st s chunk))) ≡ closing st s
        go true b e = refl
        go false b e = rw e

    module _ (due : (st.ended || (final && (eqb (length chunk) 0 && eqb st.gone 0))) ≡ false) where
      not_due : step_with_room final st s chunk room ≡ cond (not final && eqb (length chunk) 0) (halted st s) (line_step final st s chunk)
      not_due =
          let (a, b) = both_failed st.ended (final && (eqb (length chunk) 0 && eqb st.gone 0)) due in
          opened ∙ ap₂ (λ a b. cond a (closing st s) (cond b (closing st s) (cond (not final && eqb (length chunk) 0) (halted st s) (line_step final st s chunk)))) a b

      -- Nothing is left of the chunk, and more is to come.
      pub steps_to_wait : (not final && eqb (length chunk) 0) ≡ true → step_with_room final st s chunk room ≡ halted st s
      steps_to_wait e = not_due ∙ rw e

      -- There is a line.
      pub steps_to_line : (not final && eqb (length chunk) 0) ≡ false → step_with_room final st s chunk room ≡ line_step final st s chunk
      steps_to_line e = not_due ∙ rw e
