-- `line_form` reads the line in what is left of s, or in a copy: the laws of `ShortLines` hold of both.
use Rattle.std.proofs.Common.{◌≡◌, ◌+◌, ◌-◌, ◌++◌, take, drop, length, ap, sym, ◌∙◌, arith}
use Rattle.std.proofs.lemmas.List.{drop_min, take_all, length-drop}
use Rattle.parsing.specs.ReadForm.{reading}
use Rattle.parsing.proofs.ShortLines.{newlines, text_of, stands, copied, text_room, chosen_line, chosen_next}
use Rattle.parsing.proofs.FrontLaws.{formed-other}
use Rattle.parsing.proofs.AskedForms.{asked_formed}
use Rattle.parsing.proofs.line_form.Goals.{then-rest-lt-LONGEST, else-rest-lt-LONGEST}
use Rattle.parsing.proofs.line_form.Goals as goal

pub front_form-requires : goal.front_form-requires
front_form-requires c =
    let s = c.args.s.now in
    let at = c.args.at in
    let start = c.min.result in
    let rest : take (length s - start) (drop start s) ≡ drop at s =
    take_all (length s - start) (drop start s) (omega (arith, length-drop start s))
    ∙ ap (λ i. drop i s) c.min.ensures ∙ drop_min at s in
    let text : c.if-rest-lt-LONGEST.text.now ≡ text_of (drop at s) =
    elim c.if-rest-lt-LONGEST.branch [
      | then-rest-lt-LONGEST w ↦ rw (← rest) (copied _ _ (ap (λ x. x.now) w.text-is ∙ ap (λ l. l ++ drop (length (take (length s - start) (drop start s))) newlines) w.copy_from_slice.ensures.after) w.if-rest-lt-LONGEST.true)
      | else-rest-lt-LONGEST w ↦ rw (← rest) (stands _ _ (ap (λ x. x.now) w.text-is) w.if-rest-lt-LONGEST.false)
    ] in
    rw text (text_room (drop at s))

pub returns-in_err-line : goal.returns-in_err-line
returns-in_err-line c =
    let s = c.args.s.now in
    let at = c.args.at in
    let start = c.min.result in
    let rest : take (length s - start) (drop start s) ≡ drop at s =
    take_all (length s - start) (drop start s) (omega (arith, length-drop start s))
    ∙ ap (λ i. drop i s) c.min.ensures ∙ drop_min at s in
    let text : c.if-rest-lt-LONGEST.text.now ≡ text_of (drop at s) =
    elim c.if-rest-lt-LONGEST.branch [
      | then-rest-lt-LONGEST w ↦ rw (← rest) (copied _ _ (ap (λ x. x.now) w.text-is ∙ ap (λ l. l ++ drop (length (take (length s - start) (drop start s))) newlines) w.copy_from_slice.ensures.after) w.if-rest-lt-LONGEST.true)
      | else-rest-lt-LONGEST w ↦ rw (← rest) (stands _ _ (ap (λ x. x.now) w.text-is) w.if-rest-lt-LONGEST.false)
    ] in
    ap reading c.from_residual.ensures ∙ sym (formed-other (at + 0)) ∙ chosen_line s at text c.in_err-line.ensures

pub overflow_add-result : goal.overflow_add-result
overflow_add-result c =
    let s = c.args.s.now in
    let at = c.args.at in
    let start = c.min.result in
    let rest : take (length s - start) (drop start s) ≡ drop at s =
    take_all (length s - start) (drop start s) (omega (arith, length-drop start s))
    ∙ ap (λ i. drop i s) c.min.ensures ∙ drop_min at s in
    let text : c.if-rest-lt-LONGEST.text.now ≡ text_of (drop at s) =
    elim c.if-rest-lt-LONGEST.branch [
      | then-rest-lt-LONGEST w ↦ rw (← rest) (copied _ _ (ap (λ x. x.now) w.text-is ∙ ap (λ l. l ++ drop (length (take (length s - start) (drop start s))) newlines) w.copy_from_slice.ensures.after) w.if-rest-lt-LONGEST.true)
      | else-rest-lt-LONGEST w ↦ rw (← rest) (stands _ _ (ap (λ x. x.now) w.text-is) w.if-rest-lt-LONGEST.false)
    ] in
    omega (arith, chosen_next s at text c.in_ok-line.ensures (omega arith) (omega arith))

pub returns : goal.returns
returns c =
    let s = c.args.s.now in
    let at = c.args.at in
    let start = c.min.result in
    let rest : take (length s - start) (drop start s) ≡ drop at s =
    take_all (length s - start) (drop start s) (omega (arith, length-drop start s))
    ∙ ap (λ i. drop i s) c.min.ensures ∙ drop_min at s in
    let text : c.if-rest-lt-LONGEST.text.now ≡ text_of (drop at s) =
    elim c.if-rest-lt-LONGEST.branch [
      | then-rest-lt-LONGEST w ↦ rw (← rest) (copied _ _ (ap (λ x. x.now) w.text-is ∙ ap (λ l. l ++ drop (length (take (length s - start) (drop start s))) newlines) w.copy_from_slice.ensures.after) w.if-rest-lt-LONGEST.true)
      | else-rest-lt-LONGEST w ↦ rw (← rest) (stands _ _ (ap (λ x. x.now) w.text-is) w.if-rest-lt-LONGEST.false)
    ] in
    asked_formed c.in_ok-line.line.form (at + c.in_ok-line.line.next) ∙ chosen_line s at text c.in_ok-line.ensures
