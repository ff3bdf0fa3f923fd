-- `newline` searches what is left from `at` on.
use Rattle.std.proofs.Common.{◌≡◌, ◌+◌, ◌-◌, take, drop, length, ap, ◌∙◌, arith}
use Rattle.std.proofs.lemmas.List.{drop_min, take_all, length-drop}
use Rattle.newlines.specs.LineLength.{line_length}
use Rattle.newlines.proofs.Newlines.{searched}
use Rattle.newlines.proofs.newline.Goals as goal

pub returns : goal.returns
returns c =
    let s = c.args.s.now in
    let start = c.min.result in
    let rest : take (length s - start) (drop start s) ≡ drop c.args.at s =
    take_all (length s - start) (drop start s) (omega (arith, length-drop start s))
    ∙ ap (λ i. drop i s) c.min.ensures ∙ drop_min c.args.at s in
    ap (λ n. c.args.at + n) (c.unwrap_or.ensures ∙ searched _ c.memchr.result c.memchr.ensures ∙ ap line_length rest)
