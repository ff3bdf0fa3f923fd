use mathlib.Core.Path.{◌≡◌, ap, ◌∙◌}
use mathlib.Core.List.{List, ◌++◌, append_assoc}
use Prim.Native.Nat.{ℕ, ◌-◌}
use lib.ListN.{length, take, drop, take-append-drop}
use Rattle.std.specs.Prelude.{Option}
use Rattle.std.specs.Io.KnownBytes.{Appends}
use Rattle.std.proofs.KnownBytes.{Appends-trans}
use Rattle.std.proofs.lemmas.List.{take_rest}
use Rattle.plots.proofs.write_all.Goals as goal

-- One write more: its bytes go over from the rest to what is written.
onward : (old mid new : Option (List ℕ)) (text rest : List ℕ) (n : ℕ) → ((front : List ℕ) × Appends old mid front × (front ++ rest ≡ text)) → Appends mid new (take n rest) → (front : List ℕ) × Appends old new front × (front ++ take (length rest - n) (drop n rest) ≡ text)
onward old mid new text rest n (front, put, whole) a =
    (front ++ take n rest, Appends-trans old mid new front (take n rest) put a, ap (λ l. (front ++ take n rest) ++ l) (take_rest rest n) ∙ append_assoc front (take n rest) (drop n rest) ∙ ap (λ l. front ++ l) (take-append-drop n rest) ∙ whole)

pub loop-rest-preserved : goal.loop-rest-preserved
loop-rest-preserved g c =
    onward (g.W.Write.contents c.args.output.now) (g.W.Write.contents c.loop-rest.output) (g.W.Write.contents c.write.new.self) c.args.text.now c.loop-rest.rest.now c.in-Ok.n c.loop-rest.invariant c.in-Ok.ensures.bytes
